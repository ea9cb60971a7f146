-- What an address instruction makes of the five pieces that it may change.
pub mod Inner
