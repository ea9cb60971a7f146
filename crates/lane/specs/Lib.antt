-- What an operation makes of one component.
pub mod Lane
