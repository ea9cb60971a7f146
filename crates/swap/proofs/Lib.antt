-- The laws that the proofs of the functions rest on, and that only one outcome fits a call.
pub mod Held
pub mod Calls
pub mod Unique
