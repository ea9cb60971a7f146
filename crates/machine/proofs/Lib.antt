-- The laws that the proofs of the functions rest on, and that only one outcome fits a call.
pub mod Start
pub mod Turn
pub mod Loop
pub mod Unique
