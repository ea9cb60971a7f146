-- The laws that the proofs of the functions rest on; that what a call leaves is read as it was left, and the calls come to the list call; that only one outcome fits a call.
pub mod Twelve
pub mod Fill
pub mod Struct
pub mod Stretch
pub mod Streaming
pub mod Feeding
pub mod Called
pub mod Back
pub mod Runs
pub mod Calls
pub mod Unique
