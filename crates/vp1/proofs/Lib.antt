-- What the calls of a run in parts tell, and that only one outcome fits a call.
pub mod Told
pub mod Unique
