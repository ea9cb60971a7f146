-- That only one outcome fits a call.
pub mod Unique
