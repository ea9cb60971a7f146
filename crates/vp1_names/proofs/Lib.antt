-- That a word and its normal form mean the same; that only one outcome fits a call.
pub mod Normal
pub mod Meaning
pub mod Unique
