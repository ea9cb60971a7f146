-- The laws that the proof of `triple` rests on, and that only one outcome fits it.
pub mod Units
pub mod Arms
pub mod Unique
