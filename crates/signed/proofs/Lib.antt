-- Laws of small signed numbers.
pub mod Z
pub mod Shift
