-- Small signed numbers.
pub mod Signed
