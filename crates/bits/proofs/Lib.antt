-- The law of the four products.
pub mod Bitop
