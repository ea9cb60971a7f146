-- The laws that the proofs of the functions rest on, and what a footprint lists.
pub mod Grown
pub mod Bytes
pub mod Foot
