-- Laws of the decoder: which rows refuse, and that an instruction's registers are there.
pub mod Law
pub mod Bound
pub mod Unkeyed
