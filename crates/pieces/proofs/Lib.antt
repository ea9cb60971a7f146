-- Laws of the pieces: the right lengths and their test; a change of one place, and what it leaves; a list in parts.
pub mod Right
pub mod Change
pub mod Chunks
pub mod Lens
