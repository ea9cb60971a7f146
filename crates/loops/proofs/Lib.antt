-- The laws of sign flags beside the bytes, of unsigned results that are never clipped, of the sixteen words of vadd9, and of a bit operation on
-- packed flags.
pub mod Beside
pub mod Unclipped
pub mod Words9
pub mod Compared
