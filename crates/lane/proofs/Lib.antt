-- The laws of signed bytes, of saturated results, of each operation on one component, of results outside the clip range and which components are told as clipped,
-- of vclip's sign flag beside its former reading, and the papers' examples.
pub mod Biased
pub mod Saturated
pub mod Operations
pub mod Outside
pub mod Clipped
pub mod Edges
pub mod Clamped
pub mod Examples
