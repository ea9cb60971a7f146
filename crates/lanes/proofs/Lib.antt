-- The laws of a loop over sixteen components, of lists of sixteen, of numbers made by a call each, of flags packed at the end, of how many are set, and of what a selector picks.
pub mod Listed
pub mod FromFn
pub mod Packing
pub mod Counting
pub mod Unpacking
pub mod Picked
