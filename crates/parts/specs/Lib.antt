-- The state of a run in parts: as a struct, as sixteen words, and what the C calls leave. What `inner` holds is inner to the code.
pub mod Run
pub mod Words
pub mod Inner
