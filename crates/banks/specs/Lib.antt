-- The definitions of translation and of address lists. What `inner` holds is inner to the code.
pub mod Bank
pub mod Line
pub mod Inner
