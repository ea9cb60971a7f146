-- The six lent pieces and the places in them. What `inner` holds is inner to the code.
pub mod State
pub mod Place
pub mod Inner
