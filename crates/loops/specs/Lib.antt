-- What `inner` holds is inner to the code.
pub mod Inner
