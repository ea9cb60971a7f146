-- The tie to the model.
pub mod Closed
pub mod Laws
