-- The tie between the formulas of specs/ and the model.
pub mod Closed
pub mod Columns
