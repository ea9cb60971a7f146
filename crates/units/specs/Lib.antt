-- The paper's number and values for each answer to a triple.
pub mod Inner
