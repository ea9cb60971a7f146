-- Sixteen components at a time.
pub mod Lanes
pub mod Inner
