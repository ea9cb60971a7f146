-- A bit operation by its truth table.
pub mod Bitop
