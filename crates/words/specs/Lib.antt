-- What a word is: its fields, the instruction that the model reads, the table of opcodes, and what the code's instruction means.
pub mod Second
pub mod Input
pub mod Operands
pub mod Address
pub mod Vector
pub mod Insn
pub mod Decoded
pub mod Fields
pub mod Table
pub mod Inner
