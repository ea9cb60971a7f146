-- What a line is: operands and their texts, the table of names, the line and the normal form of a word; what writing and reading give. What `inner` holds is inner to the code.
pub mod Line
pub mod Table
pub mod Calls
pub mod Inner
