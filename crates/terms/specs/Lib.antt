-- What is counted, and the numbers of answers. What `inner` holds is inner to the code.
pub mod Counts
pub mod Answers
pub mod Inner
