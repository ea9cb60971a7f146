-- What each answer stands for. What `inner` holds is inner to the code.
pub mod Answers
pub mod Inner
