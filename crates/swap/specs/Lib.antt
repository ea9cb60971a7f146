-- What a Rattle caller gets. What `inner` holds is inner to the code.
pub mod Answers
pub mod Inner
