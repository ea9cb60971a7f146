-- Inner to the proof of code: nobody has to believe it.
pub mod Answers
