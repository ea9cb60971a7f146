-- What a function of two components gives. Inner to the proof of code: nobody has to believe it.
pub mod Gives
