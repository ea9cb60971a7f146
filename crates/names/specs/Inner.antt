-- How the code goes about it: nobody has to believe it.
pub mod Scan
pub mod Code
