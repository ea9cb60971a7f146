-- What a reader must believe: each instruction's meaning, a step and a run, the census, the table of places, the claims, the places' numbers and the
-- answers about swapping.
pub mod Prog
pub mod Address
pub mod Vector
pub mod Step
pub mod Run
pub mod Parts
pub mod Census
pub mod Table
pub mod Claims
pub mod Number
pub mod Swap
