-- What a vector instruction is given and where its result goes.
pub mod Inner
