-- What is listed. All of it is inner to the code: what an instruction touches is the model's to say.
pub mod Inner
