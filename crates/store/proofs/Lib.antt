-- Laws of loads, stores and the raw view.
pub mod Laws
pub mod Loops
pub mod Steps
pub mod Rows
pub mod Access
pub mod View
