-- Laws of translation and of address lists.
pub mod OneToOne
pub mod Distinct
pub mod Banks
pub mod Counts
pub mod Entered
pub mod OneCell
pub mod PerBank
pub mod Masks
pub mod Places
pub mod Examples
