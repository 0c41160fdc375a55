pub mod Sets
pub mod Agree
pub mod Carried
pub mod Change
pub mod Theorem
