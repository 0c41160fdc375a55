pub mod Limits
pub mod Theorem
pub mod Left
