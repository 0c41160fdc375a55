pub mod Limits
pub mod Missed
pub mod Own
pub mod Kept
pub mod Theorem
pub mod Accepted
