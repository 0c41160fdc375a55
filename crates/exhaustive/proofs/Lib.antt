pub mod Arranging
pub mod Writing
pub mod Outcome
