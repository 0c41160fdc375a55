pub mod Apart
pub mod Pairs
pub mod Weighing
pub mod Moves
