pub mod Repeats
pub mod Pairs
pub mod Weighing
pub mod Sides
