pub mod Placed
pub mod Turns
