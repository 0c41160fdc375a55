pub mod Each
pub mod Preferring
pub mod Reaching
pub mod Solving
