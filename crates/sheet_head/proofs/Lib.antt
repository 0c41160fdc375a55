pub mod Lists
pub mod Heads
pub mod Lines
