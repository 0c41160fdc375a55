pub mod Ways
pub mod Weighing
pub mod Choice
pub mod Arrivals
