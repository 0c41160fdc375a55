pub mod Ways
pub mod Table
pub mod Sides
