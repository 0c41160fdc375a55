pub mod Laws
pub mod Table
pub mod Limits
pub mod Sides
