pub mod Regions
pub mod Outcome
