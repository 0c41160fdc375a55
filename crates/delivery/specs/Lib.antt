pub mod Costs
pub mod Held
