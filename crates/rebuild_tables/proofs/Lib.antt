pub mod Plans
pub mod Ways
pub mod Weights
pub mod Frames
pub mod Trail
pub mod Steps
pub mod Begin
pub mod Costs
