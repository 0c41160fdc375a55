pub mod Plans
pub mod Gaps
pub mod Composed
