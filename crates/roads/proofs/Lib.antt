pub mod Walks
pub mod Plans
