pub mod Exact
pub mod Saying
