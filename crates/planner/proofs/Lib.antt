pub mod Pair
pub mod Solving
pub mod Exact
pub mod Saying
pub mod Ran
