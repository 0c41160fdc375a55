pub mod Ran
pub mod Found
pub mod Longest
pub mod Once
pub mod Seen
