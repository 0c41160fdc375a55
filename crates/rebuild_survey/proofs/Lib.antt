pub mod Ways
pub mod Surveys
