pub mod Rest
pub mod Picks
