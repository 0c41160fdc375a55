pub mod Arriving
pub mod Places
