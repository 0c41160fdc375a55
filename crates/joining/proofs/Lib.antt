pub mod Write
pub mod Routes
pub mod Places
pub mod Leaving
pub mod Changed
