pub mod Walk
pub mod Calls
pub mod Plans
pub mod Places
pub mod Rows
pub mod Reading
pub mod Full
