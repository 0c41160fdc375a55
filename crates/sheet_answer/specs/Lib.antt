pub mod Sheets
pub mod Running
