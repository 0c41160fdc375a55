pub mod Seen
pub mod Form
