pub mod Form
pub mod Numbered
pub mod Reading
