pub mod First
pub mod Counted
pub mod Checked
pub mod Loading
pub mod Answers
pub mod Held
