pub mod Order
pub mod Passed
pub mod Accepted
pub mod Answers
pub mod Lowest
pub mod Alike
pub mod Held
