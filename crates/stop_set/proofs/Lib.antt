pub mod Digits
pub mod Laws
pub mod Live
