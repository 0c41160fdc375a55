pub mod Codes
pub mod Plans
pub mod Listing
pub mod Turns
pub mod Filled
