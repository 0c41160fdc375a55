pub mod Order
pub mod Looking
pub mod Filling
pub mod Last
pub mod Turns
pub mod Taking
