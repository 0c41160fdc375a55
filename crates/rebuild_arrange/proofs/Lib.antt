pub mod Zeros
pub mod Base
pub mod Ends
pub mod Others
pub mod Tables
pub mod Arranging
