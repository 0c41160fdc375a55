pub mod Views
pub mod Seeing
pub mod Unplaced
