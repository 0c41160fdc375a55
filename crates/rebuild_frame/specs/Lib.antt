-- What the contracts of this crate cite beside the definitions of the frame.
pub mod Listing
