-- What the contracts of this crate cite beside the definitions of `model` and `distance`.
pub mod Ends
