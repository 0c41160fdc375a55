-- What the contracts of this crate cite beside the definitions of `model`.
pub mod Sets
pub mod Places
pub mod Held
