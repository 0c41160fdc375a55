-- What the contracts of this crate and of the walk cite beside the definitions of `model`.
pub mod Ways
pub mod Surveys
