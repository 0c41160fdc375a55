-- What the contracts of this crate cite beside the definitions of `model`, `distance` and `two_opt_cuts`.
pub mod Pairs
pub mod Weighed
