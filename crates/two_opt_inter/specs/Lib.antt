-- What the contracts of this crate cite beside the definitions of `model` and `two_opt_candidates`.
pub mod Move
