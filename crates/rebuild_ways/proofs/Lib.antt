-- Laws on tables of ways: what is read of one, and how one is filled.
pub mod Laws
pub mod Filling
pub mod Gaps
