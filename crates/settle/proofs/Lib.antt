-- Read from the end: `Bound` is the theorem about runs, `Going` what holds after each round, and the others lead up to it.
pub mod Laws
pub mod Units
pub mod Decay
pub mod Mixed
pub mod Bar
pub mod Values
pub mod Averaged
pub mod Going
pub mod Bound
pub mod Runs
mod Examples
