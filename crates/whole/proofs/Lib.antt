pub mod Size
pub mod Laws
