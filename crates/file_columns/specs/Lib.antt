pub mod Field
pub mod Put
