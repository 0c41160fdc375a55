pub mod Changing
pub mod Moving
pub mod Lengthening
