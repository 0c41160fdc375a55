pub mod ListLines
