-- What a table of ways says, and what each function that fills one writes.
pub mod Exact
pub mod Ways
pub mod Table
pub mod Fills
