-- The frame and the table of ways that the walk over the arrangements reads, and what it keeps.
pub mod Framed
pub mod Frame
pub mod Ways
pub mod Kept
pub mod Table
pub mod Meeting
pub mod Walks
