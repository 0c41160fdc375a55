-- What the planner computes, as definitions on numbers and lists. docs/SPECIFICATION.md says the same in words, by sections, and every contract cites these.
-- Read them in this order.
pub mod Lists
pub mod Whole
pub mod Job
pub mod Plan
pub mod StopSet
pub mod Cost
pub mod Legs
pub mod Nearest
pub mod TwoOpt
pub mod Region
pub mod Rebuild
pub mod Settle
pub mod Run
pub mod Live
pub mod Vans
pub mod Roads
pub mod Refusals
pub mod Numbers
pub mod Calls
pub mod File
pub mod Promise
pub mod Days
pub mod Studios
pub mod Rises
pub mod Sums
