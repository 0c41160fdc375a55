pub mod Walks
pub mod Used
pub mod Sets
pub mod Locate
pub mod Holding
