pub mod Leads
pub mod Numbers
pub mod Puts
pub mod Signs
