pub mod Choice
pub mod InPlace
pub mod OnRoute
