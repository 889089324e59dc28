pub mod Calls
pub mod Gates
pub mod Histories
pub mod Outcomes
pub mod Turns
