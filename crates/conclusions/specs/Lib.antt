pub mod Together
pub mod Tries
