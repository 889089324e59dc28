pub mod Tally
pub mod Words
