pub mod Looks
pub mod Three
pub mod Sound
