pub mod Shown
pub mod Made
pub mod Sound
