pub mod Sound
pub mod Stands
