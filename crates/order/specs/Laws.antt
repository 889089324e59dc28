pub mod Kept
pub mod Search
pub mod Depth
pub mod Run
