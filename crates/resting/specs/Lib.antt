pub mod Records
pub mod Rests
pub mod Reach
pub mod Dead
pub mod Periods
pub mod Lookups
