pub mod Links
pub mod Changed
pub mod Places
pub mod Entries
pub mod Ordered
