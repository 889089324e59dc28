pub mod Groves
pub mod Seedlings
pub mod Plantings
pub mod Laid
pub mod Orders
