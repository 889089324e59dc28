mod Begun
mod Told
mod Ordered
mod Legality
mod Commands
pub mod Lemmas
