mod SameWords
mod Openings
mod Shapes
mod Shares
mod Values
mod Named
mod Found
mod Plans
mod Packed
mod Taken
mod TakenNodes
mod Bools
pub mod Lemmas
mod Places
