mod Values
mod Chains
mod Counts
mod Told
mod Weights
mod OrderedReads
mod ReadPairs
mod Falls
mod Keys
mod Turns
mod Readings
mod Depths
mod Spelled
pub mod Lemmas
