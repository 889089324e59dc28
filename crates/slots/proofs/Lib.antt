mod Places
mod Zeros
mod Untaken
mod Slots
mod FirstNames
mod Windows
mod Counts
mod Passing
mod PassingRows
pub mod Lemmas
