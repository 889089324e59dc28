mod WalkTurns
mod WalkBounds
mod WalkEdges
mod Stood
mod Promised
mod Inserting
mod EndOfTrie
mod EndFound
mod Deleting
mod EndPromised
mod Tracking
mod Contending
mod Tries
mod Needed
pub mod Lemmas
