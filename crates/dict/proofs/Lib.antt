mod Names
mod Readings
mod Endings
mod Ends
mod Undisturbed
mod Translating
mod DictEnds
mod AskedKinds
pub mod Lemmas
