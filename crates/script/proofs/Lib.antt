mod Differ
mod Few
mod Parts
mod Fields
mod OfMode
mod LimitsRows
mod Spaced
mod NumberTexts
mod Updates
mod Calls
pub mod Lemmas
