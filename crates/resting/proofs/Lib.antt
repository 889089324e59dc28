mod Rows
mod Resting
mod Touched
mod Removed
mod Looks
mod Unborn
mod Never
mod StaysUnborn
mod Unnamed
mod Outside
mod Lookups
mod Periods
pub mod Lemmas
