mod Following
mod Placing
mod Searching
mod Nearby
mod Blaming
mod Snapping
mod Looking
mod Turning
mod Turns
mod Nearer
mod Undisturbed
mod Finding
mod Visiting
mod RangeVisits
mod Ready
pub mod Lemmas
