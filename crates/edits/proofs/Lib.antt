mod PairPlaces
mod NodePlaces
mod Nearer
mod Widened
mod Undisturbed
mod Making
mod Taking
mod Turns
mod ReadWords
mod FilledNodes
mod PairFills
mod Looking
mod Filling
mod Beginning
mod Stepping
mod Blaming
pub mod Lemmas
mod GoingOn
