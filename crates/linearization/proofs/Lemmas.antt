-- The lemmas of this crate that the layers above may cite.
pub use Rattle.linearization.proofs.Turns.{map_now, change_of_newest, IsRepliedIn, replied_turn}
pub use Rattle.linearization.proofs.Readings.{ordered_placed, nothing_taken}
pub use Rattle.linearization.proofs.Keys.{knows_told}
pub use Rattle.linearization.proofs.Falls.{falls}
pub use Rattle.linearization.proofs.Spelled.{spelled, are_spelled}
pub use Rattle.linearization.proofs.Depths.{trie_low}
pub use Rattle.linearization.proofs.OrderedReads.{map_rises, reply_tells}
