-- What the layers above know of updates besides their clauses, exported from one place: no other
-- module of these proofs can be named outside. Declares nothing.
pub use Rattle.edits.proofs.Filling.{fills_next}
pub use Rattle.edits.proofs.GoingOn.{joined_spends, placed_same, weighs_next}
pub use Rattle.edits.proofs.Nearer.{fewer_fills}
pub use Rattle.edits.proofs.ReadWords.{head_read, leaf_read, fork_read, begun_read, unread, begun_left, key_then_value, value_then_high, told_turn, told_spends, told_nearer}
pub use Rattle.edits.proofs.PairFills.{behind_filled, value_behind_key, high_behind_value, key_behind_value}
pub use Rattle.edits.proofs.FilledNodes.{IsLeafWith, IsForkWith, head_is, leaf_with, fork_with}
pub use Rattle.edits.proofs.NodePlaces.{hand_is, piece_is}
pub use Rattle.edits.proofs.PairPlaces.{take_whole}
pub use Rattle.edits.proofs.Making.{leaf_told, told_end}
pub use Rattle.edits.proofs.Turns.{fills_word, guard_asks, guard_begins, guard_kept, guard_told, guard_walks, scx_asks, scx_done, walks_on}
