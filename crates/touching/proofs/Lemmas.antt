-- What the layers above know of steps and of what is dead, exported from one place: no other module
-- of these proofs can be named outside. Declares nothing.
pub use Rattle.touching.proofs.Present.{one_first, there_not_final}
pub use Rattle.touching.proofs.Moments.{taken_scx_since}
pub use Rattle.touching.proofs.Stepping.{step_touches}
pub use Rattle.touching.proofs.Putting.{row_puts}
pub use Rattle.touching.proofs.Dead.{let_go, marked_since, named_cell}
pub use Rattle.touching.proofs.Left.{HasWonAt, left_scx, left_since, left_untouched, won_at}
pub use Rattle.touching.proofs.Begun.{HasBegunEdit, begun_edit, below_named, leaf_then, new_named, word_then}
pub use Rattle.touching.proofs.Leaving.{IsMadeAt, IsPending, IsPutIn, new_facts, put_or_stood, was_since}
pub use Rattle.touching.proofs.Reaching.{index_now, reached_there}
pub use Rattle.touching.proofs.Stood.{is_was, reached_stood}
pub use Rattle.touching.proofs.Untaken.{IsOwnWord, never_stood, own_touched, row_fills, settled_zero}
