-- The lemmas of this crate that the layers above may cite.
pub use Rattle.record.proofs.Begun.{start_unbegun, start_kept, some_turn, turn_number, begin_within, won_within}
pub use Rattle.record.proofs.Legality.{AreMapCalls, entries_none, log_step, lawful_is_legal}
pub use Rattle.record.proofs.Commands.{get_other, get_own, get_there, first_left, none_there, commands_append, commands_more, commands_next, next_at, none_left, call_at, of_commands, AreOf, map_calls}
pub use Rattle.record.proofs.Told.{value_told}
