-- What the layers above know of LLX, SCX and VLX besides their clauses, exported from one
-- place: no other module of these proofs can be named outside. Declares nothing.
pub use Rattle.prims.proofs.FillsNot.{llx_fills_not, vlx_fills_not}
pub use Rattle.prims.proofs.LooksNot.{put_looks_not}
pub use Rattle.prims.proofs.LlxAnswers.{cell_opened, finalized_at_start, ready_at_start}
pub use Rattle.prims.proofs.UntakenNodes.{put_untaken_node, taken_node_since, untaken_node_by_others, untaken_node_by_step}
pub use Rattle.prims.proofs.PutEntries.{put_covers, put_covers_then, put_entry, put_entry_then, put_finished, put_full}
pub use Rattle.prims.proofs.Alone.{alone_more, alone_now, moment_more, over_begins, over_ends, over_more, put_takes}
pub use Rattle.prims.proofs.PutRows.{untaken_at}
pub use Rattle.prims.proofs.Shares.{all_idle, all_over, ends_there, free_unnamed, left_own_node, left_own_scx, next_free, next_idle, next_unwon, none_taken, one_end, own_in_hand, same_end, share_by_others, share_by_put, share_by_scx, share_by_step, share_ends, taken_share, upper_end, whole_untouched, wins_in_progress}
pub use Rattle.prims.proofs.Usable.{put_ready_first, usable_now, usable_since, vlx_ready_first}
pub use Rattle.prims.proofs.Zeros.{left_zero}
pub use Rattle.prims.proofs.Snapshots.{among}
pub use Rattle.prims.proofs.Planned.{removed_those}
pub use Rattle.prims.proofs.Lists.{get_more}
pub use Rattle.prims.proofs.LlxTurns.{Knows, is_zero, knows, not_zero, turn_again, turn_compare, turn_first, turn_info, turn_mark, turn_read, turn_right, turn_state}
pub use Rattle.prims.proofs.PutTurns.{put_turn_start, turn_scx}
pub use Rattle.prims.proofs.ScxTurns.{begin_help, done_at, lost_at, turn_member, turn_new, turn_old, turn_plan, turn_seen, turn_start}
