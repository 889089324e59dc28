-- What the layers above know of lawful histories, exported from one place: no other module of
-- these proofs can be named outside. Declares nothing.
pub use Rattle.histories.proofs.Changes.{Change, FillsNode, FillsScx, FreezeWins, IsNodeFill, IsScxFill, UpdateWins, aborts, change, commits, fills_node, fills_scx, freezes, lawful_more, lawful_row, lawful_tail, marks, nothing, sets_frozen, updates}
pub use Rattle.histories.proofs.Facts.{About, Facts, IsEnded, IsFlagged, IsMarker, IsOwned, child_node, descriptor_same, flagged_about, some_is_real, won_more}
pub use Rattle.histories.proofs.Quiet.{never_state, not_flag, not_state}
pub use Rattle.histories.proofs.Freezes.{first_frozen, freeze_descriptor, freeze_distinct, freeze_finds, freeze_held, freeze_in_progress, freeze_is_new, freeze_keeps_field, freeze_keeps_info, freeze_keeps_mark, freeze_keeps_scx, freeze_real, freeze_rest, freeze_stores}
pub use Rattle.histories.proofs.Updates.{update_about, update_changes, update_descriptor, update_differs, update_finds, update_flagged, update_held, update_holds, update_in_progress, update_is_first, update_keeps_info, update_keeps_mark, update_keeps_other, update_keeps_scx, update_split, update_win, update_won}
pub use Rattle.histories.proofs.Always.{Effect, effect, facts, facts_before, freeze, quiet, update}
pub use Rattle.histories.proofs.Moments.{Still, all_frozen_stays, descriptor_stays, finished_stays, lawful_since, marked_stays, named_more, named_scx_more, named_since, node_since, node_stays, scx_since, scx_stays, since, state_since, state_stays, still, still_since, won_since}
pub use Rattle.histories.proofs.Fields.{Logs, entry_of, fields_are, log_same, log_wins, logs, same, wins}
pub use Rattle.histories.proofs.Lasts.{holds_member, last_since, last_waits}
pub use Rattle.histories.proofs.Entries.{IsFinalizedBy, IsIn, by_final, entered_won, final_by, finalized_by_stays, newest, older, once, removed_stays, won_named, won_real}
pub use Rattle.histories.proofs.Finals.{aborted_unmarked, finalized_since, not_final, one_finalizer, win_not_final}
pub use Rattle.histories.proofs.Helping.{aborted_never_won, aborted_no_entry, about, committed_won, helper_freezes, helper_sets_frozen, is_over, over_aborts, over_committed, over_stays, started_more, stuck_stays, won_after}
pub use Rattle.histories.proofs.Blames.{blame_info, blame_mark, earlier, member_of}
pub use Rattle.histories.proofs.Owners.{named_scx_back, named_scx_inside, one_node_owner, one_scx_owner, own_node_inside, own_scx_inside, own_words_stay, stays_free}
pub use Rattle.histories.proofs.Unnamed.{field_back, stays_unnamed, unnamed_stays, word_back}
pub use Rattle.histories.proofs.Begins.{begins_kept, free_unset, owner_aborts, owner_freezes, passed_stays}
pub use Rattle.histories.proofs.Shapes.{IsFirst, begins_once, shaped_begin, shaped_more, shaped_since, shaped_tail}
pub use Rattle.histories.proofs.Unmentioned.{IsMention, unmentioned_by_fill, unmentioned_by_others, unmentioned_by_step, unmentioned_start, unmentioned_unnamed}
pub use Rattle.histories.proofs.Taking.{finished_taken, named_scx_taken, planned_taken, untaken_by_node, untaken_by_other_fill, untaken_by_others, untaken_by_step}
pub use Rattle.histories.proofs.Openings.{map_nodes, some_at_start, some_open, start_mode, start_nodes, start_planted, value_start}
pub use Rattle.histories.proofs.Keeps.{Kept, stays_ended}
pub use Rattle.histories.proofs.Members.{is_removed_of}
