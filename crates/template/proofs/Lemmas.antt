-- What the layers above know besides the clauses of walks, and of who was in the way of a call,
-- exported from one place: no other module of these proofs can be named outside. Declares nothing.
pub use Rattle.template.proofs.WalkBounds.{walk_loads, walk_fills_not, walk_ready_first, walk_ready_run, found_gives, found_below, found_blank, found_class, found_level, found_more, found_by_more, found_either, found_trail, found_under, found_stood, passed_named, settled_asked, turned_lost, found_holds, no_deeper, said_low}
pub use Rattle.template.proofs.WalkTurns.{own_since, in_tree}
pub use Rattle.template.proofs.Promised.{promised_allowed, promised_more}
pub use Rattle.template.proofs.Tracking.{tracks_by_others, tracks_by_scx, tracked_makes}
pub use Rattle.template.proofs.Inserting.{either_mode, leaf_edit_words, edit_promised, put_above_promised, swap_fits_there, split_fits_there, join_fits_there, surely_on, child_on, parent_surely, grand_surely}
pub use Rattle.template.proofs.Deleting.{join_promised}
pub use Rattle.template.proofs.EndPromised.{end_edit_promised, end_join_promised}
pub use Rattle.template.proofs.Stood.{stood_inside, opened_if_stood}
pub use Rattle.template.proofs.EndFound.{found_small, found_own, found_told, found_end}
pub use Rattle.template.proofs.Contending.{changed_contended, contended_later, contended_wider, failed_contended, finalized_contended, way_contended}
pub use Rattle.template.proofs.WalkEdges.{walk_begins, head_to_key, head_to_more, head_ends, head_to_child, key_to_child, key_ends, child_to_head, more_to_pair, pair_to_value, pair_to_pair, pair_ends, value_to_high, high_ends}
pub use Rattle.template.proofs.Tries.{BeginsNoTry, others_begin_none, own_begins, own_begins_none, tries_more, tries_begin, newest_more, newest_now, other_kind_begins_none, other_node_begins_none, help_begins_none, llx_begins_none, vlx_begins_none, scx_begins_none, walk_begins_none, walk_past_root}
pub use Rattle.template.proofs.Needed.{one_row, tried_one, next_more, in_newest_more, in_newest_now, next_first, tried_in, next_again, lost_to, tried_few, alone_once}
