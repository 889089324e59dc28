-- What the layers above know of maps, and of the words that hold them, exported from one place:
-- outside this module and `MapLemmas` alone can be named. Declares nothing.
pub use Rattle.ordered_map.proofs.Meanings.{one_spelling, entered_begun, wins_of, makes_since, leaf_covered, leaf_taken_out, leaf_taken_at_end}
pub use Rattle.ordered_map.proofs.Stood.{was_now, was_passed}
pub use Rattle.ordered_map.proofs.Past.{walk_stays, path_next}
pub use Rattle.ordered_map.proofs.Inside.{tree_inside}
pub use Rattle.ordered_map.proofs.Pending.{begun_edit}
pub use Rattle.ordered_map.proofs.Grown.{none_edited}
pub use Rattle.ordered_map.proofs.Blamed.{blame_finalizer}
pub use Rattle.ordered_map.proofs.ChangedFields.{blame_field}
pub use Rattle.ordered_map.proofs.Runs.{makes_at, begun_named, shaped_change}
pub use Rattle.ordered_map.proofs.EditPlans.{leaf_plan_says, join_plan_says, end_leaf_plan_says, end_join_plan_says}
pub use Rattle.ordered_map.proofs.Trees.{items, same_tree, split_at, open_between, edited_local}
pub use Rattle.ordered_map.proofs.Holding.{SameSettled, same_pair, same_from, held_same, few_counted, counted_few, held_slots, held_next, held_count, from_rises, held_first, held_end, held_alone, low_items, high_items, low_pairs, high_pairs, same_pairs, same_leaf, high_leaf, low_leaf, rank_from, rank_below}
pub use Rattle.ordered_map.proofs.SlotReads.{get_here, get_behind, get_nowhere}
pub use Rattle.ordered_map.proofs.Moved.{settled_rank, settled_toward, settled_class, settled_leaf, settled_level, settled_said, settled_end, move_swap_by, move_split_by, move_levels, move_above, move_join_by}
pub use Rattle.ordered_map.proofs.Spanned.{same_shares, same_stays, same_keeps, same_fork}
pub use Rattle.ordered_map.proofs.Next.{or_else, or_none, found_before, before_above, part_on, end_below, rest_below, search_below}
pub use Rattle.ordered_map.proofs.NextPairs.{low_pair, pair_stays, pair_goes, search_tells}
pub use Rattle.ordered_map.proofs.Maps.{get_above, put_before, inserted, insert_keeps, deleted, delete_keeps, edited_rises, same_values, end_is, end_had, below_end, after_insert, after_delete, after_pop, after_pop_last, after_rule, neighbour_is, between_gives, between_rises, edit_gives, after_is}
pub use Rattle.ordered_map.proofs.Lists.{above_less, edited_below}
pub use Rattle.ordered_map.proofs.Children.{IsBeside, beside_same}
pub use Rattle.ordered_map.proofs.EndLeaf.{IsUpTo, end_small, end_up}
pub use Rattle.ordered_map.proofs.Parted.{key_of, IsOnSide, PartsFrom, shares_span, own_side, between_keeps, either_first, above_keeps, above_in}
pub use Rattle.ordered_map.proofs.Bits.{place_rising, place_falling}
pub use Rattle.ordered_map.proofs.PartedPairs.{some_first, some_last, parts_of_five}
pub use Rattle.ordered_map.proofs.FreshForks.{parted_level, fits_swap, fits_split, fits_first, fits_join, fits_above}
