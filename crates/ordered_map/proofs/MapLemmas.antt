-- What the layers above know of histories in both modes of a map, a tree and a trie, exported from
-- one place. Where a trie needs it, a node has to be one that stays on the path, or a fork.
-- Declares nothing.
pub use Rattle.ordered_map.proofs.Meanings.{tree_run, trie_run, opening_run, opening_spells, start_spells, run_since, log_edits, spells_log, run_spells, update_makes, win_makes, quiet_spells, below_root, walk_first, walk_next, walk_answers}
pub use Rattle.ordered_map.proofs.MapRuns.{tree_not_final, path_not_final, path_remains, tree_remains, new_stood, levels_rise, stood_blank, root_head, passed_unmarked, passed_depth, child_stood, child_not_final, stood_depth, stood_settled, stood_in_field, children_apart, two_stood, two_level, two_not_final, two_says_none}
pub use Rattle.ordered_map.proofs.Rising.{rising_levels}
pub use Rattle.ordered_map.proofs.EndLeaf.{stood_holds, stood_counted, stood_turns, walk_turns, walk_beside, walk_own, walk_end, win_end}
pub use Rattle.ordered_map.proofs.Children.{has_child, parent_stood, had_stood, had_deeper, had_beside, had_low, had_high, had_keeps}
pub use Rattle.ordered_map.proofs.Strayed.{stays_fork, stays_shares, stays_on_side, walk_strays, stays_or_strays, strayed_next, strayed_more, walked_next, walked_answers, walked_stood, walked_since, walked_guarded, walked_above}
pub use Rattle.ordered_map.proofs.Nearby.{near_too, near_stays, near_turn}
pub use Rattle.ordered_map.proofs.Fits.{swap_fits, split_fits, above_fits, join_fits}
pub use Rattle.ordered_map.proofs.TrieRuns.{stood_parted}
pub use Rattle.ordered_map.proofs.Guarded.{HasComeBy, came, changed, guarded_next, guarded_win}
pub use Rattle.ordered_map.proofs.TrieEnds.{stays_passed, guarded_end}
