-- What the layers above know of windows, of slots and of counts, exported from one place: no other
-- module of these proofs can be named outside. Declares nothing.
pub use Rattle.slots.proofs.Places.{place_inside, place_apart}
pub use Rattle.slots.proofs.Zeros.{untaken_zero}
pub use Rattle.slots.proofs.Untaken.{untaken_fills, untaken_own}
pub use Rattle.slots.proofs.Slots.{empty_apart, first_slot, held_apart, held_inside, name_inside, name_record, node_lap, record_discrete, scx_lap, with_other, with_same}
pub use Rattle.slots.proofs.FirstNames.{first_names, first_nodes_held, first_scx_held}
pub use Rattle.slots.proofs.Windows.{cleans, lets_go, moves, opens, renames, steps, stores_behind, takes}
pub use Rattle.slots.proofs.Counts.{counts_leave, counts_open, counts_rest, counts_rows, counts_stores, finds_away, leaves, polls, rest_other, rest_same, rests_more, seen_leaves, seen_moves, seen_now, seen_rests, seen_rows}
pub use Rattle.slots.proofs.Passing.{beside, passes_over}
pub use Rattle.slots.proofs.PassingRows.{node_rests, none_passed, passes_node, passes_scx, scx_rests}
