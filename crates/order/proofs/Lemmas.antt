-- What the layers above know of ordered reads besides their clauses, exported from one place: no
-- other module of these proofs can be named outside. Declares nothing.
pub use Rattle.order.proofs.Looking.{walk_found}
pub use Rattle.order.proofs.Nearby.{found_then, searches_on}
pub use Rattle.order.proofs.Snapping.{has_below, has_root}
pub use Rattle.order.proofs.Ready.{read_ready_first}
pub use Rattle.order.proofs.Turning.{stays_high, stays_shared, turned}
pub use Rattle.order.proofs.Turns.{answers_all, begins_root, begins_walk, ends_refused, near_answers, next_waits, placed_nearer, told as answers_right, walk_waits}
