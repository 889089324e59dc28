-- What the layers above know of players besides their clauses, exported from one
-- place: no other module of these proofs can be named outside. Declares nothing.
pub use Rattle.player.proofs.Played.{stands_played}
pub use Rattle.player.proofs.Followed.{run_of, told}
