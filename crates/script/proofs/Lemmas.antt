-- What the layers above know of scripts besides their clauses, exported from one
-- place: no other module of these proofs can be named outside. Declares nothing.
pub use Rattle.script.proofs.OfMode.{calls_are_of_mode}
