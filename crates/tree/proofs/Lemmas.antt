-- What the layers above know of the machines of the tree besides their clauses, exported from one
-- place: no other module of these proofs can be named outside. Declares nothing.
pub use Rattle.tree.proofs.KeyEdits.{key_in_order}
