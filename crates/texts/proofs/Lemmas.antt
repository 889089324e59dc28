-- What the layers above know of texts besides their clauses, exported from one
-- place: no other module of these proofs can be named outside. Declares nothing.
pub use Rattle.texts.proofs.Numbers.{same_number}
pub use Rattle.texts.proofs.HaveRead.{begins}
pub use Rattle.texts.proofs.Refusals.{passed_on, settled_bad, settled_ok}
pub use Rattle.texts.proofs.PlainRows.{plain_append, plain_number, plain_row}
