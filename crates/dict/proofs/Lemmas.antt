-- What the layers above know of calls of a dictionary besides their clauses, exported from one
-- place: no other module of these proofs can be named outside. Declares nothing.
pub use Rattle.dict.proofs.Ends.{edit_goes, edit_ends, get_ends, none_tried, once_past, read_ends}
pub use Rattle.dict.proofs.DictEnds.{dict_ends}
pub use Rattle.dict.proofs.AskedKinds.{asks_inside, kind_inside}
pub use Rattle.dict.proofs.Undisturbed.{was_contended}
