-- What the layers above know of HELP besides its clauses, exported from one
-- place: no other module of these proofs can be named outside. Declares nothing.
pub use Rattle.help.proofs.HelpTurns.{place_behind, to_all_frozen, to_commit, to_freeze, to_mark, to_member, to_new, to_next, to_old, to_seen, to_set_frozen, to_update}
