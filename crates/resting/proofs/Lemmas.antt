-- What the layers above know of rests and of what is out of reach, exported from one place: no
-- other module of these proofs can be named outside. Declares nothing.
pub use Rattle.resting.proofs.Rows.{no_row_behind, taken_node_since}
pub use Rattle.resting.proofs.Resting.{away_more, away_now, rested_away, rested_now, rested_within, row_keeps}
pub use Rattle.resting.proofs.Never.{never_more}
pub use Rattle.resting.proofs.StaysUnborn.{unborn_out, unborn_since}
pub use Rattle.resting.proofs.Unnamed.{unnamed_out}
pub use Rattle.resting.proofs.Outside.{out_sorts, out_stays}
pub use Rattle.resting.proofs.Periods.{next_not_out, out_anew, out_since}
pub use Rattle.resting.proofs.Lookups.{absent_out, looked_up}
