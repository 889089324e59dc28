-- What a pass has itself found in the info of a node it has found for ever.
use Rattle.std.proofs.Common.{ℕ, inr}
use Rattle.histories.specs.Common.{Row, Kind, HasFound, History, ◌⊳◌, Extends}
use Rattle.arena.proofs.Lemmas.{ends_trans}
use Rattle.prims.specs.FoundThere.{HasFoundThere}

-- after any row
pub there_more : (c : ℕ) (h start : History) (n s : ℕ) (r : Row) → HasFoundThere c h start n s → HasFoundThere c (r ⊳ h) start n s
there_more c h start n s r x = record { row = x.row; before = x.before; within = inr x.within; since = x.since; own = x.own; word = x.word; found = x.found }

-- after any rows
pub there_later : (c : ℕ) (h m start : History) (n s : ℕ) → Extends h m → HasFoundThere c m start n s → HasFoundThere c h start n s
there_later c h m start n s e x = record { row = x.row; before = x.before; within = ends_trans h m (x.row ⊳ x.before) e x.within; since = x.since; own = x.own; word = x.word; found = x.found }

-- since an earlier moment, too
pub there_wider : (c : ℕ) (h m start : History) (n s : ℕ) → Extends m start → HasFoundThere c h m n s → HasFoundThere c h start n s
there_wider c h m start n s e x = record { row = x.row; before = x.before; within = x.within; since = ends_trans x.before m start x.since e; own = x.own; word = x.word; found = x.found }

-- what its newest step of some kind has found
pub found_there : (c : ℕ) (h start : History) (kind : Kind) (n s : ℕ) → HasFound c h start kind n s → HasFoundThere c h start n s
found_there c h start kind n s x = record { row = x.row; before = x.before; within = x.last.within; since = x.since; own = x.last.own; word = x.last.word; found = x.found }
