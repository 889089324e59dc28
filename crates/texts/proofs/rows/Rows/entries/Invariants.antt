use Rattle.std.proofs.Common.{ℕ, ◌≡◌, ◌≤◌, ◌<◌, ◌+◌, ◌-◌, ◌^◌, ◌++◌, List, map, All, vec_len}
use Rattle.texts.specs.Reads.{HasRead}
use Rattle.texts.proofs.rows.Rows.entries.Given as goal

abbrev pub invariant-loop-entries : goal.invariant-loop-entries
invariant-loop-entries g l =
    (vec_len l.entries ≤ 65536)
    × All (g.F.Format.grammar l.format).Accepts l.entries.items
    × ((bytes : List ℕ) (head : List (List (List ℕ))) → HasRead g.R.Read.remaining bytes head l.fn.self → HasRead g.R.Read.remaining bytes (head ++ map (g.F.Format.grammar l.format).row_of l.entries.items) l.self)
    × (l.fn.self.number < 2 ^ 32 → l.self.number ≡ l.fn.self.number + vec_len l.entries)

abbrev pub decreases-loop-entries : goal.decreases-loop-entries
decreases-loop-entries g l = 65536 - vec_len l.entries
