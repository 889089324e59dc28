use Rattle.std.proofs.Common.{ℕ, ◌≡◌, ◌≤◌, ◌<◌, []}
use Rattle.csv.specs.Records.{fields_of}
use Rattle.texts.specs.Fields.{field_of}
use Rattle.texts.proofs.rows.counts.Given as goal

abbrev pub invariant-loop-place : goal.invariant-loop-place
invariant-loop-place l = (j : ℕ) → 2 ≤ j → j < l.place → field_of (fields_of l.row) j ≡ []
