use Rattle.std.proofs.Common.{◌≡◌, ◌≤◌, length, drop}
use Rattle.script.specs.Part.{is_subsequence}
use Rattle.script.proofs.command.is_subsequence.Given as goal

abbrev pub invariant-loop-cell : goal.invariant-loop-cell
invariant-loop-cell l =
    (l.found ≤ length l.part) × (is_subsequence l.part l.whole ≡ is_subsequence (drop l.found l.part) (drop l.cell-index l.whole))
