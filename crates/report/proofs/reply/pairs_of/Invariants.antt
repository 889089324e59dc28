use Rattle.std.proofs.Common.{◌≡◌, ℕ, List, ◌++◌, All, length}
use Rattle.report.specs.Answers.{rest_text, spaced_pairs}
use Rattle.report.specs.Spellings.{IsSpelledPair}
use Rattle.report.proofs.reply.pairs_of.Given as goal

-- the pairs so far, and what is left of the text; if that has pairs, so has what is left
abbrev pub invariant-loop-left : goal.invariant-loop-left
invariant-loop-left l = record {
  so_far : rest_text l.told ≡ spaced_pairs l.pairs.items ++ rest_text l.left;
  fit : All (IsSpelledPair l.version) l.pairs.items;
  rest : (pairs : List (ℕ × ℕ)) → All (IsSpelledPair l.version) pairs → rest_text l.told ≡ spaced_pairs pairs
      → (more : List (ℕ × ℕ)) × All (IsSpelledPair l.version) more × (rest_text l.left ≡ spaced_pairs more);
}

abbrev pub decreases-loop-left : goal.decreases-loop-left
decreases-loop-left l = length (rest_text l.left)
