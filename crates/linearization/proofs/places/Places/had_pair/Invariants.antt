use Rattle.std.proofs.Common.{◌≡◌, ℕ, ◌≤◌, List}
use Rattle.record.specs.Common.{get, Call, map_at}
use Rattle.record.specs.declared.record.Line.{Line}
use Rattle.linearization.specs.Entries.{AreEntries}
use Rattle.linearization.specs.Places.{changes}
use Rattle.linearization.proofs.ReadPairs.{held}
use Rattle.linearization.proofs.places.Places.had_pair.Given as goal

-- the keys that are left have all that the map had
abbrev pub invariant-loop-key : goal.invariant-loop-key
invariant-loop-key l = (calls : List Call) (lines : List Line) (n : ℕ) → AreEntries calls lines (changes l.self) → l.first ≤ n → n ≤ l.last → held (λ j. get j (map_at calls lines n)) l.initial.key-iterator ≡ held (λ j. get j (map_at calls lines n)) l.key-iterator
