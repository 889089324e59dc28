use Rattle.std.proofs.Common.{◌≡◌, List, Some, All}
use Rattle.std.specs.Ordering.{nat_cmp}
use Rattle.std.specs.BTreeMap.{get as get_newest}
use Rattle.record.specs.Common.{get, Call, map_at, number_pairs}
use Rattle.record.specs.declared.record.Line.{Line}
use Rattle.linearization.specs.Entries.{AreEntries}
use Rattle.linearization.specs.Ordered.{most_told}
use Rattle.linearization.specs.Places.{changes}
use Rattle.linearization.proofs.ReadPairs.{IsToldBy}
use Rattle.linearization.proofs.places.Places.tells.Given as goal

abbrev pub invariant-loop-key : goal.invariant-loop-key
invariant-loop-key l = record {
  known : All (λ e. get_newest nat_cmp l.self.newest e.0 ≡ Some e.1) l.key-iterator;
  told : (calls : List Call) (lines : List Line) → AreEntries calls lines (changes l.self) → IsToldBy (λ j. get j (map_at calls lines l.turn)) l.initial.key-iterator (most_told l.command) (number_pairs l.pairs) l.key-iterator l.untold (number_pairs l.rest);
}
