-- A call that has answered and changed nothing took place in a turn of its own that `latest`
-- finds.
use Rattle.std.proofs.Common.{◌≡◌, ℕ, zero, suc, ◌<◌, inl, inr, false, leb, List, [], ◌∷◌, take, arith, Some, None, refl, sym, ap, subst}
use Rattle.std.proofs.lemmas.Bool.{cases_lt, lt-leb, and_right}
use Rattle.arena.specs.declared.layout.Layout.{Layout}
use Rattle.record.specs.Common.{Pair, MapCall, ManyPairs, reply, Call, answered, won, reply_told, map_at, written_log, entries_of_call, IsGreatestTurn, AreLines}
use Rattle.ordered_map.specs.OrderedMap.{Range, between}
use Rattle.ordered_map.specs.CallRules.{TakesNothing}
use Rattle.record.specs.declared.record.Line.{Line}
use Rattle.record.specs.declared.record.Finished.{Finished}
use Rattle.record.specs.Placed.{IsPlacedReading}
use Rattle.record.proofs.Lemmas.{entries_none}

-- An ordered read

-- a call whose turn is the greatest after which the map replies what it has answered is a reading
pub ordered_placed : (lay : Layout) (tries : ℕ) (calls : List Call) (lines : List Line) (r : Finished) (call : MapCall) (turn : ℕ) → AreLines lay tries calls lines → won lay lines r.client.0 ≡ None → r.call ≡ answered lines r.client.0 → r.moment ≡ Some turn → IsGreatestTurn (λ m. reply_told r.answer ≡ Some (reply call (map_at calls lines m))) r.begin r.end turn → IsPlacedReading calls lines call r
ordered_placed lay tries calls lines r call turn a unwon number moment greatest = record {
  none = subst (λ (n : ℕ). entries_of_call r.client.0 n (written_log lines) ≡ 0) (sym number) (entries_none lay tries calls lines a r.client.0 unwon);
  turn = turn;
  moment = moment;
  greatest = greatest;
}

-- what a range answers that takes nothing
none_between : (low high : ℕ) (m : List Pair) → high < low → between low high m ≡ []
none_between low high [] i = refl
none_between low high (p ∷ ps) i = elim (cases_lt high p.key) [
  | inl q ↦ rw (lt-leb p.key high q, and_right (leb low p.key) false refl) (none_between low high ps i)
  | inr q ↦ rw (lt-leb low p.key (omega (q, i, arith))) (none_between low high ps i)
]

pub nothing_taken : (low high most : ℕ) (m : List Pair) → TakesNothing low high most → reply (Range low high most) m ≡ ManyPairs []
nothing_taken low high most m (inl none) = rw none refl
nothing_taken low high most m (inr empty) = rw (none_between low high m empty) (ap ManyPairs (none_taken most))
  where
    none_taken : (n : ℕ) → take n (let ps : List Pair = [] in ps) ≡ []
    none_taken zero = refl
    none_taken (suc n) = refl
