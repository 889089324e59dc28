-- What is remembered of no line.
use Rattle.std.proofs.Common.{◌≡◌, ℕ, true, false, List, [], length, None, refl}
use Rattle.histories.specs.Common.{Layout, Start}
use Rattle.record.specs.Common.{Call, AreLines}
use Rattle.judge.specs.Histories.{Judged, seen_history}
use Rattle.audit.specs.After.{IsSoFar, AreClientsAfter}
use Rattle.audit.specs.declared.client.ClientState.{ClientState}

pub after_start : (lay : Layout) (tries : ℕ) (calls : List Call) (judge : Judged) (clients : List ClientState) → judge.layout ≡ lay → seen_history judge ≡ Start lay.mode → length clients ≡ lay.passes → AreClientsAfter lay calls [] clients → IsSoFar lay tries calls judge clients 0 0 None None false false false []
unfolding AreLines
after_start lay tries calls judge clients same first many each = record {
  layout = same;
  seen = first;
  in_order = tt;
  turn = refl;
  entries = refl;
  last = refl;
  owed = refl;
  fits = λ entry fit due. absurd (let z : false ≡ true = fit in cc);
  idle = refl;
  awaits = λ none owed. owed;
  all = many;
  clients = each;
}
