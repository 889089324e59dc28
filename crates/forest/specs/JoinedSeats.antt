-- Passes whose seats have been joined.
use Rattle.std.specs.Prelude.{◌≡◌, ◌<◌, ◌⊎◌, ℕ, suc, List, [], ◌∷◌}
use Rattle.histories.specs.Common.{Layout, History, Extends, log, IsRun}
use Rattle.tables.specs.declared.view.SeatedPass.{SeatedPass}
use Rattle.tables.specs.TableRule.{history_of, seated_pass}
use Rattle.tables.specs.Traces.{rows_of}
use Rattle.tables.specs.Shares.{IsBetweenCalls, entries_of}
use Rattle.tables.specs.Passes.{PassView, HoldsOfOwn, IsLook, HasBlamed, run_of, done_of, steps_of}

-- the pass p, one look at the table later: it has no entry more, and is between two calls
pub record IsFrom (allows : Layout → History → ℕ → Type 0) (p : PassView) (k : SeatedPass) : Type 0 where
  pub is : k ≡ seated_pass p.number p.layout p.planting k.memory k.known
  pub is_pass : p.number < p.layout.passes
  pub sound : IsRun allows p.layout (history_of p.planting k.known)
  pub rest : IsBetweenCalls p.layout p.number (history_of p.planting k.known) p.share
  pub ends : Extends (history_of p.planting k.known) (run_of p)
  pub done : entries_of p.number (log p.layout (history_of p.planting k.known)) ≡ done_of p
  pub steps : rows_of p.number k.known ≡ suc (steps_of p)
  pub looks : HoldsOfOwn IsLook p.number (run_of p) (history_of p.planting k.known)
  pub blamed : HasBlamed p

-- this pass is one of the list
abbrev pub IsOneOf : SeatedPass → List SeatedPass → Type 0
IsOneOf k [] = ⊥
IsOneOf k (q ∷ qs) = (k ≡ q) ⊎ IsOneOf k qs

-- each of the passes, one step later, is one of these
abbrev pub AreIn : (Layout → History → ℕ → Type 0) → List PassView → List SeatedPass → Type 0
AreIn allows [] ks = Unit {0}
AreIn allows (p ∷ ps) ks = ((k : SeatedPass) × IsOneOf k ks × IsFrom allows p k) × AreIn allows ps ks
