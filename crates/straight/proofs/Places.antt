-- From place to place of a call.
use Rattle.std.proofs.Common.{ℕ, List, Option, None, refl, sym}
use Rattle.histories.specs.Common.{Layout, Step, History, Turn, Call, IsRun, MatchTurn}
use Rattle.tables.specs.declared.memory.PassMemory.{PassMemory}
use Rattle.tables.specs.declared.view.SeatedPass.{SeatedPass}
use Rattle.tables.specs.Traces.{CallBegins, Waits, Stands, begins, goes_on}
use Rattle.straight.proofs.Advances.{turn_map}

module _ {M : Type 0} (allows : Layout → History → ℕ → Type 0) (ready : M → Call → History → Option ℕ → Type 0) (waits : M → Call → History → Step → Type 0) (same : M → M → Type 0) (left : M → PassMemory → Type 0) (c : Call) (ps : List SeatedPass) (first : M) where
  -- its first turn takes it to a place
  pub starts : (now : M) (step : Step) → same first now → ((h : History) → IsRun allows c.layout h → ready first c h None → waits now c h step) → CallBegins allows ready left c ps first → Waits allows waits same left c ps first now step
  starts now step is turn x = record { planting = x.planting; known = x.known; is = x.is; sound = x.sound; so = (turn _ x.sound x.so.1, goes_on first is (begins refl (sym x.so.0))) }

  -- its machine's first turn
  pub stands : {A : Type 0} (now : M) (turn : Turn A) (answers : M → Call → History → A → Type 0) → same first now → ((h : History) → IsRun allows c.layout h → ready first c h None → MatchTurn turn (waits now c h) (answers now c h)) → CallBegins allows ready left c ps first → Stands allows waits same left c ps first answers now turn
  stands now turn answers is next x = turn_map turn _ _ _ _
      (λ s y. record { planting = x.planting; known = x.known; is = x.is; sound = x.sound; so = (y, goes_on first is (begins refl (sym x.so.0))) })
      (λ a y. record { planting = x.planting; known = x.known; is = x.is; sound = x.sound; so = (y, goes_on first is (begins refl (sym x.so.0))) })
      (next _ x.sound x.so.1)
