-- Machines inside the machine of a call, as the clauses of straight code see them.
use Rattle.std.specs.Prelude.{◌≡◌, ℕ, List, Some}
use Rattle.histories.specs.Common.{Step, History, Call, IsRun}
use Rattle.tables.specs.declared.view.SeatedPass.{SeatedPass}
use Rattle.straight.specs.CallKinds.{Calls}
use Rattle.tables.specs.Traces.{Waits, Told}

-- What is said of a machine inside another: in which contexts it is there, as in a call of its
-- own that began later; what it has got in one; for which step it waits; and to which places
-- it may continue from a place.
pub record Inner (N : Type 0) : Type 1 where
  pub Context : Type 0
  pub told : Context → N → History → ℕ → Type 0
  pub waits : Context → N → History → Step → Type 0
  pub goes : N → ℕ → N → Type 0

module _ {M N : Type 0} (o : Calls M) (i : Inner N) where
  -- A call of a machine, of this layout and number, with such a machine inside it.
  pub record Inside : Type 0 where
    pub call : Call
    pub is_layout : call.layout ≡ o.layout
    pub is_number : call.number ≡ o.number
    -- the machine with which it began, and that with its inner machine at some place
    pub first : M
    pub with_run : N → M
    -- what the machine gets, its inner machine gets
    pub tells : (m : N) (h : History) (v : ℕ) → IsRun o.allows call.layout h → o.ready (with_run m) call h (Some v) → (d : i.Context) × i.told d m h v
    -- what its inner machine waits for once it gets something, the machine does
    pub turns : (old now : N) (h : History) (v : ℕ) (s : Step) → i.goes old v now → ((d : i.Context) → i.told d old h v → i.waits d now h s) → IsRun o.allows call.layout h → o.ready (with_run old) call h (Some v) → o.waits (with_run now) call h s
    pub stays : (old now : N) (v : ℕ) → i.goes old v now → o.same (with_run old) (with_run now)

module _ {M N : Type 0} {o : Calls M} {i : Inner N} (k : Inside o i) (ps : List SeatedPass) where
  -- its inner machine waits for this step
  abbrev pub InnerWaits : N → Step → Type 0
  InnerWaits m step = Waits o.allows o.waits o.same o.left_dealt k.call ps k.first (k.with_run m) step

  -- the step of its inner machine has found v
  abbrev pub InnerIsTold : N → ℕ → Type 0
  InnerIsTold m v = Told o.allows o.waits o.same o.left_dealt k.call ps k.first o.ready (k.with_run m) v
