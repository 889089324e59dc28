-- Machines that are called inside the call of another, as the clauses of straight code see them.
use Rattle.std.specs.Prelude.{◌≡◌, ℕ, List, Option, None}
use Rattle.histories.specs.Common.{Layout, Ghosts as Machine, Turn, Step, History, Call, IsRun, MatchTurn}
use Rattle.arena.specs.declared.machine.Shape.{Ghosts as Shape}
use Rattle.tables.specs.declared.view.SeatedPass.{SeatedPass}
use Rattle.straight.specs.CallKinds.{Calls}
use Rattle.tables.specs.Traces.{HoldsForCall, Trace, Waits, Told}

-- What is said of a machine that is called inside another's call: in which runs it is called, when
-- it may get something, when it waits for a step, which answers are right; and to which places
-- it may continue from a place, with a step and with its answer.
pub record InnerCall (N A : Type 0) : Type 1 where
  pub allows : Layout → History → ℕ → Type 0
  pub ready : N → Call → History → Option ℕ → Type 0
  pub waits : N → Call → History → Step → Type 0
  pub answers : N → Call → History → A → Type 0
  pub goes : N → N → Type 0
  pub ends : N → N → Type 0

-- what a machine's own conditions say of that
abbrev pub inner_machine : {S N A : Type 0} → Shape S → Machine N S A → InnerCall N A
inner_machine s m = record { allows = s.allows; ready = m.ready; waits = m.waits; answers = m.answers; goes = m.same; ends = m.same }

module _ {M N A : Type 0} (o : Calls M) (i : InnerCall N A) where
  -- A call of a machine, of this layout and number, inside which such a machine is called.
  pub record Host : Type 0 where
    pub call : Call
    pub is_layout : call.layout ≡ o.layout
    pub is_number : call.number ≡ o.number
    pub runs : (h : History) → IsRun o.allows call.layout h → IsRun i.allows call.layout h
    -- the machine with which it began, and that with its inner machine at some place
    pub first : M
    pub with_run : N → M
    -- what the machine waits for, its inner machine does
    pub opens : (m : N) (h : History) (s : Step) → o.waits (with_run m) call h s → i.waits m call h s
    -- what the machine gets, its inner machine gets
    pub tells : (m : N) (h : History) (got : Option ℕ) → o.ready (with_run m) call h got → i.ready m call h got
    -- what its inner machine then waits for, the machine does
    pub turns : (old now : N) (h : History) (got : Option ℕ) (s : Step) → i.goes old now → o.ready (with_run old) call h got → i.waits now call h s → o.waits (with_run now) call h s
    pub stays : (old now : N) → i.goes old now → o.same (with_run old) (with_run now)

-- the inner machine as it was when it was called last; after that it has answered
pub record HasHostedAnswered {M N A : Type 0} {o : Calls M} {i : InnerCall N A} (k : Host o i) (m : N) (a : A) (h : History) : Type 0 where
  pub old : N
  pub got : Option ℕ
  pub was : o.ready (k.with_run old) k.call h got
  pub goes : i.ends old m
  pub answers : i.answers m k.call h a
  pub course : Trace o.allows o.waits o.same k.call k.first (k.with_run old) h

module _ {M N A : Type 0} {o : Calls M} {i : InnerCall N A} (k : Host o i) (ps : List SeatedPass) where
  -- its inner machine has not been called yet
  abbrev pub HostedBegins : N → Type 0
  HostedBegins m = HoldsForCall o.allows (o.left_dealt k.first) ps k.call (λ h. o.ready (k.with_run m) k.call h None × Trace o.allows o.waits o.same k.call k.first (k.with_run m) h)

  -- its inner machine waits for this step
  abbrev pub HostedWaits : N → Step → Type 0
  HostedWaits m step = Waits o.allows o.waits o.same o.left_dealt k.call ps k.first (k.with_run m) step

  -- the step of its inner machine has found v
  abbrev pub HostedIsTold : N → ℕ → Type 0
  HostedIsTold m v = Told o.allows o.waits o.same o.left_dealt k.call ps k.first o.ready (k.with_run m) v

  -- its inner machine has answered, after what it got last
  abbrev pub HostedEnds : N → A → Type 0
  HostedEnds m a = HoldsForCall o.allows (o.left_dealt k.first) ps k.call (HasHostedAnswered k m a)

  -- its inner machine waits for the step of this turn, or has answered as the turn says
  abbrev pub HostedStands : N → Turn A → Type 0
  HostedStands m turn = MatchTurn turn (HostedWaits m) (HostedEnds m)
