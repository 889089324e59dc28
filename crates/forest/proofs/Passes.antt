-- What a call leaves of a pass.
use Rattle.std.proofs.Common.{◌≡◌, ◌≢◌, ℕ, ◌+◌, ◌-◌, ◌≤◌, List, [], inl, refl, sym, ◌∙◌, ap, subst, arith}
use Rattle.atomic_table.specs.declared.shared.Seat.{Seat}
use Rattle.histories.specs.Common.{Layout, Step, Fill, Remaining, first_scx, History, Opening, Opened, Start, Lawful, Call, IsRun, Shaped, Mode}
use Rattle.arena.specs.Layout.{IsMap}
use Rattle.arena.specs.Share.{whole_share}
use Rattle.arena.proofs.Lemmas.{ends_self}
use Rattle.prims.specs.declared.snap.Snap.{Snap}
use Rattle.tables.specs.declared.memory.PassMemory.{PassMemory}
use Rattle.tables.specs.declared.view.SeatedPass.{SeatedPass}
use Rattle.tables.specs.declared.view.SeatView.{SeatView}
use Rattle.forest.specs.declared.pass.Pass.TheInside.{Inside}
use Rattle.tables.specs.TableRule.{dealt_to, history_of}
use Rattle.tables.specs.Traces.{IsSeated, Trace, HoldsForCall, known_of, planting_of, memory_of, run_at, rows_of, seat_steps}
use Rattle.tables.specs.Shares.{HasFewNames, IsBetweenCalls}
use Rattle.tables.specs.Passes.{PassView, Ground, IsOf, AreOfCall, CanUse, HasGoneOn, HasTakenNothing, IsLaterView, run_of}
use Rattle.forest.specs.PassInvariant.{pass_view, layout_in, IsPass}
use Rattle.prims.proofs.Lemmas.{upper_end, whole_untouched, none_taken, next_unwon, usable_since}
use Rattle.tables.proofs.Frames.{CarriesOn}
use Rattle.straight.proofs.AfterCalls.{quiet_goes}
use Rattle.straight.proofs.Advances.{call_back}
use Rattle.forest.proofs.Called.{own_start, course_calls, course_since}
use Rattle.forest.proofs.Blames.{blamed_later}

begins_lawful : (lay : Layout) → Lawful lay (Start lay.mode)
unfolding Lawful
begins_lawful lay = (refl, omega arith)

-- a pass with its whole share is at rest at the start
pub begins_at_rest : (lay : Layout) (o : Opening) (c : ℕ) → Lawful lay (Opened o) → IsBetweenCalls lay c (Opened o) (whole_share lay c)
begins_at_rest lay o c lawful = record { share = whole_untouched lay o c lawful; upper = λ few. refl; over = λ s own d t. absurd (none_taken o s t) }

-- what is gone of its share is what it has taken, in a table in which no name comes back
pub taken_is : (lay : Layout) (c : ℕ) (h : History) (left : Remaining) → HasFewNames lay → IsBetweenCalls lay c h left → lay.scx - left.scx ≡ left.next_scx - first_scx lay c
taken_is lay c h left few x = let a = x.share.from_scx in let b = (upper_end lay c left (x.upper few)).1 in omega (arith, a, b)

pub begins_sound : (allows : Layout → History → ℕ → Type 0) (lay : Layout) → IsRun allows lay (Start lay.mode)
unfolding Shaped
begins_sound allows lay = record { lawful = begins_lawful lay; shaped = inl refl }

-- the pass of a forest has its layout
pub layout_of : {v w : PassView} {g f : Ground} → v ≡ w → g ≡ f → IsOf f w → v.layout ≡ g.layout
layout_of e q of = ap (λ (s : PassView). s.layout) e ∙ of.1 ∙ sym (ap (λ (l : Ground). l.layout) q)

-- the call of a pass
abbrev pub call_of : {allows : Layout → History → ℕ → Type 0} {mode : Mode} {T : Type 0} (p : Inside T) → IsPass allows mode p → ℕ → Call
call_of p x number = record { layout = (layout_in p); pass = p.number.0; is_pass = x.is_pass; number = number; start = run_at p.seat.me.0.passes }

-- a call of it begins where P holds of what it knows, and what the call is to have is dealt
pub begun_with : {allows : Layout → History → ℕ → Type 0} {mode : Mode} {T : Type 0} (p : Inside T) (x : IsPass allows mode p) (number : ℕ) {P : History → Type 0} {left : PassMemory → Type 0} → left (memory_of p.seat.me.0.passes) → P (run_at p.seat.me.0.passes) → HoldsForCall allows left p.seat.me.0.passes (call_of p x number) (λ h. ((call_of p x number).start ≡ h) × P h)
begun_with p x number dealt holds = record { planting = planting_of p.seat.me.0.passes; known = known_of p.seat.me.0.passes; is = record { memory = memory_of p.seat.me.0.passes; alone = x.seat.alone; since = x.seat.since; there = x.seat.there; left = dealt }; sound = x.sound; so = (refl, holds) }

-- the pass with its seat as it is now
abbrev pub seated : {T : Type 0} → Inside T → Seat ℕ SeatView → Inside T
seated p s = record p { seat = s }

-- what the pass has after a call that takes nothing
pub record HasOnlyLoaded (allows : Layout → History → ℕ → Type 0) {T : Type 0} (p : Inside T) (s : Seat ℕ SeatView) (number : ℕ) (A : History → Type 0) : Type 0 where
  pub seat : IsSeated p.number.0 (layout_in p) s.me.0.passes
  pub answers : A (run_at s.me.0.passes)
  pub goes : CarriesOn allows (layout_in p) p.number.0 (run_at p.seat.me.0.passes) (run_at s.me.0.passes) p.share p.share.next_node p.share.next_scx []
  pub calls : AreOfCall p.number.0 number (run_at p.seat.me.0.passes) (run_at s.me.0.passes)
  -- in a map as much is dealt as was
  pub dealt : IsMap (layout_in p).mode → dealt_to (memory_of s.me.0.passes) ≡ dealt_to (memory_of p.seat.me.0.passes)

-- so it is after a call in a table that holds no map
pub called : {allows : Layout → History → ℕ → Type 0} {mode : Mode} {T : Type 0} (p : Inside T) (x : IsPass allows mode p) (s : Seat ℕ SeatView) (number : ℕ) {M : Type 0} (waits : M → Call → History → Step → Type 0) (same : M → M → Type 0) (first m : M) (A : History → Type 0) {left : PassMemory → Type 0} → (IsMap (layout_in p).mode → ⊥) → ((m : M) (h : History) (t : Step) → waits m (call_of p x number) h t → t.kind ≢ Fill) → HoldsForCall allows left s.me.0.passes (call_of p x number) (λ h. A h × Trace allows waits same (call_of p x number) first m h) → HasOnlyLoaded allows p s number A
called {allows} p x s number waits same first m A none fills_not y =
    let run : history_of y.planting y.known ≡ run_at s.me.0.passes = sym (ap run_at y.is.alone) in
    record {
      seat = call_back s.me.0.passes (call_of p x number) y.planting y.known y.is (course_since (call_of p x number) m _ y.so.1);
      answers = subst A run y.so.0;
      goes = subst (λ h. CarriesOn allows (layout_in p) p.number.0 (run_at p.seat.me.0.passes) h p.share p.share.next_node p.share.next_scx []) run (quiet_goes waits same (call_of p x number) first p.share fills_not x.sound x.rest m _ y.so.1);
      calls = subst (λ h. AreOfCall p.number.0 number (run_at p.seat.me.0.passes) h) run (course_calls (call_of p x number) m _ y.so.1);
      dealt = λ map. absurd (none map);
    }

-- it is a pass again
pub called_pass : {allows : Layout → History → ℕ → Type 0} {mode : Mode} {T : Type 0} (p : Inside T) (x : IsPass allows mode p) (s : Seat ℕ SeatView) (number : ℕ) (A : History → Type 0) → s.me.1 ≡ p.seat.me.1 → HasOnlyLoaded allows p s number A → IsPass allows mode (seated p s)
called_pass p x s number A bare y = record { seat = y.seat; bare = bare ∙ x.bare; is_mode = x.is_mode; is_pass = x.is_pass; first_is = x.first_is; few = x.few; sound = y.goes.sound; rest = record { share = y.goes.share; upper = x.rest.upper; over = y.goes.over }; dealt = λ map. x.dealt map ∙ sym (y.dealt map); blamed = blamed_later (pass_view p) (pass_view (seated p s)) refl refl refl y.goes.sound.lawful y.goes.since x.blamed }

-- it has taken nothing
pub called_nothing : {allows : Layout → History → ℕ → Type 0} {T : Type 0} (p : Inside T) (s : Seat ℕ SeatView) (number : ℕ) (A : History → Type 0) → HasOnlyLoaded allows p s number A → HasTakenNothing (pass_view p) (pass_view (seated p s))
called_nothing p s number A y = record {
  share = refl;
  done = y.goes.unwon (λ w. next_unwon (layout_in p) _ p.number.0 p.share _ _ y.goes.sound.lawful y.goes.share w.0 w.1);
  alone = λ snap u. y.goes.alone snap (λ z. let i = z.within in omega arith) u;
}

-- what a pass could use it may use later on
pub can_use_later : (old new : PassView) → IsLaterView old new → Lawful new.layout (run_of new) → (snap : Snap) → CanUse old snap → CanUse new snap
can_use_later old new later l snap u =
    let e : new.layout ≡ old.layout = later.layout in
    (u.0, usable_since new.layout (run_of new) (run_of old) snap u.0 l later.run (rw e u.1))

-- a call that is refused makes no step
pub goes_nowhere : {allows : Layout → History → ℕ → Type 0} {mode : Mode} {T : Type 0} (p : Inside T) (x : IsPass allows mode p) (number most : ℕ) → HasGoneOn allows (pass_view p) (pass_view p) number most p.blamed
goes_nowhere p x number most = record {
  later = record { table = refl; layout = refl; number = refl; run = ends_self (run_of (pass_view p)) };
  lawful = x.sound;
  calls = own_start (λ r. r.call ≡ number) p.number.0 (run_of (pass_view p));
  steps = omega arith;
  blamed_these = refl;
  blames = x.blamed;
  rest = x.rest;
  usable = λ snap u. u;
}

-- its steps are those of its seat
pub steps_are : (c : ℕ) (lay : Layout) (ps : List SeatedPass) → IsSeated c lay ps → seat_steps ps ≡ rows_of c (known_of ps)
steps_are c lay ps e = ap seat_steps e.alone

-- and its run is extended
pub called_goes_on : {allows : Layout → History → ℕ → Type 0} {mode : Mode} {T : Type 0} (p : Inside T) (x : IsPass allows mode p) (s : Seat ℕ SeatView) (number : ℕ) (A : History → Type 0) (left most : ℕ) → s.table_id ≡ p.seat.table_id → s.me.1 ≡ p.seat.me.1 → HasOnlyLoaded allows p s number A → seat_steps s.me.0.passes ≤ seat_steps p.seat.me.0.passes + left → left ≤ most → HasGoneOn allows (pass_view p) (pass_view (seated p s)) number most p.blamed
called_goes_on p x s number A left most table bare y few small = record {
  later = later;
  lawful = y.goes.sound;
  calls = y.calls;
  steps = let a = steps_are p.number.0 (layout_in p) s.me.0.passes y.seat in let b = steps_are p.number.0 (layout_in p) p.seat.me.0.passes x.seat in omega arith;
  blamed_these = refl;
  blames = (called_pass p x s number A bare y).blamed;
  rest = (called_pass p x s number A bare y).rest;
  usable = can_use_later (pass_view p) (pass_view (seated p s)) later y.goes.sound.lawful;
}
  where
    later : IsLaterView (pass_view p) (pass_view (seated p s))
    later = record { table = table; layout = refl; number = refl; run = y.goes.since }
