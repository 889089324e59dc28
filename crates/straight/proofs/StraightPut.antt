-- From place to place of an SCX with a fresh cell, inline.
use Rattle.std.proofs.Common.{◌≡◌, ℕ, List, true, refl, sym, subst}
use Rattle.histories.specs.Common.{Layout, Ask, Done as End, ScxNo, Step, Plan, History, Call}
use Rattle.help.specs.declared.state.HelpAt.TheVariants.{Commit as HelpCommit}
use Rattle.template.specs.Common.{HelpRun, PutIsReady, PutWaits, PutRun, Done, ScxRun, Update}
use Rattle.prims.specs.Put.Known.{HasValue, put_step}
use Rattle.prims.proofs.Lemmas.{turn_start as scx_start, done_at, put_turn_start, turn_scx}
use Rattle.prims.specs.declared.put.PutAt.TheVariants.{Fill as AtFill, Scx as AtScx}
use Rattle.prims.specs.declared.scx.ScxAt.TheVariants.{Plan as AtPlan, Help}
use Rattle.tables.specs.declared.view.SeatedPass.{SeatedPass}
use Rattle.straight.specs.StraightScx.{Changer, scx_fill, all_frozen_load}
use Rattle.straight.specs.StraightPut.{IsSamePut, scx_at, SeatPutBegins, SeatPutWaits, SeatPutTold, SeatPutEnds}
use Rattle.tables.specs.Traces.{begins, goes_on}
use Rattle.straight.specs.CallKinds.{Calls}
use Rattle.tables.specs.CallSteps.{AnyLeft}
use Rattle.straight.specs.Inside.{InnerIsTold, InnerWaits}

module _ (allows : Layout → History → ℕ → Type 0) (c : Call) (ps : List SeatedPass) (first : PutRun) where
  -- it fills the value, and then the plan
  pub to_value : SeatPutBegins allows c ps first → SeatPutWaits allows c ps first (record first { at = AtFill }) (put_step first)
  to_value x = record { planting = x.planting; known = x.known; is = x.is; sound = x.sound; so = (put_turn_start allows first c _ x.so.1, goes_on first (refl, refl, refl, refl) (begins refl (sym x.so.0))) }

  pub to_plan : (v : ℕ) → SeatPutTold allows c ps first (record first { at = AtFill }) v → SeatPutWaits allows c ps first (scx_at first AtPlan) (scx_fill first.scx.scx Plan first.scx.update.plan.0)
  to_plan v x = let t = x.so.0 in record {
    planting = x.planting;
    known = x.known;
    is = x.is;
    sound = x.sound;
    so = (
      (t.0, scx_start allows c _ first.scx (scx_at first AtPlan).scx (Ask _) t.2 t.3 record { stands = refl; asked = refl }),
      goes_on (record first { at = AtFill }) (refl, refl, refl, refl) x.so.1,
    );
  }

  -- what holds of a run holds of its equal
  pub blocked_as : (m same : PutRun) → same ≡ m → SeatPutWaits allows c ps first m (all_frozen_load m.scx.scx) → SeatPutWaits allows c ps first same (all_frozen_load same.scx.scx)
  blocked_as m same is x = subst (λ (n : PutRun). SeatPutWaits allows c ps first n (all_frozen_load n.scx.scx)) (sym is) x

-- the run with another SCX of its fresh cell
abbrev pub with_scx : PutRun → ScxRun → PutRun
with_scx m scx = record { value = m.value; scx = scx; at = AtScx }

-- its calls of a layout and a number
abbrev pub put_calls : (Layout → History → ℕ → Type 0) → Layout → ℕ → Calls PutRun
put_calls allows layout number = record { allows = allows; ready = PutIsReady allows; waits = PutWaits allows; same = IsSamePut; left_dealt = AnyLeft; layout = layout; number = number }

module _ (allows : Layout → History → ℕ → Type 0) (layout : Layout) (number : ℕ) (c : Call) (is_layout : c.layout ≡ layout) (is_number : c.number ≡ number) (first : PutRun) where
  -- a run of SCX with a fresh cell makes an SCX
  pub putter : Changer allows (put_calls allows layout number)
  putter = record {
    call = c;
    is_layout = is_layout;
    is_number = is_number;
    first = first;
    with_run = with_scx first;
    tells = λ m h v run x. (c, (run, x.1));
    turns = λ old now h v s goes turn run x. (
      subst (λ (t : ScxNo). HasValue c h t.0 now.update.fresh.0 first.value) (sym goes.0) (subst (λ (u : Update). HasValue c h old.scx.0 u.fresh.0 first.value) (sym goes.1) x.0),
      turn c (run, x.1),
    );
    stays = λ old now v goes. (goes.0, goes.1, goes.2, refl);
  }

  module _ (ps : List SeatedPass) (m : ScxRun) where
    -- what it waits for, its SCX does
    pub begins_change : (step : Step) → SeatPutWaits allows c ps first (with_scx first m) step → InnerWaits putter ps m step
    unfolding putter
    begins_change step x = x

    pub change_waits : (step : Step) → InnerWaits putter ps m step → SeatPutWaits allows c ps first (with_scx first m) step
    unfolding putter
    change_waits step x = x

    -- what HELP has answered once it is committed, the SCX answers
    pub put_done : (help : HelpRun) (v : ℕ) → InnerIsTold putter ps (record m { at = Help (record help { at = HelpCommit }) }) v → SeatPutEnds allows c ps first (with_scx first (record m { at = Help (record help { at = HelpCommit }) })) Done
    unfolding putter
    put_done help v x =
        let run : ScxRun = record m { at = Help (record help { at = HelpCommit }) } in
        let t = x.so.0.1 in
        record { planting = x.planting; known = x.known; is = x.is; sound = x.sound; so = (turn_scx allows c _ x.sound.lawful (with_scx first run) (with_scx first run) (End Done) refl refl refl refl x.so.0.0 (done_at c _ run (record help { at = HelpCommit }) x.sound.lawful t.2 t.1 true (record help { at = HelpCommit }) t.0 refl refl), x.so.1) }
