-- From info to info of a VLX, of whatever machine validates; and calls of VLX, which validate their
-- own snapshots.
use Rattle.std.proofs.Common.{◌≡◌, ◌≢◌, ℕ, zero, suc, ◌<◌, List, length, refl, sym, subst}
use Rattle.histories.specs.Common.{Layout, LoadInfo, info, History, Call}
use Rattle.template.specs.Common.{load, snap_at, Snap, Same, Changed, VlxRun}
use Rattle.prims.specs.Vlx.Known.{HasFoundUnchanged}
use Rattle.prims.specs.Vlx.Laws.{first_looked, looks_next, looked_on, turn_changed, all_same}
use Rattle.tables.specs.declared.view.SeatedPass.{SeatedPass}
use Rattle.straight.specs.CallKinds.{Calls}
use Rattle.tables.specs.CallSteps.{AnyLeft}
use Rattle.straight.specs.Inside.{InnerIsTold, InnerWaits}
use Rattle.straight.specs.StraightVlx.{vlx_at, AreSameSnaps, ready_over, waits_over, SeatVlxBegins, SeatVlxEnds, Validator, LoadsFirstInfo, HasGoneAlong}
use Rattle.tables.specs.TableRule.{history_of}
use Rattle.straight.proofs.Inside.{goes_to}
use Rattle.straight.proofs.Places.{starts}

-- where the last info was what its snapshot found, it waits for the next, if there is one
pub to_next : {M : Type 0} {o : Calls M} {snaps : List Snap} (k : Validator o snaps) (ps : List SeatedPass) (n asked v : ℕ) → suc n ≡ asked → (snap_at snaps n).scx.0 ≡ v → asked < length snaps → InnerIsTold k ps asked v → InnerWaits k ps (suc asked) (load LoadInfo (info (snap_at snaps asked).node.0))
to_next {snaps = snaps} k ps n asked v is found more = goes_to k ps asked (suc asked) v _ refl (λ d h t. looks_next d h snaps asked (looked_on d h snaps asked n v t.0 t.1 is found) more)

-- where it has gone along so many it waits for the next, if there is one
pub waits_next : {M : Type 0} {o : Calls M} {snaps : List Snap} (k : Validator o snaps) (ps : List SeatedPass) (asked : ℕ) → asked < length snaps → HasGoneAlong k ps asked → InnerWaits k ps (suc asked) (load LoadInfo (info (snap_at snaps asked).node.0))
waits_next k ps zero more x = x
waits_next {snaps = snaps} k ps (suc n) more x = to_next k ps n (suc n) (snap_at snaps n).scx.0 refl refl more x

-- where it has gone along all it has got the info of the last
pub gone_all : {M : Type 0} {o : Calls M} {snaps : List Snap} (k : Validator o snaps) (ps : List SeatedPass) (n : ℕ) → suc n ≡ length snaps → HasGoneAlong k ps (length snaps) → InnerIsTold k ps (length snaps) (snap_at snaps n).scx.0
gone_all {snaps = snaps} k ps n last x = subst (λ (asked : ℕ). InnerIsTold k ps asked (snap_at snaps n).scx.0) last (subst (λ (asked : ℕ). HasGoneAlong k ps asked) (sym last) x)

-- its calls over such lists, of a layout and a number
abbrev vlx_calls : {L : Type 0} → (L → List Snap) → (Layout → History → ℕ → Type 0) → Layout → ℕ → Calls (VlxRun L)
vlx_calls list allows layout number = record { allows = allows; ready = ready_over list; waits = waits_over list; same = AreSameSnaps; left_dealt = AnyLeft; layout = layout; number = number }

module _ {L : Type 0} (list : L → List Snap) (allows : Layout → History → ℕ → Type 0) (layout : Layout) (number : ℕ) (c : Call) (is_layout : c.layout ≡ layout) (is_number : c.number ≡ number) (snaps : L) where
  -- a run of VLX validates its snapshots itself
  pub validator : Validator (vlx_calls list allows layout number) (list snaps)
  validator = record {
    call = c;
    is_layout = is_layout;
    is_number = is_number;
    first = vlx_at snaps 0;
    with_run = vlx_at snaps;
    tells = λ n h v run x. (c, (run.lawful, x));
    turns = λ old now h v s is turn run x. turn c (run.lawful, x);
    stays = λ old now v is. refl;
  }

  module _ (ps : List SeatedPass) where
    -- its first turn takes it to the load of the first info
    pub begins_looking : SeatVlxBegins list allows c ps snaps → LoadsFirstInfo validator ps
    unfolding validator
    begins_looking = starts allows (ready_over list) (waits_over list) AreSameSnaps AnyLeft c ps (vlx_at snaps 0) (vlx_at snaps 1) _ refl (λ h run x. looks_next c h (list snaps) 0 (first_looked c h (list snaps) 0 x) x.some)

    -- where the last info was not what its snapshot found, that is the answer
    pub answers_changed : (n asked v : ℕ) → suc n ≡ asked → (snap_at (list snaps) n).scx.0 ≢ v → InnerIsTold validator ps asked v → SeatVlxEnds list allows c ps snaps (Changed (snap_at (list snaps) n).node record { 0 = v })
    unfolding validator
    answers_changed n asked v e other x = (vlx_at snaps asked, record { planting = x.planting; known = x.known; is = x.is; sound = x.sound; so = (turn_changed c _ (list snaps) asked n v (snap_at (list snaps) n) x.sound.lawful x.so.0 e refl other, x.so.1) })

    -- where all were, they are the same
    pub answers_same : (n asked v : ℕ) → suc n ≡ asked → (snap_at (list snaps) n).scx.0 ≡ v → asked ≡ length (list snaps) → InnerIsTold validator ps asked v → SeatVlxEnds list allows c ps snaps Same
    unfolding validator
    answers_same n asked v e found all x = (vlx_at snaps asked, record { planting = x.planting; known = x.known; is = x.is; sound = x.sound; so = (all_same c _ (list snaps) x.sound.lawful looked, x.so.1) })
      where
        looked : HasFoundUnchanged c (history_of x.planting x.known) (list snaps) (length (list snaps))
        looked = subst (λ (k : ℕ). HasFoundUnchanged c (history_of x.planting x.known) (list snaps) k) all (looked_on c _ (list snaps) asked n v x.sound.lawful x.so.0 e found)
