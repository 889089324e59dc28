-- What a call of `vlx` says.
use Rattle.std.proofs.Common.{◌≡◌, ◌≢◌, ◌<◌, ℕ, zero, suc, inl, inr, List, [], ◌∷◌, length, refl, sym, ◌∙◌, ap, subst, arith}
use Rattle.atomic_table.specs.declared.shared.Seat.{Seat}
use Rattle.arena.specs.Layout.{IsMap}
use Rattle.histories.specs.Common.{Layout, LoadInfo, Step, History, Records}
use Rattle.template.specs.Common.{AreDistinct, IsAmong, snap_at, VlxAnswers, Snap, Vlx, Same, Changed, VlxRun}
use Rattle.prims.proofs.Lemmas.{vlx_fills_not, all_over, vlx_ready_first}
use Rattle.tables.specs.declared.view.SeatView.{SeatView}
use Rattle.forest.specs.declared.pass.Pass.TheInside.{Inside}
use Rattle.tables.specs.Traces.{run_at}
use Rattle.straight.specs.StraightVlx.{vlx_at, AreSameSnaps, waits_over, SeatVlxBegins, SeatVlxEnds}
use Rattle.tables.specs.Passes.{CanUse, Each, AreApart, HasNodeOf, HoldsOfOwn, VlxSays, run_of}
use Rattle.forest.specs.PassInvariant.{pass_view, layout_in, IsPass}
use Rattle.forest.specs.StepKinds.{HasLoadedInfosAlone}
use Rattle.tables.specs.CallSteps.{no_map_of_cells}
use Rattle.tables.specs.TableRule.{history_of}
use Rattle.forest.proofs.Called.{course_holds}
use Rattle.straight.proofs.AfterCalls.{course_keeps}
use Rattle.forest.proofs.Passes.{HasOnlyLoaded, begun_with, call_of, seated, called}

-- Lists of snapshots

pub each_at : (P : Snap → Type 0) (snaps : List Snap) → Each P snaps → (i : ℕ) → i < length snaps → P (snap_at snaps i)
each_at P [] x i w = absurd (omega arith)
each_at P (snap ∷ snaps) x zero w = x.0
each_at P (snap ∷ snaps) x (suc i) w = each_at P snaps x.1 i (omega arith)

pub apart_at : (snaps : List Snap) → AreApart snaps → AreDistinct snaps
apart_at [] x i j a b d e = absurd (omega arith)
apart_at (snap ∷ snaps) x zero zero a b d e = d refl
apart_at (snap ∷ snaps) x zero (suc j) a b d e = each_at (λ other. snap.node.0 ≢ other.node.0) snaps x.0 j (omega arith) e
apart_at (snap ∷ snaps) x (suc i) zero a b d e = each_at (λ other. snap.node.0 ≢ other.node.0) snaps x.0 i (omega arith) (sym e)
apart_at (snap ∷ snaps) x (suc i) (suc j) a b d e = apart_at snaps x.1 i j (omega arith) (omega arith) (λ q. d (ap suc q)) e

pub among_at : (snaps : List Snap) (n : ℕ) → HasNodeOf snaps n → IsAmong snaps n
among_at [] n x = absurd x
among_at (snap ∷ snaps) n (inl e) = record { at = 0; within = omega arith; is = e }
among_at (snap ∷ snaps) n (inr x) = let y = among_at snaps n x in record { at = suc y.at; within = let i = y.within in omega arith; is = y.is }

-- Calls

module _ {L : Type 0} (list : L → List Snap) {allows : Layout → History → ℕ → Type 0} {T : Type 0} (p : Inside T) (x : IsPass allows Records p) (number : ℕ) where
  pub vlx_begins : (snaps : L) → 0 < length (list snaps) → Each (CanUse (pass_view p)) (list snaps) → SeatVlxBegins list allows (call_of p x number) p.seat.me.0.passes snaps
  vlx_begins snaps some usable = begun_with p x number tt (vlx_ready_first (layout_in p) p.number.0 number x.is_pass _ (list snaps) 0 refl some (each_at (CanUse (pass_view p)) (list snaps) usable) (all_over (layout_in p) _ p.number.0 p.share _ _ x.rest.share x.rest.over))

  abbrev pub Looked : L → Vlx → History → Type 0
  Looked snaps a h = VlxAnswers (list snaps) (call_of p x number) h a

  pub vlx_called : (s : Seat ℕ SeatView) (snaps : L) (a : Vlx) → SeatVlxEnds list allows (call_of p x number) s.me.0.passes snaps a → HasOnlyLoaded allows p s number (Looked snaps a)
  vlx_called s snaps a y =
      let z = called p x s number (waits_over list) AreSameSnaps (vlx_at snaps 0) y.0 (λ h. VlxAnswers (list y.0.snaps) (call_of p x number) h a) (λ map. no_map_of_cells (subst IsMap x.is_mode map)) (λ k h t w. vlx_fills_not (list k.snaps) k.asked (call_of p x number) h t w) y.1 in
      let is : y.0.snaps ≡ snaps = course_keeps (λ (k : VlxRun L). k.snaps ≡ snaps) refl (λ old now e q. e ∙ q) y.0 _ y.1.so.1 in
      record { seat = z.seat; answers = rw is at z.answers; goes = z.goes; calls = z.calls; dealt = z.dealt }

  -- it has loaded info words alone
  pub vlx_kinds : (s : Seat ℕ SeatView) (snaps : L) (a : Vlx) → SeatVlxEnds list allows (call_of p x number) s.me.0.passes snaps a → HasLoadedInfosAlone (pass_view p) (pass_view (seated p s))
  vlx_kinds s snaps a y =
      let run : history_of y.1.planting y.1.known ≡ run_at s.me.0.passes = sym (ap run_at y.1.is.alone) in
      subst (λ (h : History). HoldsOfOwn (λ r. r.kind ≡ LoadInfo) p.number.0 (run_of (pass_view p)) h) run
      (course_holds (waits_over list) AreSameSnaps (call_of p x number) (vlx_at snaps 0) (λ r. r.kind ≡ LoadInfo) (λ m. Unit {0}) tt (λ old now is q. tt) (λ k h t q w. ap (λ (step : Step). step.kind) w.asked) y.0 _ y.1.so.1).1

  pub vlx_says : (s : Seat ℕ SeatView) (snaps : L) (a : Vlx) → HasOnlyLoaded allows p s number (Looked snaps a) → VlxSays (pass_view p) (pass_view (seated p s)) (list snaps) a
  vlx_says s snaps Same y = (y.answers.found, y.answers.asked)
  vlx_says s snaps (Changed n u) y = (y.answers.changed, y.answers.before, y.answers.asked)
