-- What a call of `llx` says.
use Rattle.std.proofs.Common.{◌≡◌, ◌≢◌, ◌≤◌, ◌+◌, ℕ, true, List, ◌∷◌, None, refl, sym, ◌∙◌, ap, subst}
use Rattle.atomic_table.specs.declared.shared.Seat.{Seat}
use Rattle.arena.specs.Layout.{IsMap}
use Rattle.histories.specs.Common.{NodeNo, Layout, Fill, History, is_final, Mode, Records}
use Rattle.template.specs.Common.{IsSnapshot, HasJustLooked, LlxIsReady, LlxWaits, LlxAnswers, Llx, Snapshot, Finalized, Fail, LlxRun}
use Rattle.prims.proofs.Lemmas.{llx_fills_not, ready_at_start, cell_opened, finalized_at_start, all_idle, alone_now, usable_now}
use Rattle.prims.specs.declared.llx.LlxAt.TheVariants.{Start}
use Rattle.tables.specs.declared.memory.PassMemory.{PassMemory}
use Rattle.tables.specs.declared.view.SeatView.{SeatView}
use Rattle.forest.specs.declared.pass.Pass.TheInside.{Inside}
use Rattle.tables.specs.Traces.{Trace, HoldsForCall, seat_steps, run_at}
use Rattle.tables.specs.Passes.{HasGoneOn, HasTakenNothing, HoldsOfOwn, LlxSays, IsFinalizedAnswer, blamed_by, run_of, seen_of}
use Rattle.forest.specs.PassInvariant.{pass_view, layout_in, IsPass}
use Rattle.forest.specs.StepKinds.{HasFilledNothing}
use Rattle.straight.specs.StraightLlx.{llx_at, SeatLlxEnds}
use Rattle.tables.specs.CallSteps.{AnyLeft, no_map_of_cells}
use Rattle.tables.specs.TableRule.{history_of}
use Rattle.forest.proofs.Called.{course_holds}
use Rattle.straight.proofs.AfterCalls.{course_keeps}
use Rattle.forest.proofs.Blames.{blamed_more}
use Rattle.forest.proofs.Passes.{HasOnlyLoaded, begun_with, called_pass, called_goes_on, called_nothing, call_of, seated, called}

-- a run of a cell that has not begun may begin
pub llx_begins : {allows : Layout → History → ℕ → Type 0} {T : Type 0} (p : Inside T) (x : IsPass allows Records p) (number : ℕ) (m : LlxRun) → m.at ≡ Start → m.node.0 ≤ 8 → HoldsForCall allows (AnyLeft m) p.seat.me.0.passes (call_of p x number) (λ h. ((call_of p x number).start ≡ h) × LlxIsReady allows m (call_of p x number) h None)
llx_begins {allows} p x number m start small = begun_with p x number {P = λ h. LlxIsReady allows m (call_of p x number) h None} tt
    (ready_at_start allows m (call_of p x number) _ refl start (cell_opened (layout_in p) _ m.node.0 x.is_mode small) (all_idle (layout_in p) _ p.number.0 p.share _ _ x.sound.lawful x.rest.share x.rest.over))

-- what its answer says
abbrev pub Answered : {allows : Layout → History → ℕ → Type 0} {mode : Mode} {T : Type 0} (p : Inside T) → IsPass allows mode p → ℕ → NodeNo → Llx → History → Type 0
Answered p x number node a h = (m : LlxRun) × (m.node ≡ node) × LlxAnswers m (call_of p x number) h a

pub llx_called : {allows : Layout → History → ℕ → Type 0} {left : PassMemory → Type 0} {T : Type 0} (p : Inside T) (x : IsPass allows Records p) (number : ℕ) (s : Seat ℕ SeatView) (first m : LlxRun) (node : NodeNo) (a : Llx) → first.node ≡ node → HoldsForCall allows left s.me.0.passes (call_of p x number) (λ h. LlxAnswers m (call_of p x number) h a × Trace allows (LlxWaits allows) (λ old now. now.node ≡ old.node) (call_of p x number) first m h) → HasOnlyLoaded allows p s number (Answered p x number node a)
llx_called {allows} p x number s first m node a is y =
    let z = called p x s number (LlxWaits allows) (λ old now. now.node ≡ old.node) first m (λ h. LlxAnswers m (call_of p x number) h a) (λ map. no_map_of_cells (subst IsMap x.is_mode map)) (λ k h t w. llx_fills_not allows k (call_of p x number) h t w) y in
    record { seat = z.seat; answers = (m, course_keeps (λ (k : LlxRun). k.node ≡ node) is (λ old now e q. e ∙ q) m _ y.so.1, z.answers); goes = z.goes; calls = z.calls; dealt = z.dealt }

module _ {allows : Layout → History → ℕ → Type 0} {mode : Mode} {T : Type 0} (p : Inside T) (x : IsPass allows mode p) (number : ℕ) (s : Seat ℕ SeatView) (node : NodeNo) where
  -- the pass with its seat and its blame list as they are now
  abbrev pub heard : List ℕ → Inside T
  heard blamed = record p { seat = s; blamed = blamed }

  pub llx_says : (blamed : List ℕ) (a : Llx) → HasOnlyLoaded allows p s number (Answered p x number node a) → LlxSays (pass_view p) (pass_view (heard blamed)) node.0 a
  llx_says blamed (Snapshot snap) y =
      let z : IsSnapshot (layout_in p) (run_of (pass_view (seated p s))) node.0 snap = subst (λ (k : NodeNo). IsSnapshot (layout_in p) (run_of (pass_view (seated p s))) k.0 snap) y.answers.1 y.answers.2.0 in
      let looked = subst (λ (k : NodeNo). HasJustLooked p.number.0 (run_of (pass_view (seated p s))) (run_of (pass_view p)) k.0) y.answers.1 y.answers.2.1 in
      (z, (run_of (pass_view (seated p s)), usable_now (layout_in p) _ node.0 snap z), alone_now (layout_in p) p.number.0 _ node.0 snap (all_idle (layout_in p) _ p.number.0 p.share _ _ y.goes.sound.lawful y.goes.share y.goes.over) z, looked)
  llx_says blamed (Finalized n u) y = rw y.answers.1 at y.answers.2
  llx_says blamed (Fail n u) y = rw y.answers.1 at y.answers.2

  pub llx_finalized : (a : Llx) → HasOnlyLoaded allows p s number (Answered p x number node a) → is_final (seen_of (pass_view p)) node.0 ≡ true → IsFinalizedAnswer a
  llx_finalized a y final =
      let m = y.answers.0 in
      let z = finalized_at_start m (call_of p x number) _ a y.goes.sound.lawful y.goes.since (subst (λ (k : NodeNo). is_final (seen_of (pass_view p)) k.0 ≡ true) (sym y.answers.1) final) y.answers.2 in
      subst IsFinalizedAnswer (sym z.1) tt

  -- it is a pass again
  pub llx_pass : (a : Llx) (blamed : List ℕ) → blamed ≡ blamed_by a p.blamed → s.me.1 ≡ p.seat.me.1 → HasOnlyLoaded allows p s number (Answered p x number node a) → IsPass allows mode (heard blamed)
  llx_pass a blamed e bare y = subst (λ l. IsPass allows mode (heard l)) (sym e) (go a y)
    where
      go : (b : Llx) → HasOnlyLoaded allows p s number (Answered p x number node b) → IsPass allows mode (heard (blamed_by b p.blamed))
      go (Snapshot snap) z = called_pass p x s number _ bare z
      go (Finalized n u) z = called_pass p x s number _ bare z
      go (Fail n u) z =
          let w = called_pass p x s number _ bare z in
          let more = blamed_more (pass_view p) (pass_view (heard (u.0 ∷ p.blamed))) node.0 u.0 refl refl refl w.sound.lawful z.goes.since (llx_says (u.0 ∷ p.blamed) (Fail n u) z).1 x.blamed in
          record { seat = w.seat; bare = w.bare; is_mode = w.is_mode; is_pass = w.is_pass; first_is = w.first_is; few = w.few; sound = w.sound; rest = w.rest; dealt = w.dealt; blamed = more }

  -- its run is extended, and it has taken nothing
  pub llx_goes_on : (a : Llx) (blamed : List ℕ) (left most : ℕ) → blamed ≡ blamed_by a p.blamed → s.table_id ≡ p.seat.table_id → s.me.1 ≡ p.seat.me.1 → HasOnlyLoaded allows p s number (Answered p x number node a) → seat_steps s.me.0.passes ≤ seat_steps p.seat.me.0.passes + left → left ≤ most → HasGoneOn allows (pass_view p) (pass_view (heard blamed)) number most (blamed_by a p.blamed)
  llx_goes_on a blamed left most e table bare y few small =
      let z = called_goes_on p x s number _ left most table bare y few small in
      record { later = record { table = table; layout = refl; number = refl; run = z.later.run }; lawful = z.lawful; calls = z.calls; steps = z.steps; blamed_these = e; blames = (llx_pass a blamed e bare y).blamed; rest = z.rest; usable = z.usable }

  pub llx_nothing : (a : Llx) (blamed : List ℕ) → HasOnlyLoaded allows p s number (Answered p x number node a) → HasTakenNothing (pass_view p) (pass_view (heard blamed))
  llx_nothing a blamed y = let z = called_nothing p s number _ y in record { share = refl; done = z.done; alone = z.alone }

  -- it has filled no word
  pub llx_kinds : (blamed : List ℕ) (a : Llx) → SeatLlxEnds allows (call_of p x number) s.me.0.passes node a → HasFilledNothing (pass_view p) (pass_view (heard blamed))
  llx_kinds blamed a y =
      let run : history_of y.1.planting y.1.known ≡ run_at s.me.0.passes = sym (ap run_at y.1.is.alone) in
      subst (λ (h : History). HoldsOfOwn (λ r. r.kind ≢ Fill) p.number.0 (run_of (pass_view p)) h) run
      (course_holds (LlxWaits allows) (λ old now. now.node ≡ old.node) (call_of p x number) (llx_at node Start) (λ r. r.kind ≢ Fill) (λ m. Unit {0}) tt (λ old now is q. tt) (λ k h t q w. llx_fills_not allows k (call_of p x number) h t w) y.0 _ y.1.so.1).1
