-- Who was in the way of a try that is lost.
use Rattle.std.proofs.Common.{◌≡◌, ℕ, ◌<◌, false, List, inr, subst, sym}
use Rattle.histories.specs.Common.{NodeNo, ScxNo, Freeze, History, ◌⊳◌, Extends, Lawful, Call, begun_at, is_final, log}
use Rattle.arena.proofs.Lemmas.{ends_self, ends_trans}
use Rattle.histories.proofs.Lemmas.{lawful_since}
use Rattle.prims.specs.Laws.FoundThere.{there_wider}
use Rattle.prims.specs.Laws.Idle.{IsQuietSince}
use Rattle.template.specs.Common.{LlxAnswers, snap_at, Finalized, Fail, LlxRun, ScxRun, Snap, IsMapRun, IsContended}
use Rattle.prims.specs.Scx.Known.{IsLost}
use Rattle.template.specs.declared.walk.Found.{Found}
use Rattle.ordered_map.proofs.MapLemmas.{two_not_final}
use Rattle.template.proofs.Lemmas.{changed_contended, failed_contended, finalized_contended}
use Rattle.edits.specs.declared.edit.Look.TheVariants.{At, Differs}
use Rattle.edits.specs.Edits.{EditMeaning}
use Rattle.edits.specs.Known.{HasSnappedInCall, AreSnappedInCall, HasLooked}
use Rattle.edits.specs.Laws.Kept.{snapped_usable}
use Rattle.edits.specs.Sound.{LooksWell}

-- its SCX, which begins at this moment of the try, is lost
pub lost_contended : (c : Call) (begin h : History) (m : ScxRun) (n s : ℕ) → Lawful c.layout h → IsQuietSince c.layout c.pass c.start begin → AreSnappedInCall c begin m.update.snaps → IsLost (begun_at c begin) h m n s → IsContended c h n s
lost_contended c begin h m n s l quiet usable x = changed_contended c Freeze begin h m.update.snaps n s l quiet x.changed snapped.moment snapped.since (snapped_usable c begin (snap_at m.update.snaps i) then snapped).found
  where
    i : ℕ
    i = x.changed.index

    snapped : HasSnappedInCall c begin (snap_at m.update.snaps i)
    snapped = usable i x.changed.within

    then : Lawful c.layout begin
    then = lawful_since c.layout h begin l (ends_trans h (x.changed.found.row ⊳ x.changed.found.before) begin x.changed.found.last.within (inr x.changed.found.since))

-- the LLX of its guard, begun in the try, ends without a snapshot
module _ (c : Call) (h : History) (run : IsMapRun c.layout h) (llx : LlxRun) (begin : History) (now : Extends h c.start) (since : Extends begin c.start) (n : NodeNo) (s : ScxNo) where
  pub guard_failed : LlxAnswers llx (begun_at c begin) h (Fail n s) → IsContended c h n.0 s.0
  guard_failed x = subst (λ k. IsContended c h k s.0) (sym x.0) (failed_contended c begin h llx.node.0 s.0 since x.1)

  pub guard_finalized : llx.node.0 ≡ 2 → IsQuietSince c.layout c.pass c.start h → LlxAnswers llx (begun_at c begin) h (Finalized n s) → IsContended c h n.0 s.0
  guard_finalized two quiet x = subst (λ k. IsContended c h k s.0) (sym x.0)
      (finalized_contended c h llx.node.0 s.0 run.1.lawful quiet (record { moment = h; within = ends_self h; since = now; was = subst (λ k. is_final (log c.layout h) k ≡ false) (sym two) (two_not_final c.layout h run) }) x.1 (there_wider c.pass h begin c.start llx.node.0 s.0 since x.2))

module _ {E : Type 0} (e : EditMeaning E) (looks : LooksWell e) (ed : E) (c : Call) (h : History) (f : Found) (snaps : List Snap) (run : IsMapRun c.layout h) (needed : 0 < (e.work ed f).need) (looked : HasLooked e c h ed f snaps) where
  -- an LLX of what the edit looks at, begun in the try, ends without a snapshot
  module _ (llx : LlxRun) (begin : History) (since : Extends begin c.start) (named : e.looks ed f snaps ≡ At llx.node) (n : NodeNo) (s : ScxNo) where
    pub look_failed : LlxAnswers llx (begun_at c begin) h (Fail n s) → IsContended c h n.0 s.0
    look_failed x = subst (λ k. IsContended c h k s.0) (sym x.0) (failed_contended c begin h llx.node.0 s.0 since x.1)

    pub look_finalized : IsQuietSince c.layout c.pass c.start h → LlxAnswers llx (begun_at c begin) h (Finalized n s) → IsContended c h n.0 s.0
    look_finalized quiet x = subst (λ k. IsContended c h k s.0) (sym x.0) (finalized_contended c h llx.node.0 s.0 run.1.lawful quiet (looks.stood ed c h f snaps llx.node run needed looked named) x.1 (there_wider c.pass h begin c.start llx.node.0 s.0 since x.2))

  -- the edit finds that its snapshots differ from what the walk has found
  pub look_differs : (n : NodeNo) (s : ScxNo) → IsQuietSince c.layout c.pass c.start h → e.looks ed f snaps ≡ Differs n s → IsContended c h n.0 s.0
  look_differs n s quiet named = looks.differs ed c h f snaps n s run needed looked named quiet
