-- What an update knows when it gets something, by its place.
use Rattle.std.proofs.Common.{◌≡◌, ℕ, true, false, Option, Some, None, unwrap_or, refl, sym, ◌∙◌, subst}
use Rattle.histories.specs.Common.{NodeNo, NodeWord, Settled, SettledPart, History, value, Call, begun_at, node}
use Rattle.template.specs.Common.{IsOwnMoment, IsPastRoot, LlxIsReady, ScxIsReady, LlxRun, ScxRun, TreeAllows, WalkIsTold, WalkKnows}
use Rattle.template.specs.declared.walk.Found.{Found}
use Rattle.template.specs.declared.walk.WalkAt.{WalkAt}
use Rattle.template.specs.declared.walk.WalkAt.TheVariants as walks
use Rattle.template.specs.declared.walk.WalkRun.{WalkRun}
use Rattle.edits.specs.declared.edit.Nth.{Nth}
use Rattle.edits.specs.declared.update.UpdateAt.{UpdateAt}
use Rattle.edits.specs.declared.update.UpdateAt.TheVariants.{Start, Walk, Guard, Look, Read, Fill, Scx}
use Rattle.edits.specs.declared.update.UpdateRun.{UpdateRun}
use Rattle.edits.specs.Edits.{EditMeaning}
use Rattle.edits.specs.Known.{RestsWith, IsUntouched, FirstOrLost, Guarded, Guards, IsGuardSnap, MayBeginTry, Walks, WalksGuarded, Looks, Reads, Scxs, IsFilledUpTo, UpdateIsToldAt, UpdateIsReady}
use Rattle.edits.specs.Tries.{MayTry, IsTry}

module _ {E : Type 0} (e : EditMeaning E) (m : UpdateRun E UpdateAt) (c : Call) (h : History) where
  pub at_start : (got : Option ℕ) → m.at ≡ Start → UpdateIsReady e m c h got → MayBeginTry e m c h × MayTry c h h m.limit m.tries × RestsWith c c.start m.share
  at_start None is r = (r.0, r.1, r.2)
  at_start (Some v) is r = absurd (subst (λ p. UpdateIsToldAt e m (begun_at c r.0) h v p) is r.3)

  pub at_walk : (got : Option ℕ) (walk : WalkRun) → m.at ≡ Walk walk → UpdateIsReady e m c h got → (b : History) × IsTry c b h m.limit m.tries × IsUntouched c b m.share × Walks e m (begun_at c b) h walk.way walk.goal × (v : ℕ) × (got ≡ Some v) × WalkIsTold walk (begun_at c b) h v × WalksGuarded e m (begun_at c b) h walk.at (λ k. WalkIsTold walk k h v)
  at_walk None walk is r = absurd (let d : Walk walk ≡ Start = sym is ∙ r.3 in cc)
  at_walk (Some v) walk is r = let t = subst (λ p. UpdateIsToldAt e m (begun_at c r.0) h v p) is r.3 in (r.0, r.1, subst (λ p. FirstOrLost e m c r.0 p) is r.2, t.0, v, refl, t.1, t.2)

  -- where it has no guard, or has that behind it
  pub past_guard : (d : Call) (walk : WalkRun) (v : ℕ) → (walk.at ≡ walks.Root → e.guard m.edit ≡ false) → WalkIsTold walk d h v → WalksGuarded e m d h walk.at (λ k. WalkIsTold walk k h v) → Guarded e m.edit d h m.guard (λ k. WalkIsTold walk k h v)
  past_guard d walk v none told guarded is = go walk.at refl
    where
      go : (at : WalkAt) → walk.at ≡ at → (g : History) × IsGuardSnap d h g m.guard × WalkIsTold walk (begun_at d g) h v
      go walks.Start e = absurd (subst (WalkKnows d h walk) e told.known)
      go walks.Root e = absurd (let z : true ≡ false = sym is ∙ none e in cc)
      go (walks.Head above) e = guarded (subst IsPastRoot (sym e) tt) is
      go (walks.Key head) e = guarded (subst IsPastRoot (sym e) tt) is
      go (walks.Child level side) e = guarded (subst IsPastRoot (sym e) tt) is
      go (walks.More head) e = guarded (subst IsPastRoot (sym e) tt) is
      go (walks.Pair head more slot) e = guarded (subst IsPastRoot (sym e) tt) is
      go (walks.Value head more slot key) e = guarded (subst IsPastRoot (sym e) tt) is
      go (walks.High head more slot key low) e = guarded (subst IsPastRoot (sym e) tt) is

  pub at_guard : (got : Option ℕ) (walk : WalkRun) (head : ℕ) (llx : LlxRun) → m.at ≡ Guard walk head llx → UpdateIsReady e m c h got → (b : History) × IsTry c b h m.limit m.tries × IsUntouched c b m.share × (begin : History) × Guards e m (begun_at c b) h walk head llx begin × LlxIsReady TreeAllows llx (begun_at (begun_at c b) begin) h got × IsOwnMoment (begun_at c b) h
  at_guard None walk head llx is r = absurd (let d : Guard walk head llx ≡ Start = sym is ∙ r.3 in cc)
  at_guard (Some v) walk head llx is r = let t = subst (λ p. UpdateIsToldAt e m (begun_at c r.0) h v p) is r.3 in (r.0, r.1, subst (λ p. FirstOrLost e m c r.0 p) is r.2, t.0, t.1, t.2, t.3)

  pub at_look : (got : Option ℕ) (f : Found) (llx : LlxRun) → m.at ≡ Look f llx → UpdateIsReady e m c h got → (b : History) × IsTry c b h m.limit m.tries × (begin : History) × Looks e m (begun_at c b) h f llx begin × LlxIsReady TreeAllows llx (begun_at (begun_at c b) begin) h got
  at_look None f llx is r = absurd (let d : Look f llx ≡ Start = sym is ∙ r.3 in cc)
  at_look (Some v) f llx is r = let t = subst (λ p. UpdateIsToldAt e m (begun_at c r.0) h v p) is r.3 in (r.0, r.1, t.0, t.1, t.2)

  pub at_read : (got : Option ℕ) (f : Found) (n : NodeNo) (part : SettledPart) → m.at ≡ Read f n part → UpdateIsReady e m c h got → (b : History) × IsTry c b h m.limit m.tries × Reads e m (begun_at c b) h f n part × (value h (node n.0 (Settled part)) ≡ unwrap_or got 0)
  at_read None f n part is r = absurd (let d : Read f n part ≡ Start = sym is ∙ r.3 in cc)
  at_read (Some v) f n part is r = let t = subst (λ p. UpdateIsToldAt e m (begun_at c r.0) h v p) is r.3 in (r.0, r.1, t.0, t.1)

  pub at_fill : (got : Option ℕ) (f : Found) (nth : Nth) (part : NodeWord) → m.at ≡ Fill f nth part → UpdateIsReady e m c h got → (b : History) × IsTry c b h m.limit m.tries × IsFilledUpTo e m (begun_at c b) h f nth part
  at_fill None f nth part is r = absurd (let d : Fill f nth part ≡ Start = sym is ∙ r.3 in cc)
  at_fill (Some v) f nth part is r = (r.0, r.1, subst (λ p. UpdateIsToldAt e m (begun_at c r.0) h v p) is r.3)

  pub at_scx : (got : Option ℕ) (f : Found) (scx : ScxRun) → m.at ≡ Scx f scx → UpdateIsReady e m c h got → (b : History) × IsTry c b h m.limit m.tries × (begin : History) × Scxs e m (begun_at c b) h f scx begin × ScxIsReady TreeAllows scx (begun_at (begun_at c b) begin) h got
  at_scx None f scx is r = absurd (let d : Scx f scx ≡ Start = sym is ∙ r.3 in cc)
  at_scx (Some v) f scx is r = let t = subst (λ p. UpdateIsToldAt e m (begun_at c r.0) h v p) is r.3 in (r.0, r.1, t.0, t.1, t.2)
