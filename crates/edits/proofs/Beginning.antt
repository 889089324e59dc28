-- What an update's SCX is to do, and what the update waits for as that begins.
use Rattle.std.proofs.Common.{◌≡◌, ℕ, suc, ◌+◌, ◌-◌, ◌<◌, Bool, true, false, List, length, None, sym, ◌∙◌, ap, subst, arith}
use Rattle.histories.specs.Common.{Turn, Ask, ScxNo, Step, IsOwnNode, IsOwnScx, IsTakenNode, IsNamedScx, History, Call, MatchTurn, begun_at, Remaining, HasScx, Descriptor}
use Rattle.template.specs.Common.{FoundBy, Job, job_of, Says, IsUpdateOver, ScxIsReady, ScxWaits, IsShare, snap_at, Scx as ScxAnswer, ScxRun, Snap, Update, TreeAllows, IsPromised, Tracks}
use Rattle.prims.specs.Scx.Known.{ScxAnswers}
use Rattle.prims.specs.declared.scx.ScxAt.TheVariants.{Start as ScxStart}
use Rattle.prims.proofs.Lemmas.{left_own_scx, over_begins}
use Rattle.template.specs.Tracked.{waits}
use Rattle.template.specs.declared.walk.Found.{Found}
use Rattle.template.proofs.Lemmas.{promised_allowed}
use Rattle.edits.specs.declared.edit.Work.{Work}
use Rattle.edits.specs.declared.update.UpdateAt.TheVariants.{Scx}
use Rattle.edits.specs.declared.update.UpdateRun.{UpdateRun}
use Rattle.edits.specs.Next.{standing}
use Rattle.edits.specs.Edits.{EditMeaning, covering}
use Rattle.edits.specs.Known.{AreSnappedInCall, CoversEnd, CoversLeaf, CanScx, HasGuard, HasSnappedInCall, IsGuardSnap, TryWaits, piece, top}
use Rattle.edits.specs.Laws.SnapLists.{last_is, last_there}
use Rattle.edits.specs.Laws.Entered.{none_quiet}
use Rattle.edits.specs.Laws.HandScx.{hand_ready, hand_share}
use Rattle.edits.specs.Laws.Kept.{covering_snapped, kept_snapped, snapped_usable}
use Rattle.edits.specs.Pieces.{update_for}
use Rattle.edits.specs.Sound.{IsOfTwo, MakesWell}

plus_one : (n : ℕ) → n + 1 ≡ suc n
plus_one n = omega arith

-- what is left of a share once an SCX-record is taken
abbrev less_an_scx : Remaining → Remaining
less_an_scx left = record left { next_scx = suc left.next_scx; scx = left.scx - 1 }

module _ {E : Type 0} (e : EditMeaning E) {A : Type 0} (m now : UpdateRun E A) (run after : ScxRun) (f : Found) (c : Call) (h : History) (sound : MakesWell e) (x : CanScx e m c h f)
    (is : run.update ≡ update_for m.work (covering (e.guard m.edit) m.snaps.items m.guard) m.nodes) (at : run.at ≡ ScxStart) (is_scx : run.scx.0 ≡ m.share.next_scx) (same_scx : after.scx ≡ run.scx) (same_update : after.update ≡ run.update) (same_call : after.call ≡ run.call) (is_call : after.call ≡ m.call) where
  abbrev all : List Snap
  all = covering (e.guard m.edit) m.snaps.items m.guard

  says_so : run.update ≡ update_for (e.work m.edit f) all m.nodes
  says_so = is ∙ ap (λ (w : Work). update_for w all m.nodes) x.asked

  -- what is kept of its guard
  of_two : IsOfTwo e m.edit m.guard
  of_two guard = (x.guarded guard).1.is.node

  kept : e.guard m.edit ≡ true → HasSnappedInCall c h m.guard
  kept guard = let y = x.guarded guard in kept_snapped c h y.0 m.guard x.run y.1

  needed : 0 < (e.work m.edit f).need
  needed = subst (λ (w : Work). 0 < w.need) x.asked x.need

  over : IsUpdateOver run.update
  over = subst IsUpdateOver (sym says_so) (sound.over m.edit c h f m.snaps.items m.guard m.nodes x.run needed x.all.looked x.all.enough of_two)

  covers : run.update.snaps ≡ all
  covers = ap (λ (u : Update). u.snaps) is

  fresh : run.update.fresh.0 ≡ top m
  fresh = ap (λ (u : Update). u.fresh.0) is

  usable : AreSnappedInCall c h run.update.snaps
  usable = subst (AreSnappedInCall c h) (sym covers) (covering_snapped c h (e.way m.edit) (e.goal m.edit) f (e.guard m.edit) m.snaps.items m.guard x.all.looked.usable kept)

  -- its SCX may begin
  pub scx_ready : ScxIsReady TreeAllows run (begun_at c h) h None
  scx_ready = hand_ready c h m.share m.nodes.first.0 (top m) (piece e m f) run x.run.1.lawful x.full x.some over
      (λ i p. let u = usable i p in (u.moment, snapped_usable c h (snap_at run.update.snaps i) x.run.1.lawful u)) at fresh is_scx
      (λ d says. promised_allowed c.layout c.pass h run.scx.0 d (e.edit m.edit f) (sound.promised m.edit c h f m.snaps.items m.guard m.nodes m.read (job_of run) d x.run needed x.all of_two says_so says))

  promised : (d : Descriptor) → Says d (job_of run) → IsPromised c.layout c.pass h run.scx.0 d (e.edit m.edit f)
  promised d says = sound.promised m.edit c h f m.snaps.items m.guard m.nodes m.read (job_of run) d x.run needed x.all of_two says_so says

  tracked : Tracks c.layout c.pass h (job_of run) (e.edit m.edit f)
  tracked = waits promised scx_ready.1.is_open.unnamed

  scx_is : after.scx.0 ≡ m.share.next_scx
  scx_is = ap (λ (s : ScxNo). s.0) same_scx ∙ is_scx

  fresh_is : after.update.fresh.0 ≡ top m
  fresh_is = ap (λ (u : Update). u.fresh.0) same_update ∙ fresh

  here : HasScx m.share m.share.next_scx
  here = record { from = omega arith; below = let s = x.some in omega (arith, s) }

  -- it covers the leaf that was found
  leaf : CoversLeaf e m.edit f c h after.scx.0 after.update
  leaf = subst (λ (u : Update). CoversLeaf e m.edit f c h after.scx.0 u) (sym (same_update ∙ says_so)) (sound.leaf m.edit c h f m.snaps.items m.guard m.nodes after.scx.0 x.run needed x.all.looked x.all.enough)

  -- where it has a guard, that is the last that it covers
  last_kept : (b : Bool) → b ≡ true → (u : Update) → u.snaps ≡ covering b m.snaps.items m.guard → (g : History) → IsGuardSnap c h g m.guard → FoundBy (e.way m.edit) (e.goal m.edit) (begun_at c g) h f → HasGuard c h (e.way m.edit) (e.goal m.edit) f u
  last_kept false is u same g y found = absurd (let z : false ≡ true = is in cc)
  last_kept true is u same g y found = record {
    place = length m.snaps.items;
    within = subst (λ (xs : List Snap). length m.snaps.items < length xs) (sym same) (last_there m.snaps.items m.guard);
    moment = g;
    kept = subst (λ (s : Snap). IsGuardSnap c h g s) (sym (ap (λ (xs : List Snap). snap_at xs (length m.snaps.items)) same ∙ last_is m.snaps.items m.guard)) y;
    found = found;
  }

  has_guard : e.guard m.edit ≡ true → HasGuard c h (e.way m.edit) (e.goal m.edit) f after.update
  has_guard guard = let y = x.guarded guard in last_kept (e.guard m.edit) guard after.update (ap (λ (u : Update). u.snaps) same_update ∙ covers) y.0 y.1 y.2

  ends : e.guard m.edit ≡ true → CoversEnd f c h after.scx.0 after.update
  ends guard = subst (λ (u : Update). CoversEnd f c h after.scx.0 u) (sym (same_update ∙ says_so)) (sound.ends m.edit c h f m.snaps.items m.guard m.nodes after.scx.0 x.run needed x.all.looked x.all.enough guard)

  first_waits : (turn : Turn ScxAnswer) (step : Step) → turn ≡ Ask step → MatchTurn turn (ScxWaits TreeAllows after (begun_at c h) h) (ScxAnswers after (begun_at c h) h) → TryWaits e (standing (record m { share = less_an_scx m.share; snaps = now.snaps }) (Scx f after)) c h step
  first_waits turn step asked w = (
    h,
    record {
      run = x.run;
      small = x.all.looked.small;
      may = x.all.looked.may;
      call = is_call;
      found = x.all.looked.found;
      need = needed;
      only = λ row before t within since w own. absurd (none_quiet c.layout c.pass h c.start x.run.1.lawful x.quiet row before t within since w own);
      usable = subst (λ (u : Update). AreSnappedInCall c h u.snaps) (sym same_update) usable;
      unnamed = subst (λ (s : ScxNo). ¬ IsNamedScx h s.0) (sym same_scx) scx_ready.1.is_open.unnamed;
      guard = has_guard;
      ends = ends;
      quiet = x.quiet;
      leaf = leaf;
      now = x.since;
      since = x.since;
      share = subst (λ s. IsShare c.layout h c.pass (less_an_scx m.share) m.share.next_node s) (sym scx_is) (hand_share c.layout h c.pass m.share m.nodes.first.0 (top m) (piece e m f) x.some x.full);
      next_node = x.full.next ∙ ap suc (sym fresh_is);
      next_scx = ap suc (sym scx_is);
      own = subst (λ n. IsOwnNode c.layout c.pass n) (sym fresh_is) (x.full.hand.own (top m) x.full.some (omega arith));
      own_scx = subst (λ s. IsOwnScx c.layout c.pass s) (sym scx_is) (left_own_scx c.layout h c.pass m.share m.nodes.first.0 m.share.next_scx m.share.next_scx x.full.share here);
      over = over_begins c.layout c.pass after.scx.0 h x.full.over;
      untaken = subst (λ n. ¬ IsTakenNode c.start n) (sym fresh_is) x.untaken;
      tracks = subst (λ (j : Job). Tracks c.layout c.pass h j (e.edit m.edit f)) (λ i. record { scx = sym same_scx i; call = sym same_call i; update = sym same_update i }) tracked;
    },
    rw asked at w,
  )

  -- it waits for the first step of its SCX
  pub scx_begins : (share : Remaining) (turn : Turn ScxAnswer) (step : Step) → share ≡ record m.share { next_scx = m.share.next_scx + 1; scx = m.share.scx - 1 } → turn ≡ Ask step
      → (ScxIsReady TreeAllows run (begun_at c h) h None → MatchTurn turn (ScxWaits TreeAllows after (begun_at c h) h) (ScxAnswers after (begun_at c h) h)) → TryWaits e (standing (record m { share = share; snaps = now.snaps }) (Scx f after)) c h step
  scx_begins share turn step less asked w =
      subst (λ (s : Remaining). TryWaits e (standing (record m { share = s; snaps = now.snaps }) (Scx f after)) c h step) (sym (less ∙ (λ i. record m.share { next_scx = plus_one m.share.next_scx i; scx = m.share.scx - 1 })))
      (first_waits turn step asked (w scx_ready))
