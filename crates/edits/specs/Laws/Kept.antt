-- What an update knows stays true after any row.
use Rattle.std.proofs.Common.{◌≡◌, ◌≢◌, ℕ, Some, None, Option, Bool, true, false, List, ◌++◌, inr, ⊎_elim, refl, sym, ◌∙◌, ap, subst, IfSome}
use Rattle.histories.specs.Common.{NodeNo, Row, Fill, Settled, Head as HeadPart, More, Key, Value, Slot, Word, head_of, History, ◌⊳◌, value, Lawful, IsRun, Call, begun_at, Remaining}
use Rattle.histories.proofs.Lemmas.{named_more, node_stays}
use Rattle.prims.specs.Laws.Begun.{takes_by_others, takes_by_step}
use Rattle.prims.specs.Laws.Idle.{IsIdle, IsQuietSince, quiet_more, idle_if_finished}
use Rattle.template.specs.Common.{FoundBy, HasFoundThere, IsSnapshot, IsUsable, Snap, snap_at, held_behind, IsMapRun, TreeAllows, WasInTree, Goal}
use Rattle.ordered_map.proofs.MapLemmas.{run_since, two_stood}
use Rattle.prims.proofs.Lemmas.{over_more, share_by_others, share_by_step, usable_now, usable_since}
use Rattle.ordered_map.proofs.Lemmas.{SameSettled, held_same, same_from}
use Rattle.template.specs.declared.walk.Found.{Found}
use Rattle.template.specs.declared.walk.Way.{Way}
use Rattle.template.proofs.Lemmas.{found_by_more}
use Rattle.edits.specs.declared.edit.Nth.{Nth}
use Rattle.edits.specs.declared.reading.Reading.{Reading}
use Rattle.edits.specs.declared.update.UpdateRun.{UpdateRun}
use Rattle.edits.specs.Edits.{EditMeaning, covering}
use Rattle.edits.specs.Laws.SnapLists.{at_end}
use Rattle.edits.specs.Known.{RestsWith, HasSnappedInCall, HasSnappedAfterWalk, AreSnappedInCall, AreUsable, Guarded, IsGuardSnap, HasLooked, MayRead, MayReadAt, WorksAtNode}
use Rattle.edits.specs.Readings.{IsRead, slot_read}

-- a pass at rest is idle
pub idle_rests : (c : Call) (h : History) (left : Remaining) → Lawful c.layout h → RestsWith c h left → IsIdle c.layout c.pass h
idle_rests c h left l x = idle_if_finished c h l x.over

-- and stays quiet
pub quiet_rests : (c : Call) (h : History) (r : Row) (left : Remaining) → Lawful c.layout (r ⊳ h) → RestsWith c (r ⊳ h) left → IsQuietSince c.layout c.pass c.start h → IsQuietSince c.layout c.pass c.start (r ⊳ h)
quiet_rests c h r left l x = quiet_more c.layout c.pass c.start h r (idle_rests c (r ⊳ h) left l x)

-- rows of other passes leave the pass at rest
pub rests_by_others : (c : Call) (h : History) (r : Row) (left : Remaining) → Lawful c.layout (r ⊳ h) → r.pass.0 ≢ c.pass → RestsWith c h left → RestsWith c (r ⊳ h) left
rests_by_others c h r left l other x = record {
  share = share_by_others c.layout h r c.pass left left.next_node left.next_scx l c.is_pass other x.share;
  over = over_more c.layout c.pass 0 h r l (takes_by_others c.layout c.pass 0 h r l other) x.over;
}

-- and so do rows that fill nothing
pub rests_by_step : (c : Call) (h : History) (r : Row) (left : Remaining) → Lawful c.layout (r ⊳ h) → r.kind ≢ Fill → RestsWith c h left → RestsWith c (r ⊳ h) left
rests_by_step c h r left l no_fill x = record {
  share = share_by_step c.layout h r c.pass left left.next_node left.next_scx l no_fill x.share;
  over = over_more c.layout c.pass 0 h r l (takes_by_step c.layout c.pass 0 h r no_fill) x.over;
}

-- a snapshot that the call has taken may be used
pub snapped_usable : (c : Call) (h : History) (snap : Snap) → Lawful c.layout h → (x : HasSnappedInCall c h snap) → IsUsable c.layout h snap x.moment
snapped_usable c h snap l x = usable_since c.layout h x.moment snap x.moment l x.within (usable_now c.layout x.moment snap.node.0 snap x.is)

-- one that it has taken behind its walk is one that it has taken
pub has_snapped : (c : Call) (h : History) (way : Way) (goal : Goal) (f : Found) (snap : Snap) → HasSnappedAfterWalk c h way goal f snap → HasSnappedInCall c h snap
has_snapped c h way goal f snap u = record { moment = u.moment; within = u.within; since = u.since; stood = u.stood; is = u.is; met = u.met }

-- so is that of its guard
pub kept_snapped : (c : Call) (h g : History) (snap : Snap) → IsMapRun c.layout h → IsGuardSnap c h g snap → HasSnappedInCall c h snap
kept_snapped c h g snap run x = record {
  moment = x.row ⊳ g;
  within = x.within;
  since = inr x.since;
  stood = subst (WasInTree (x.row ⊳ g)) (sym x.is.node) (two_stood c.layout (x.row ⊳ g) (run_since c.layout h (x.row ⊳ g) run x.within)).0;
  is = subst (λ n. IsSnapshot c.layout (x.row ⊳ g) n snap) (sym x.is.node) x.is;
  met = subst (λ n. HasFoundThere c.pass (x.row ⊳ g) c.start n snap.scx.0) (sym x.is.node) x.met;
}

-- what it covers it has taken
pub covering_snapped : (c : Call) (h : History) (way : Way) (goal : Goal) (f : Found) (guard : Bool) (snaps : List Snap) (kept : Snap) → AreUsable c h way goal f snaps → (guard ≡ true → HasSnappedInCall c h kept) → AreSnappedInCall c h (covering guard snaps kept)
covering_snapped c h way goal f false snaps kept x y i p = has_snapped c h way goal f (snap_at snaps i) (x i p)
covering_snapped c h way goal f true snaps kept x y i p = ⊎_elim (λ q. subst (HasSnappedInCall c h) (sym q.1) (has_snapped c h way goal f (snap_at snaps i) (x i q.0))) (λ q. subst (HasSnappedInCall c h) (sym q.1) (y refl)) (at_end snaps kept i p)

-- what is kept of its guard is kept
pub kept_more : (c : Call) (h : History) (r : Row) (g : History) (snap : Snap) → IsGuardSnap c h g snap → IsGuardSnap c (r ⊳ h) g snap
kept_more c h r g snap x = record { row = x.row; within = inr x.within; since = x.since; is = x.is; met = x.met }

pub guarded_more : {E : Type 0} (e : EditMeaning E) (ed : E) (c : Call) (h : History) (r : Row) (snap : Snap) (P Q : Call → Type 0) → ((g : History) → P (begun_at c g) → Q (begun_at c g)) → Guarded e ed c h snap P → Guarded e ed c (r ⊳ h) snap Q
guarded_more e ed c h r snap P Q go x is = let y = x is in (y.0, kept_more c h r y.0 snap y.1, go y.0 y.2)

-- as the leaf is that it has found
pub found_guarded_more : {E : Type 0} (e : EditMeaning E) (ed : E) (c : Call) (h : History) (r : Row) (snap : Snap) (f : Found) → IsMapRun c.layout h → IsRun TreeAllows c.layout (r ⊳ h) → Guarded e ed c h snap (λ k. FoundBy (e.way ed) (e.goal ed) k h f) → Guarded e ed c (r ⊳ h) snap (λ k. FoundBy (e.way ed) (e.goal ed) k (r ⊳ h) f)
found_guarded_more e ed c h r snap f run run_now = guarded_more e ed c h r snap (λ k. FoundBy (e.way ed) (e.goal ed) k h f) (λ k. FoundBy (e.way ed) (e.goal ed) k (r ⊳ h) f) (λ g. found_by_more (begun_at c g) h r (e.goal ed) f run run_now (e.way ed))

-- snapshots may be used for ever
pub usable_more : (c : Call) (h : History) (r : Row) (way : Way) (goal : Goal) (f : Found) (snaps : List Snap) → AreUsable c h way goal f snaps → AreUsable c (r ⊳ h) way goal f snaps
usable_more c h r way goal f snaps x i p = let u = x i p in record { moment = u.moment; within = inr u.within; since = u.since; found = u.found; stood = u.stood; is = u.is; met = u.met }

-- what is read of a named node is what it holds for ever
module _ (b f : Word → ℕ) (n : ℕ) (same : SameSettled b f n) where
  same_option : {A : Type 0} (o : Option A) (P Q : A → Type 0) → ((x : A) → P x → Q x) → IfSome o P → IfSome o Q
  same_option None P Q go x = tt
  same_option (Some v) P Q go x = go v x

  same_behind : (o : Option Slot) → held_behind f n o ≡ held_behind b n o
  same_behind None = refl
  same_behind (Some slot) = same_from b f n slot same

  pub read_same : (read : Reading) → IsRead b n read → IsRead f n read
  read_same read x = record {
    head = same_option read.head _ _ (λ v e. ap head_of (same (Settled HeadPart) tt) ∙ e) x.head;
    more = same_option read.more _ _ (λ v e. same (Settled More) tt ∙ e) x.more;
    key = same_option read.key _ _ (λ v e. same (Settled (Key (slot_read read))) tt ∙ e) x.key;
    low = same_option read.low _ _ (λ v e. same (Settled (Value (slot_read read))) tt ∙ e) x.low;
    pairs = ap (λ ps. read.pairs ++ ps) (same_behind read.slot) ∙ x.pairs ∙ sym (held_same b f n same);
    count = x.count;
    first = x.first;
  }

pub may_read_more : (c : Call) (h : History) (r : Row) (n : ℕ) (read : Reading) → Lawful c.layout (r ⊳ h) → MayRead c.layout h n read → MayRead c.layout (r ⊳ h) n read
may_read_more c h r n read l x = record {
  named = named_more r x.named;
  inside = x.inside;
  is = read_same (value h) (value (r ⊳ h)) n (λ part i. node_stays c.layout h r n part l i x.named) read x.is;
}

pub read_more : (c : Call) (h : History) (r : Row) (o : Option (NodeNo × Reading)) (read : Reading) → Lawful c.layout (r ⊳ h) → MayReadAt c.layout h o read → MayReadAt c.layout (r ⊳ h) o read
read_more c h r None read l x = tt
read_more c h r (Some y) read l x = may_read_more c h r y.0.0 read l x

module _ {E : Type 0} (e : EditMeaning E) where
  pub looked_more : (c : Call) (h : History) (r : Row) (ed : E) (f : Found) (snaps : List Snap) → IsMapRun c.layout h → IsRun TreeAllows c.layout (r ⊳ h) → HasLooked e c h ed f snaps → HasLooked e c (r ⊳ h) ed f snaps
  looked_more c h r ed f snaps g run x = record {
    small = x.small;
    may = x.may;
    found = found_by_more c h r (e.goal ed) f g run (e.way ed) x.found;
    usable = usable_more c h r (e.way ed) (e.goal ed) f snaps x.usable;
    seen = x.seen;
  }

  pub works_more : {A : Type 0} (m : UpdateRun E A) (c : Call) (h : History) (r : Row) (f : Found) (nth : Nth) → IsRun TreeAllows c.layout (r ⊳ h) → IsIdle c.layout c.pass (r ⊳ h) → WorksAtNode e m c h f nth → WorksAtNode e m c (r ⊳ h) f nth
  works_more m c h r f nth run idle x = record {
    run = (x.run.0, run);
    since = inr x.since;
    quiet = quiet_more c.layout c.pass c.start h r idle x.quiet;
    looked = looked_more c h r m.edit f m.snaps.items x.run run x.looked;
    enough = x.enough;
    asked = x.asked;
    need = x.need;
    in_order = x.in_order;
    some = x.some;
    guarded = found_guarded_more e m.edit c h r m.guard f x.run run x.guarded;
    untaken = x.untaken;
  }
