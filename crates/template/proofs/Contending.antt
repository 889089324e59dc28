-- Who was in the way of a call on the tree: another's SCX-record, which is finished at the end of
-- the call or has reached the node in it.
use Rattle.std.proofs.Common.{◌≡◌, ◌≢◌, ℕ, List, inl, inr, ⊎_elim, sym, ◌∙◌, ap, subst, arith}
use native.Mathlib.Decide.{ℕ_discrete}
use Rattle.histories.specs.Common.{Layout, Kind, LoadInfo, info, state, History, Opened, ◌⊳◌, value, HasHeld, Extends, member, Lawful, WasInTheWay, HasFailed, Call, begun_at}
use Rattle.arena.proofs.Lemmas.{ends_self, ends_trans, held_at, held_since}
use Rattle.histories.proofs.Lemmas.{Effect, Facts, committed_won, effect, facts_before, freeze, freeze_is_new, freeze_keeps_info, freeze_stores, lawful_since, lawful_tail, quiet, state_since, update, update_keeps_info}
use Rattle.prims.specs.Laws.Blamed.{moment_since, way_since}
use Rattle.template.specs.Common.{HasFoundThere, IsLeftAlone, HasChanged, snap_at, Snap, WasNotFinal, IsContended}
use Rattle.prims.specs.Laws.FoundThere.{found_there, there_later, there_wider}
use Rattle.prims.specs.Laws.Idle.{IsQuietSince}
use Rattle.prims.specs.Laws.InTheWay.{way_others}
use Rattle.prims.specs.Llx.Known.{IsFinalBy}
use Rattle.prims.specs.Moments.{IsMoment}
use Rattle.ordered_map.proofs.Lemmas.{blame_finalizer}
use Rattle.template.specs.Blame.{HasCome}

-- What has reached a node

-- an info that is no longer what it was names an SCX-record that it had never named by then
come_info : (lay : Layout) (h m : History) (n : ℕ) → Lawful lay h → Extends h m → value h (info n) ≢ value m (info n) → ¬ HasHeld m (info n) (value h (info n))
come_info lay (Opened o) m n l e d = absurd (d (ap (λ k. value k (info n)) (sym e)))
come_info lay (r ⊳ h) m n l (inl e) d = absurd (d (ap (λ k. value k (info n)) (sym e)))
come_info lay (r ⊳ h) m n l (inr e) d = go (effect lay h r l) (come_info lay h m n (lawful_tail lay h r l) e)
  where
    f : Facts lay h
    f = facts_before lay h r l

    before : value (r ⊳ h) (info n) ≡ value h (info n) → (value h (info n) ≢ value m (info n) → ¬ HasHeld m (info n) (value h (info n))) → ¬ HasHeld m (info n) (value (r ⊳ h) (info n))
    before q more = subst (λ s. ¬ HasHeld m (info n) s) (sym q) (more (λ x. d (q ∙ x)))

    go : Effect lay h r → (value h (info n) ≢ value m (info n) → ¬ HasHeld m (info n) (value h (info n))) → ¬ HasHeld m (info n) (value (r ⊳ h) (info n))
    go (quiet k) more = before (k.info n) more
    go (update u w) more = before (update_keeps_info f w n) more
    go (freeze u j w) more = other (ℕ_discrete (member h u j) n)
      where
        other : Dec (member h u j ≡ n) → ¬ HasHeld m (info n) (value (r ⊳ h) (info n))
        other (no p) held = before (freeze_keeps_info f w n p) more held
        other (yes p) held =
            let q : value (r ⊳ h) (info n) ≡ u = rw p at (freeze_stores f w) in
            let then : HasHeld h (info n) u = held_since h m (info n) u e (rw q at held) in
            freeze_is_new f w (subst (λ k. HasHeld h (info k) u) (sym p) then)

-- what has reached it by a moment has done so by a later one
come_later : (h m start : History) (n s : ℕ) → Extends h m → HasCome m start n s → HasCome h start n s
come_later h m start n s e x = record { named = held_since h m (info n) s e x.named; new = x.new }

-- what has reached it since a moment has done so since an earlier one
come_wider : (h m start : History) (n s : ℕ) → Extends m start → HasCome h m n s → HasCome h start n s
come_wider h m start n s e x = record { named = x.named; new = λ p. x.new (held_since m start (info n) s e p) }

-- What was in the way

-- what is finished stays finished
over_since : (lay : Layout) (h m : History) (s : ℕ) → Lawful lay h → Extends h m → value m (state s) ≢ 0 → value h (state s) ≢ 0
over_since lay h m s l e d z = d (sym (state_since lay h m s l e d) ∙ z)

-- what was in the way since a moment of the call was in the way of the call
way_wider : (c : Call) (h m : History) (n s : ℕ) → Extends m c.start → WasInTheWay h m n s → WasInTheWay h c.start n s
way_wider c h m n s e x = record { row = x.row; before = x.before; within = x.within; since = ends_trans x.before m c.start x.since e; running = x.running; covers = x.covers }

-- what contends with a call did so at any later moment too
pub contended_later : (c : Call) (h m : History) (n s : ℕ) → Lawful c.layout h → Extends h m → IsContended c m n s → IsContended c h n s
contended_later c h m n s l e x = record {
  others = x.others;
  in_the_way = way_since h m c.start n s e x.in_the_way;
  over_or_new = ⊎_elim (λ d. inl (over_since c.layout h m s l e d)) (λ y. inr (come_later h m c.start n s e y)) x.over_or_new;
  found = there_later c.pass h m c.start n s e x.found;
}

-- what contends with a part of the call that begins later contends with the call
pub contended_wider : (c : Call) (begin h : History) (n s : ℕ) → Extends begin c.start → IsContended (begun_at c begin) h n s → IsContended c h n s
contended_wider c begin h n s e x = record {
  others = x.others;
  in_the_way = way_wider c h begin n s e x.in_the_way;
  over_or_new = ⊎_elim (λ d. inl d) (λ y. inr (come_wider h begin c.start n s e y)) x.over_or_new;
  found = there_wider c.pass h begin c.start n s e x.found;
}

-- what was in the way of a pass that was idle all through its call, and has found it, and is
-- finished
pub way_contended : (c : Call) (h m : History) (n s : ℕ) → Lawful c.layout h → IsQuietSince c.layout c.pass c.start h → Extends m c.start → WasInTheWay h m n s → value h (state s) ≢ 0 → HasFoundThere c.pass h c.start n s → IsContended c h n s
way_contended c h m n s l idle e x over found =
    let way : WasInTheWay h c.start n s = way_wider c h m n s e x in
    record { others = way_others c.layout c.pass h c.start n s l idle way; in_the_way = way; over_or_new = inl over; found = found }

-- An LLX of the call, which began at this moment, fails.
pub failed_contended : (c : Call) (begin h : History) (n s : ℕ) → Extends begin c.start → HasFailed c.layout c.pass h begin n s → IsContended c h n s
failed_contended c begin h n s e x = record { others = x.others; in_the_way = way_wider c h begin n s e x.in_the_way; over_or_new = inl x.over; found = there_wider c.pass h begin c.start n s e (found_there c.pass h begin LoadInfo n s x.found) }

-- An LLX finds a node finalized that was not final at a moment of the call.
pub finalized_contended : (c : Call) (h : History) (n s : ℕ) → Lawful c.layout h → IsQuietSince c.layout c.pass c.start h → WasNotFinal c h n → IsFinalBy c.layout h n s → HasFoundThere c.pass h c.start n s → IsContended c h n s
finalized_contended c h n s l idle x is found = way_contended c h x.moment n s l idle x.since (blame_finalizer c.layout h x.moment n s l x.within x.was record { won = committed_won c.layout h s l is.committed; removed = is.by.removed }) over found
  where
    over : value h (state s) ≢ 0
    over z = let a = is.committed in omega (arith, a, z)

-- An SCX or a VLX, which began at this moment, finds another SCX-record at a node than the snapshot
-- that the call took.
module _ (c : Call) (kind : Kind) (begin h : History) (snaps : List Snap) (n s : ℕ) (l : Lawful c.layout h) (idle : IsQuietSince c.layout c.pass c.start begin) (x : HasChanged c.layout c.pass kind h begin snaps n s)
    (moment : History) (of_call : Extends moment c.start) (found : IsMoment c.layout begin (snap_at snaps x.index) moment) where
  abbrev snap : Snap
  snap = snap_at snaps x.index

  -- as it found it
  abbrev k : History
  k = x.found.before

  within : Extends h (x.found.row ⊳ k)
  within = x.found.last.within

  since : Extends h begin
  since = ends_trans h (x.found.row ⊳ k) begin within (inr x.found.since)

  inside : Extends h k
  inside = ends_trans h (x.found.row ⊳ k) k within (inr (ends_self k))

  way : WasInTheWay h moment snap.node.0 s
  way = x.blamed.in_the_way moment (moment_since c.layout h begin moment snap since found)

  alone : IsLeftAlone c.layout c.pass begin snap
  alone = record {
    moment = moment;
    found = found;
    idle = λ m e back t own running covers. idle m e (ends_trans m moment c.start back of_call) t own running;
  }

  -- what the snapshot found was finished, and s was not
  differs : value k (info n) ≢ value moment (info n)
  differs z =
      let seen : value moment (info n) ≡ snap.scx.0 = subst (λ m. value moment (info m) ≡ snap.scx.0) x.is found.info in
      let over : value (way.row ⊳ way.before) (state snap.scx.0) ≢ 0 = over_since c.layout (way.row ⊳ way.before) moment snap.scx.0 (lawful_since c.layout h (way.row ⊳ way.before) l way.within) (inr way.since) found.rest in
      over (subst (λ t. value (way.row ⊳ way.before) (state t) ≡ 0) (sym x.found.found ∙ z ∙ seen) way.running.unfinished)

  come : HasCome h moment n s
  come = record {
    named = held_since h k (info n) s inside (held_at k (info n) s x.found.found);
    new = subst (λ t. ¬ HasHeld moment (info n) t) x.found.found (come_info c.layout k moment n (lawful_since c.layout h k l inside) (ends_trans k begin moment x.found.since found.within) differs);
  }

  pub changed_contended : IsContended c h n s
  changed_contended = record {
    others = x.blamed.others alone;
    in_the_way = way_wider c h moment n s of_call (subst (λ m. WasInTheWay h moment m s) x.is way);
    over_or_new = inr (come_wider h moment c.start n s of_call come);
    found = there_wider c.pass h begin c.start n s (ends_trans begin moment c.start found.within of_call) (found_there c.pass h begin kind n s x.found);
  }
