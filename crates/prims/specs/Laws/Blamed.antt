-- Who was in the way of a call over snapshots: an SCX-record of another
-- pass, where this one had left the snapshot alone.
use Rattle.std.proofs.Common.{◌≡◌, ◌≢◌, ℕ, ◌<◌, inr, ⊎_elim, sym, ◌∙◌, subst, arith, List, length}
use Rattle.histories.specs.Common.{Layout, info, state, History, ◌⊳◌, value, Extends, count, IsOwnScx, IsOthersScx, IsTakenScx, Lawful, IsInProgress, WasInTheWay, Call}
use Rattle.arena.proofs.Lemmas.{ends_trans}
use Rattle.histories.proofs.Lemmas.{blame_info, facts, lawful_since, named_scx_taken, named_since, planned_taken, state_since, still_since}
use Rattle.prims.specs.Moments.{IsMoment, IsLeftAlone, IsBlamed}
use Rattle.prims.specs.Snap.{snap_at}
use Rattle.prims.specs.Vlx.Known.{HasBegun}
use Rattle.prims.specs.declared.snap.Snap.{Snap}
use Rattle.prims.specs.Laws.Wins.{ends_either}
use Rattle.prims.specs.Laws.Begun.{taken_since}

-- a moment of a snapshot, seen from a moment of the history, is one of the whole history too
pub moment_since : (lay : Layout) (h k m : History) (snap : Snap) → Extends h k → IsMoment lay k snap m → IsMoment lay h snap m
moment_since lay h k m snap e x = record { within = ends_trans h k m e x.within; named = x.named; rest = x.rest; info = x.info; not_final = x.not_final }

-- what was in the way by some moment of the history was in the way in the whole history
pub way_since : (h k m : History) (n v : ℕ) → Extends h k → WasInTheWay k m n v → WasInTheWay h m n v
way_since h k m n v e x = record { row = x.row; before = x.before; within = ends_trans h k (x.row ⊳ x.before) e x.within; since = x.since; running = x.running; covers = x.covers }

-- an SCX-record in progress is owned by some pass
owned_of : (lay : Layout) (k : History) (v : ℕ) → Lawful lay k → IsInProgress k v → (p : ℕ) × (p < lay.passes) × IsOwnScx lay p v
owned_of lay k v l x =
    let real : v ≢ 0 = λ e. (let d = (facts lay k l).dummy in let z : value k (state 0) ≡ 0 = rw e at x.unfinished in omega arith) in
    let o = ((facts lay k l).about v x.named.0 real x.named.1).owned in
    (o.pass, o.is_pass, o.scx)

-- a moment at which s covers some node is after the call's
-- begin, where s was not taken as the call began
pub behind_start : (c : Call) (h : History) (s : ℕ) → Lawful c.layout h → Extends h c.start → ¬ IsTakenScx c.start s → (k : History) → Extends h k → 0 < count k s → Extends k c.start
behind_start c h s l since free k e some = ⊎_elim (λ p. p) (λ p. absurd (free (taken_since c.start k s p (planned_taken c.layout k s (lawful_since c.layout h k l e) some)))) (ends_either h k c.start e since)

module _ (c : Call) (h : History) (s : ℕ) (snaps : List Snap) (l : Lawful c.layout h) (b : HasBegun c h s snaps) (i : ℕ) (w : i < length snaps) where
  -- a moment that the call knows
  abbrev known : History
  known = (b.clear.found i w).0

  abbrev found : IsMoment c.layout c.start (snap_at snaps i) known
  found = (b.clear.found i w).1

  -- what was in the way is another pass's, if it was so since a moment from
  -- which on the pass had left the snapshot alone
  others_at : (v : ℕ) → (IsOwnScx c.layout c.pass v → v ≢ s) → (alone : IsLeftAlone c.layout c.pass c.start (snap_at snaps i)) → WasInTheWay h alone.moment (snap_at snaps i).node.0 v → IsOthersScx c.layout c.pass v
  others_at v d alone x = go (owned_of c.layout k v lk x.running)
    where
      k : History
      k = x.row ⊳ x.before

      lk : Lawful c.layout k
      lk = lawful_since c.layout h k l x.within

      -- an own one that was taken as the call began was
      -- finished then, and the pass has taken no other
      own_behind : IsOwnScx c.layout c.pass v → Extends k c.start → ⊥
      own_behind own e =
          let real : v ≢ 0 = λ z. (let f = own.from in omega arith) in
          let taken : IsTakenScx h v = taken_since h k v x.within (named_scx_taken c.layout k v lk real x.running.named) in
          let over : ¬ IsTakenScx c.start v = λ t. (let f = b.clear.over v own real t in f (sym (state_since c.layout k c.start v lk e f) ∙ x.running.unfinished)) in
          b.only v own (d own) over taken

      own_before : IsOwnScx c.layout c.pass v → Extends c.start k → ⊥
      own_before own e = alone.idle k e (inr x.since) v own x.running x.covers

      not_own : IsOwnScx c.layout c.pass v → ⊥
      not_own own = ⊎_elim (own_behind own) (own_before own) (ends_either h k c.start x.within b.since)

      go : (p : ℕ) × (p < c.layout.passes) × IsOwnScx c.layout p v → IsOthersScx c.layout c.pass v
      go o = record { pass = o.0; is_pass = o.1; is_other = λ e. not_own (rw e at o.2); owns = o.2 }

  -- so what was in the way since every moment of the snapshot is, where the pass had left the
  -- snapshot alone
  others_of : (v : ℕ) → (IsOwnScx c.layout c.pass v → v ≢ s) → ((m : History) → IsMoment c.layout h (snap_at snaps i) m → WasInTheWay h m (snap_at snaps i).node.0 v) → IsLeftAlone c.layout c.pass c.start (snap_at snaps i) → IsOthersScx c.layout c.pass v
  others_of v d way alone = others_at v d alone (way alone.moment (moment_since c.layout h c.start alone.moment (snap_at snaps i) b.since alone.found))

  -- an SCX-record that the info names now, and that the snapshot had not found
  -- there, has reached the node since the snapshot
  pub blamed_now : (v : ℕ) → (IsOwnScx c.layout c.pass v → v ≢ s) → value h (info (snap_at snaps i).node.0) ≡ v → (snap_at snaps i).scx.0 ≢ v → IsBlamed c.layout c.pass h c.start (snap_at snaps i) v
  blamed_now v d e other = record { in_the_way = way; others = others_of v d way }
    where
      way : (m : History) → IsMoment c.layout h (snap_at snaps i) m → WasInTheWay h m (snap_at snaps i).node.0 v
      way m y = subst (λ u. WasInTheWay h m (snap_at snaps i).node.0 u) e (blame_info c.layout h m (snap_at snaps i).node.0 l y.within (λ z. other (sym y.info ∙ sym z ∙ e)))

  -- so has one that the info named at a moment after the call's start, and that the snapshot had
  -- not found there
  pub blamed_behind : (k : History) (v : ℕ) → (IsOwnScx c.layout c.pass v → v ≢ s) → Extends h k → Extends k c.start → value k (info (snap_at snaps i).node.0) ≡ v → (snap_at snaps i).scx.0 ≢ v → IsBlamed c.layout c.pass h c.start (snap_at snaps i) v
  blamed_behind k v d e behind held other = record { in_the_way = way; others = others_of v d way }
    where
      lk : Lawful c.layout k
      lk = lawful_since c.layout h k l e

      from_known : Extends k known
      from_known = ends_trans k c.start known behind found.within

      -- the info never names that again
      not_later : (m : History) → IsMoment c.layout h (snap_at snaps i) m → Extends m k → ⊥
      not_later m y p =
          let rest : value k (state (snap_at snaps i).scx.0) ≢ 0 = λ z. found.rest (sym (state_since c.layout k known (snap_at snaps i).scx.0 lk from_known found.rest) ∙ z) in
          let x = still_since c.layout m k (snap_at snaps i).node.0 (snap_at snaps i).scx.0 (lawful_since c.layout h m l y.within) p (named_since c.layout k known (snap_at snaps i).node.0 lk from_known found.named) rest y.info in
          other (sym x.info ∙ held)

      way : (m : History) → IsMoment c.layout h (snap_at snaps i) m → WasInTheWay h m (snap_at snaps i).node.0 v
      way m y = ⊎_elim
          (λ p. way_since h k m (snap_at snaps i).node.0 v e (subst (λ u. WasInTheWay k m (snap_at snaps i).node.0 u) held (blame_info c.layout k m (snap_at snaps i).node.0 lk p (λ z. other (sym y.info ∙ sym z ∙ held)))))
          (λ p. absurd (not_later m y p))
          (ends_either h k m e y.within)
