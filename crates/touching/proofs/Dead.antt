-- A marked node is dead to each call that begins when all passes have rested since, and a finished
-- SCX-record that no node names which is not final is dead to each that begins later.
use Rattle.std.proofs.Common.{◌≡◌, ◌≢◌, ◌<◌, ℕ, true, false, inl, inr, sym, ◌∙◌, subst, arith}
use native.Mathlib.Decide.{ℕ_discrete}
use Rattle.histories.specs.Common.{Layout, History, ◌⊳◌, Extends, value, state, info, marked, count, log, is_final, descriptor, IsTakenNode, IsMember, IsInProgress, WasInTheWay, Lawful, Call}
use Rattle.histories.specs.Finalizing.{IsFinalizing}
use Rattle.arena.proofs.Lemmas.{ends_trans, held_at}
use Rattle.histories.proofs.Lemmas.{Facts, IsMarker, IsOwned, blame_info, by_final, committed_won, facts, lawful_since, marked_stays, member_of, named_scx_taken, since, some_is_real, state_since}
use Rattle.prims.specs.Laws.InTheWay.{HasBeen, final_since, flagged_commits}
use Rattle.prims.specs.Laws.Linked.{finalizing_more, marker_named}
use Rattle.touching.specs.Kinds.{IsNotFinal}
use Rattle.touching.specs.Fresh.{WasNamedInCall}
use Rattle.touching.specs.Rests.{HasRestedSince, AllHaveRested, IsNamedByFinal, IsLetGo, AreLetGo}
use Rattle.touching.specs.Touches.{WasCovered, TouchesNode, TouchesScx}
use Rattle.touching.proofs.Fresh.{final_covered, finished_named}
use Rattle.touching.proofs.Moments.{taken_scx_since}

-- a mark stays
pub marked_since : (lay : Layout) (h m : History) (n : ℕ) → Lawful lay h → Extends h m → value m (marked n) ≡ 1 → value h (marked n) ≡ 1
marked_since lay h m n = since (λ k. value k (marked n) ≡ 1) lay (λ h r l e. marked_stays lay h r n l e) h m

-- what an SCX-record in progress is owned by
owned : (lay : Layout) (m : History) (s : ℕ) → Lawful lay m → IsInProgress m s → IsOwned lay (descriptor m s) s
owned lay m s l x = (f.about s x.named.0 real x.named.1).owned
  where
    f : Facts lay m
    f = facts lay m l

    real : s ≢ 0
    real e = let d = f.dummy in let w : value m (state 0) ≡ 0 = rw e at x.unfinished in omega arith

module _ (c : Call) (h t : History) (n : ℕ) (l : Lawful c.layout h) (began : Extends h c.start) (mark : value t (marked n) ≢ 0) (rested : AllHaveRested c.layout h c.start t n) where
  -- its remover was finished when its owner rested: so it was final as the call began
  module _ (lt : Lawful c.layout t) where
    f : Facts c.layout t
    f = facts c.layout t lt

    marker : (s : ℕ) × IsMarker (descriptor t s) t s n
    marker = f.marked n mark

    some : 0 < count t marker.0
    some = (f.flagged marker.0 (λ z. let y = marker.1.flag in omega arith)).some

    real : marker.0 ≢ 0
    real = some_is_real f some

    owner : IsOwned c.layout (descriptor t marker.0) marker.0
    owner = (f.about marker.0 n real (held_at t (info n) marker.0 marker.1.holds)).owned

    q : HasRestedSince c.layout h c.start t n owner.pass
    q = rested owner.pass owner.is_pass

    lq : Lawful c.layout q.rest
    lq = lawful_since c.layout h q.rest l (ends_trans h c.start q.rest began q.within)

    finished : value q.rest (state marker.0) ≢ 0
    finished = q.over marker.0 owner.scx real (taken_scx_since q.rest t marker.0 q.since (named_scx_taken c.layout t marker.0 lt real (n, held_at t (info n) marker.0 marker.1.holds)))

    finalizing : IsFinalizing q.rest n marker.0
    finalizing = since (λ k. IsFinalizing k n marker.0) c.layout (λ k r lr x. finalizing_more c.layout k r n marker.0 lr x) q.rest t lq q.since (marker_named c.layout t n marker.0 lt mark marker.1.holds)

    final_then : is_final (log c.layout q.rest) n ≡ true
    final_then = by_final c.layout q.rest n marker.0 lq record { won = committed_won c.layout q.rest marker.0 lq (flagged_commits c.layout q.rest n marker.0 lq finalizing finished); removed = finalizing.removed }

    pub final_now : is_final (log c.layout c.start) n ≡ true
    final_now = final_since c.layout c.start q.rest n (lawful_since c.layout h c.start l began) q.within final_then

    -- and no SCX-record in progress covers it: its owner would have seen it unmarked behind its
    -- mark
    pub not_covered : (s : ℕ) → ¬ WasCovered c h s n
    not_covered s x = go (ℕ_discrete (value r.rest (state s)) 0)
      where
        lm : Lawful c.layout x.moment
        lm = lawful_since c.layout h x.moment l x.within

        o : IsOwned c.layout (descriptor x.moment s) s
        o = owned c.layout x.moment s lm x.was.0

        own_real : s ≢ 0
        own_real e = let a = o.scx.from in omega (arith, a, e)

        r : HasRestedSince c.layout h c.start t n o.pass
        r = rested o.pass o.is_pass

        later : Extends x.moment r.rest
        later = ends_trans x.moment c.start r.rest x.since r.within

        go : Dec (value r.rest (state s) ≡ 0) → ⊥
        go (no d) = d (sym (state_since c.layout x.moment r.rest s lm later d) ∙ x.was.0.unfinished)
        go (yes z) =
            let u : HasBeen x.moment r.rest (λ k. value k (marked n) ≡ 0) = r.unmarked s x.moment o.scx (λ taken. r.over s o.scx own_real taken z) x.within x.was.0 (let k = x.was.1 in record { index = k.index; within = k.within; is = k.is }) in
            let m : value u.moment (marked n) ≡ 1 = marked_since c.layout u.moment t n (lawful_since c.layout x.moment u.moment lm u.within) (ends_trans u.moment r.rest t u.since r.since) (f.mark n mark) in
            let v = u.was in
            omega arith

-- so no call touches it
pub dead_node : (c : Call) (h t : History) (n : ℕ) → Lawful c.layout h → Extends h c.start → Extends c.start t → value t (marked n) ≢ 0 → AllHaveRested c.layout h c.start t n → IsTakenNode c.start n → ¬ TouchesNode IsNotFinal c h n
dead_node c h t n l began after mark rested taken x =
    let lt : Lawful c.layout t = lawful_since c.layout h t l (ends_trans h c.start t began after) in
    let y : (s : ℕ) × WasCovered c h s n = final_covered c h l began n (final_now c h t n l began mark rested lt) taken x in
    not_covered c h t n l began mark rested lt y.0 y.1

-- once a finished SCX-record is named by final nodes alone, no call that begins later touches it
pub dead_scx : (c : Call) (h t : History) (s : ℕ) → Lawful c.layout h → Extends h c.start → Extends c.start t → s ≢ 0 → value t (state s) ≢ 0 → IsNamedByFinal c.layout t s → ¬ TouchesScx IsNotFinal c h s
dead_scx c h t s l began after real d left x = go (ℕ_discrete (value t (info y.node)) s)
  where
    ls : Lawful c.layout c.start
    ls = lawful_since c.layout h c.start l began

    same : value c.start (state s) ≡ value t (state s)
    same = state_since c.layout c.start t s ls after d

    y : WasNamedInCall c h s
    y = finished_named c h l began s real (λ z. d (sym same ∙ z)) x

    k : History
    k = y.named.moment

    lk : Lawful c.layout k
    lk = lawful_since c.layout h k l y.named.within

    later : Extends k t
    later = ends_trans k c.start t y.named.since after

    go : Dec (value t (info y.node) ≡ s) → ⊥
    go (yes e) = let a : is_final (log c.layout c.start) y.node ≡ true = final_since c.layout c.start t y.node ls after (left y.node e) in let b = y.not_final in let w : true ≡ false = sym a ∙ b in cc
    go (no e) =
        let w : WasInTheWay k t y.node (value k (info y.node)) = blame_info c.layout k t y.node lk later (λ q. e (sym q ∙ y.named.was)) in
        let z : value (w.row ⊳ w.before) (state s) ≡ 0 = subst (λ u. value (w.row ⊳ w.before) (state u) ≡ 0) y.named.was w.running.unfinished in
        d (sym (state_since c.layout (w.row ⊳ w.before) t s (lawful_since c.layout k (w.row ⊳ w.before) lk w.within) (inr w.since) d) ∙ z)

-- a look at its nodes tells that
pub let_go : (lay : Layout) (h : History) (s n : ℕ) → Lawful lay h → (cell : IsMember h s n) → IsLetGo h s cell.index → value h (info n) ≡ s → is_final (log lay h) n ≡ true
let_go lay h s n l cell (inl y) e = by_final lay h n s l record { won = committed_won lay h s l y.0; removed = record { index = cell.index; within = cell.within; is = cell.is; removed = y.1 } }
let_go lay h s n l cell (inr d) e = absurd (d (subst (λ k. value h (info k) ≡ s) (sym cell.is) e))

pub named_cell : (lay : Layout) (h : History) (s n : ℕ) → Lawful lay h → s ≢ 0 → value h (info n) ≡ s → IsMember h s n
named_cell lay h s n l real e = member_of h s n ((facts lay h l).cell s n real (held_at h (info n) s e))

pub left_named : (lay : Layout) (h : History) (s : ℕ) → Lawful lay h → s ≢ 0 → AreLetGo h s → IsNamedByFinal lay h s
left_named lay h s l real left n e = let cell : IsMember h s n = named_cell lay h s n l real e in let_go lay h s n l cell (left cell.index cell.within) e
