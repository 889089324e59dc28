-- A marked node is removed for good once its remover is finished, as it is after a period; and then
-- no call that begins later comes to it.
use Rattle.std.proofs.Common.{◌≡◌, ◌≢◌, ◌⊎◌, ℕ, true, false, inl, inr, refl, sym, ◌∙◌, subst, arith}
use Rattle.histories.specs.Common.{Layout, History, Extends, HasHeld, value, state, info, marked, log, is_final, member, field, old, descriptor, IsInProgress, HasWon, IsTakenNode, Lawful, Call}
use Rattle.histories.specs.Finalizing.{IsFinalizing}
use Rattle.arena.proofs.Lemmas.{ends_self, ends_trans, held_at}
use Rattle.histories.proofs.Lemmas.{About, Facts, IsOwned, by_final, committed_won, facts, first_frozen, lawful_since, named_scx_taken, since, some_is_real, state_since}
use Rattle.prims.specs.Laws.InTheWay.{final_since, flagged_commits}
use Rattle.prims.specs.Laws.Linked.{finalizing_more, marker_named}
use Rattle.ordered_map.specs.Runs.{IsMapRun}
use Rattle.ordered_map.proofs.MapLemmas.{run_since}
use Rattle.touching.specs.Touches.{HasReached, TouchesNode, was_so, covered, own_node}
use Rattle.touching.proofs.Lemmas.{index_now, marked_since, reached_there, taken_scx_since, there_not_final}
use Rattle.resting.specs.Dead.{IsMarkedNode, IsRemovedNode}
use Rattle.resting.specs.Periods.{IsPeriod, RestedBetween}
use Rattle.resting.specs.Reach.{IsOutOfReach}
use Rattle.resting.specs.Records.{the_node}
use Rattle.resting.specs.Rests.{AreSince}
use Rattle.resting.proofs.Rows.{taken_node_since}
use Rattle.resting.proofs.Touched.{InTree, node_out}

-- what its info names finalizes it, then and later
finalizing_since : (lay : Layout) (m t : History) (n : ℕ) → Lawful lay m → Extends m t → value t (marked n) ≢ 0 → IsFinalizing m n (value t (info n))
finalizing_since lay m t n l e mark = since (λ k. IsFinalizing k n (value t (info n))) lay (λ k r lr x. finalizing_more lay k r n (value t (info n)) lr x) m t l e (marker_named lay t n (value t (info n)) (lawful_since lay m t l e) mark refl)

-- and its info goes on to name that
remover_stays : (lay : Layout) (m t : History) (n : ℕ) → Lawful lay m → Extends m t → value t (marked n) ≢ 0 → value m (info n) ≡ value t (info n)
remover_stays lay m t n l e mark =
    let x : IsFinalizing m n (value t (info n)) = finalizing_since lay m t n l e mark in
    subst (λ v. value m (info v) ≡ value t (info n)) x.removed.is ((facts lay m l).finalizes (value t (info n)) (λ z. let w = x.flag in omega (arith, w, z)) x.removed.index x.removed.within x.removed.removed)

-- a removed node is final
pub removed_final : (lay : Layout) (t : History) (n : ℕ) → Lawful lay t → IsRemovedNode t n → is_final (log lay t) n ≡ true
removed_final lay t n l x =
    let s : ℕ = value t (info n) in
    let y : IsFinalizing t n s = marker_named lay t n s l x.mark refl in
    by_final lay t n s l record { won = committed_won lay t s l (flagged_commits lay t n s l y x.finished); removed = y.removed }

-- no SCX-record that is in progress later reaches it
module _ (lay : Layout) (m t : History) (n s : ℕ) (run : IsMapRun lay m) (e : Extends m t) (dead : IsRemovedNode t n) (going : IsInProgress m s) (reached : HasReached m s n) where
  abbrev f : Facts lay m
  f = facts lay m run.1.lawful

  real : s ≢ 0
  real q = let d = f.dummy in let w : value m (state 0) ≡ 0 = rw q at going.unfinished in omega arith

  first : HasHeld m (info (member m s 0)) s
  first = first_frozen m s going.named.0 going.named.1 (f.cell s going.named.0 real going.named.1)

  about : About lay (descriptor m s) m s
  about = f.about s (member m s 0) real first

  -- one that has won holds it: so it is the remover, which is finished
  not_won : ¬ HasWon m s
  not_won w = dead.finished (sym (state_since lay m t (value t (info n)) run.1.lawful e dead.finished) ∙ subst (λ v. value m (state v) ≡ 0) same going.unfinished)
    where
      held : HasHeld m (info (member m s reached.index)) s
      held = (f.flagged s (λ z. let x = f.winner s w in omega (arith, x, z))).frozen reached.index reached.within

      same : s ≡ value t (info n)
      same = sym (subst (λ v. value m (info v) ≡ s) reached.is (about.holds reached.index reached.within held going.unfinished)) ∙ remover_stays lay m t n run.1.lawful e dead.mark

  not_reached : ⊥
  not_reached = go (about.steady (inr (subst (λ i. HasHeld m (info (member m s i)) s) (sym (index_now lay m run s going)) first, going.unfinished)))
    where
      go : (value m (field m s) ≡ old m s) ⊎ HasWon m s → ⊥
      go (inr w) = not_won w
      go (inl q) =
          let there : is_final (log lay m) n ≡ false = there_not_final lay m n run (reached_there lay m run s going (λ x. about.moved x q) n reached) in
          let final : is_final (log lay m) n ≡ true = final_since lay m t n run.1.lawful e (removed_final lay t n (lawful_since lay m t run.1.lawful e) dead) in
          let d : true ≡ false = sym final ∙ there in cc

-- so it is out of reach when all have rested since
pub removed_out : (lay : Layout) (h : History) (last : ℕ → History) (t : History) → AreSince lay last t → (n : ℕ) → IsRemovedNode t n → IsOutOfReach lay h last (the_node n)
removed_out lay h last t since n dead = node_out lay h last t since n dead.taken untouched
  where
    untouched : (c : Call) (g : History) → c.layout ≡ lay → IsMapRun lay g → Extends g c.start → Extends c.start t → IsTakenNode c.start n → ¬ TouchesNode InTree c g n
    untouched c g lay_is run began after taken (own_node own free) = free taken
    untouched c g lay_is run began after taken (covered s x) = not_reached lay x.moment t n s (run_since lay g x.moment run x.within) (ends_trans x.moment c.start t x.since after) dead x.was.0 x.was.1
    untouched c g lay_is run began after taken (was_so x) =
        let run_x : IsMapRun lay x.moment = run_since lay g x.moment run x.within in
        let later : Extends x.moment t = ends_trans x.moment c.start t x.since after in
        let final : is_final (log lay x.moment) n ≡ true = final_since lay x.moment t n run_x.1.lawful later (removed_final lay t n (lawful_since lay x.moment t run_x.1.lawful later) dead) in
        let d : true ≡ false = sym final ∙ there_not_final lay x.moment n run_x x.was in cc

-- a marked node is removed as soon as that is finished which its info named
pub removed_seen : (lay : Layout) (h t : History) (n : ℕ) → Lawful lay h → Extends h t → IsMarkedNode t n → value h (state (value t (info n))) ≢ 0 → IsRemovedNode h n
removed_seen lay h t n l e x d = record {
  taken = taken_node_since h t n e x.taken;
  mark = λ z. (let y : value h (marked n) ≡ 1 = marked_since lay h t n l e ((facts lay t (lawful_since lay h t l e)).mark n x.mark) in omega (arith, y, z));
  finished = subst (λ v. value h (state v) ≢ 0) (sym (remover_stays lay h t n l e x.mark)) d;
}

-- After a period the remover of a marked node is finished: its owner has rested since the mark.
module _ (lay : Layout) (t snapshot end : History) (n : ℕ) (l : Lawful lay end) (x : IsMarkedNode t n) (after : Extends snapshot t) (period : IsPeriod lay snapshot end) where
  later : Extends end t
  later = ends_trans end snapshot t period.ordered after

  abbrev then : Facts lay t
  then = facts lay t (lawful_since lay end t l later)

  abbrev remover : ℕ
  remover = value t (info n)

  its_real : remover ≢ 0
  its_real = some_is_real then (then.flagged remover (λ z. let y = (finalizing_since lay t t n (lawful_since lay end t l later) (ends_self t) x.mark).flag in omega (arith, y, z))).some

  owner : IsOwned lay (descriptor t remover) remover
  owner = (then.about remover n its_real (held_at t (info n) remover refl)).owned

  rest : RestedBetween lay snapshot end owner.pass
  rest = period.rested owner.pass owner.is_pass

  over : value rest.rest (state remover) ≢ 0
  over = rest.over remover owner.scx its_real (taken_scx_since rest.rest t remover (ends_trans rest.rest snapshot t rest.since after) (named_scx_taken lay t remover (lawful_since lay end t l later) its_real (n, held_at t (info n) remover refl)))

  pub removed_after : IsRemovedNode end n
  removed_after = removed_seen lay end t n l later x (λ z. over (sym (state_since lay end rest.rest remover l rest.by over) ∙ z))
