-- What has left the tree, or the trie, unmarked is touched by no call that begins later, nor is a
-- finished SCX-record that only such nodes and final ones name.
use Rattle.std.proofs.Common.{◌≡◌, ◌≢◌, ◌<◌, ◌≤◌, ℕ, Bool, true, false, ◌⊎◌, inl, inr, ⊎_elim, refl, sym, ◌∙◌, ap, subst, arith}
use native.Mathlib.Decide.{ℕ_discrete}
use Rattle.histories.specs.Common.{Layout, Row, Side, Left, Right, Plan, Member, History, Opened, ◌⊳◌, value, HasHeld, Extends, info, marked, state, field, old, log, is_final, descriptor, count, count_of, plan_finalizes, scx_finalizes, member, plan, field_index, IsNamedScx, IsInProgress, IsMember, WasInTheWay, IsWin, HasWon, IsTakenNode, Lawful, Call}
use Rattle.arena.proofs.Lemmas.{ends_self, ends_trans}
use Rattle.histories.proofs.Lemmas.{About, Facts, UpdateWins, blame_info, facts, finished_taken, first_frozen, lawful_since, not_final, scx_since, state_since, update_flagged, update_in_progress, update_is_first}
use Rattle.ordered_map.specs.EditPlans.{above_plan}
use Rattle.ordered_map.specs.OrderedMap.{MapEdit}
use Rattle.ordered_map.specs.Runs.{IsMapRun}
use Rattle.ordered_map.specs.TreeShape.{IsEdit}
use Rattle.ordered_map.specs.TreeWords.{is_leaf}
use Rattle.ordered_map.specs.TrieShape.{IsTrieEdit}
use Rattle.ordered_map.proofs.Lemmas.{end_join_plan_says, end_leaf_plan_says, join_plan_says, leaf_plan_says, settled_leaf, wins_of}
use Rattle.ordered_map.proofs.MapLemmas.{run_since, stood_settled, tree_not_final}
use Rattle.prims.specs.Laws.InTheWay.{open_before}
use Rattle.touching.specs.Kinds.{IsInTree}
use Rattle.touching.specs.Left.{AreLetGoOrLeft, HasLeft, IsNamedByLeft}
use Rattle.touching.specs.Touches.{HasReached, WasCovered, TouchesNode, TouchesScx, was_so, covered, own_node, named, in_progress, own_scx}
use Rattle.touching.proofs.Begun.{HasBegunEdit, begun_edit, leaf_then, member_named, word_then}
use Rattle.touching.proofs.Dead.{let_go, marked_since, named_cell}
use Rattle.touching.proofs.Leaving.{there_before, was_since}
use Rattle.touching.proofs.OwnScx.{InTree}
use Rattle.touching.proofs.Present.{one_first}
use Rattle.touching.proofs.Reaching.{index_now, reached_there}
use Rattle.touching.proofs.Standing.{fork_now, two_now}

-- it never comes back
pub left_since : (lay : Layout) (h m : History) (n : ℕ) → IsMapRun lay h → Extends h m → HasLeft m n → HasLeft h n
left_since lay h m n run e x = record { stood = was_since h m n e x.stood; out = λ y. x.out (there_before lay h m n run e x.stood y) }

-- the row by which an SCX-record has won
pub record HasWonAt (h : History) (s : ℕ) : Type 0 where
  pub row : Row
  pub before : History
  pub within : Extends h (row ⊳ before)
  pub wins : IsWin before row s

pub won_at : (h : History) (s : ℕ) → HasWon h s → HasWonAt h s
unfolding HasWon
won_at (Opened o) s w = absurd w
won_at (r ⊳ h) s (inl w) = record { row = r; before = h; within = inl refl; wins = w }
won_at (r ⊳ h) s (inr w) = let x = won_at h s w in record { row = x.row; before = x.before; within = inr x.within; wins = x.wins }

-- one of four places
one_of : (j many : ℕ) → j < many → many ≤ 4 → (j ≡ 0) ⊎ ((j ≡ 1) ⊎ (((j ≡ 2) × (2 < many)) ⊎ ((j ≡ 3) × (3 < many))))
one_of j many i few = go (ℕ_discrete j 0) (ℕ_discrete j 1) (ℕ_discrete j 2)
  where
    go : Dec (j ≡ 0) → Dec (j ≡ 1) → Dec (j ≡ 2) → (j ≡ 0) ⊎ ((j ≡ 1) ⊎ (((j ≡ 2) × (2 < many)) ⊎ ((j ≡ 3) × (3 < many))))
    go (yes q) x y = inl q
    go (no d) (yes q) y = inr (inl q)
    go (no d) (no c) (yes q) = inr (inr (inl (q, omega (arith, i, q))))
    go (no d) (no c) (no a) = inr (inr (inr (omega (arith, i, few, d, c, a), omega (arith, i, few, d, c, a))))

-- of what an edit covers it finalizes all but the first node and node 2
abbrev IsKeptPlace : History → ℕ → ℕ → Type 0
IsKeptPlace b s j = (j ≡ 0) ⊎ (member b s j ≡ 2)

module _ (lay : Layout) (b : History) (s j : ℕ) (e : MapEdit) (place : j < count b s) (kept : scx_finalizes b s j ≡ false) where
  not_at : (i : ℕ) → plan_finalizes (plan b s) i ≡ true → j ≡ i → IsKeptPlace b s j
  not_at i t q = absurd (let d : true ≡ false = sym t ∙ ap (plan_finalizes (plan b s)) (sym q) ∙ kept in cc)

  at_two : (i : ℕ) → member b s i ≡ 2 → j ≡ i → IsKeptPlace b s j
  at_two i is q = inr (ap (member b s) q ∙ is)

  by_place : (many : ℕ) → count b s ≡ many → many ≤ 4 → (j ≡ 1 → IsKeptPlace b s j) → (j ≡ 2 → 2 < many → IsKeptPlace b s j) → (j ≡ 3 → 3 < many → IsKeptPlace b s j) → IsKeptPlace b s j
  by_place many is few first second third = go (one_of j many (omega (arith, place, is)) few)
    where
      go : (j ≡ 0) ⊎ ((j ≡ 1) ⊎ (((j ≡ 2) × (2 < many)) ⊎ ((j ≡ 3) × (3 < many)))) → IsKeptPlace b s j
      go (inl q) = inl q
      go (inr (inl q)) = first q
      go (inr (inr (inl q))) = second q.0 q.1
      go (inr (inr (inr q))) = third q.0 q.1

  kept_place : IsEdit lay b s e → IsKeptPlace b s j
  kept_place (inl x) =
      let p = leaf_plan_says (plan b s) _ x.plan in
      by_place 2 p.3 (omega arith) (not_at 1 p.4) (λ q i. absurd (omega (arith, i))) (λ q i. absurd (omega (arith, i)))
  kept_place (inr (inl x)) =
      let p = join_plan_says (plan b s) _ x.plan in
      by_place 4 p.3 (omega arith) (not_at 1 p.4) (λ q i. not_at 2 p.5 q) (λ q i. not_at 3 p.6 q)
  kept_place (inr (inr x)) = go x.1
    where
      above_count : (p : ℕ) (t : Side) → p ≡ above_plan t → count_of p ≡ 2
      above_count p Left q = rw q refl
      above_count p Right q = rw q refl

      go : IsTrieEdit b s e → IsKeptPlace b s j
      go (inl y) = let p = leaf_plan_says (plan b s) _ y.plan in by_place 2 p.3 (omega arith) (not_at 1 p.4) (λ q i. absurd (omega (arith, i))) (λ q i. absurd (omega (arith, i)))
      go (inr (inl y)) = let p = end_leaf_plan_says (plan b s) _ y.plan in by_place 3 p.3 (omega arith) (not_at 1 p.4) (λ q i. at_two 2 y.guard q) (λ q i. absurd (omega (arith, i)))
      go (inr (inr (inl y))) = let p = end_join_plan_says (plan b s) _ y.plan in by_place 4 p.3 (omega arith) (not_at 1 p.4) (λ q i. not_at 2 p.5 q) (λ q i. at_two 3 y.guard q)
      go (inr (inr (inr y))) = by_place 2 (above_count (plan b s) _ y.plan) (omega arith) (at_two 1 y.guard) (λ q i. absurd (omega (arith, i))) (λ q i. absurd (omega (arith, i)))

-- An SCX-record in progress reaches no node that has left unmarked before.
module _ (lay : Layout) (m t : History) (n s : ℕ) (run : IsMapRun lay m) (since : Extends m t) (gone : HasLeft t n) (mark : value t (marked n) ≡ 0) (going : IsInProgress m s) (reached : HasReached m s n) where
  f : Facts lay m
  f = facts lay m run.1.lawful

  real : s ≢ 0
  real e = let d = f.dummy in let w : value m (state 0) ≡ 0 = rw e at going.unfinished in omega arith

  run_t : IsMapRun lay t
  run_t = run_since lay m t run since

  not_there : (k : History) → Extends m k → Extends k t → IsInTree k n → ⊥
  not_there k within after x = gone.out (there_before lay k t n (run_since lay m k run within) after gone.stood x)

  -- just before its update won
  module _ (g : History) (r : Row) (within : Extends m (r ⊳ g)) (won : IsWin g r s) where
    within_g : Extends m g
    within_g = ends_trans m (r ⊳ g) g within (inr (ends_self g))

    run_g : IsMapRun lay g
    run_g = run_since lay m g run within_g

    fg : Facts lay g
    fg = facts lay g run_g.1.lawful

    w : UpdateWins g r s
    w = wins_of lay g r s (lawful_since lay m (r ⊳ g) run.1.lawful within) won

    named_g : IsNamedScx g s
    named_g = (member g s 0, (update_flagged fg w).frozen 0 (update_flagged fg w).some)

    going_g : IsInProgress g s
    going_g = record { unfinished = update_in_progress fg w; named = named_g }

    member_is : (j : ℕ) → member m s j ≡ member g s j
    member_is j = scx_since lay m g s run.1.lawful within_g real named_g (Member j) tt

    count_is : count m s ≡ count g s
    count_is = ap count_of (scx_since lay m g s run.1.lawful within_g real named_g Plan tt)

    place : reached.index < count g s
    place = let i = reached.within in omega (arith, i, count_is)

    here : member g s reached.index ≡ n
    here = sym (member_is reached.index) ∙ reached.is

    there_g : IsInTree g n
    there_g = reached_there lay g run_g s going_g (update_is_first fg w) n record { index = reached.index; within = place; is = here; earlier = λ i few. (update_flagged fg w).frozen i (omega (arith, few, place)) }

    -- if that was before it left, it was marked by then, or is there still
    module _ (e : Extends t (r ⊳ g)) where
      after : Extends t g
      after = ends_trans t (r ⊳ g) g e (inr (ends_self g))

      b : HasBegunEdit lay g s
      b = begun_edit lay g s run_g.1.lawful run_g.1.shaped real named_g

      by_mark : scx_finalizes g s reached.index ≡ true → ⊥
      by_mark q =
          let now : value g (marked n) ≡ 1 = subst (λ k. value g (marked k) ≡ 1) here (w.update.all_marked reached.index place q) in
          let then : value t (marked n) ≡ 1 = marked_since lay t g n run_t.1.lawful after now in
          omega (arith, then, mark)

      by_kept : IsKeptPlace b.before s reached.index → ⊥
      by_kept (inr q) = gone.out (subst (IsInTree t) (sym (sym here ∙ word_then lay g s run_g.1.lawful real b g (ends_self g) b.within (Member reached.index) tt ∙ q)) (two_now lay t run_t))
      by_kept (inl q) = gone.out (fork_now lay t n run_t gone.stood (not_final lay t n run_t.1.lawful mark) (settled_leaf (value g) (value t) n (stood_settled lay t g n run_t after record { moment = g; within = ends_self g; tree = there_g.tree; is_tree = there_g.is_tree; has = there_g.has }) ∙ fork))
        where
          first : member b.before s 0 ≡ n
          first = sym (word_then lay g s run_g.1.lawful real b g (ends_self g) b.within (Member 0) tt) ∙ ap (member g s) (sym q) ∙ here

          fork : is_leaf (value g) n ≡ false
          fork = subst (λ k. is_leaf (value g) k ≡ false) first (leaf_then lay g s run_g.1.lawful real b g (ends_self g) b.within (member b.before s 0) (member_named lay g s run_g.1.lawful real b 0) ∙ b.may.fork)

      earlier : ⊥
      earlier = go (scx_finalizes g s reached.index) refl
        where
          same : plan g s ≡ plan b.before s
          same = word_then lay g s run_g.1.lawful real b g (ends_self g) b.within Plan tt

          go : (q : Bool) → scx_finalizes g s reached.index ≡ q → ⊥
          go true q = by_mark q
          go false q = by_kept (kept_place lay b.before s reached.index b.edit (subst (λ p. reached.index < count_of p) same place) (ap (λ p. plan_finalizes p reached.index) (sym same) ∙ q) b.may.edit)

    not_won : ⊥
    not_won = go (one_first m (r ⊳ g) t within since)
      where
        go : Extends (r ⊳ g) t ⊎ Extends t (r ⊳ g) → ⊥
        go (inl (inl e)) = earlier (subst (λ k. Extends k (r ⊳ g)) (sym e) (ends_self (r ⊳ g)))
        go (inl (inr e)) = not_there g within_g e there_g
        go (inr e) = earlier e

  not_reached : ⊥
  not_reached = go (about.steady (inr (held, going.unfinished)))
    where
      first : HasHeld m (info (member m s 0)) s
      first = first_frozen m s going.named.0 going.named.1 (f.cell s going.named.0 real going.named.1)

      about : About lay (descriptor m s) m s
      about = f.about s (member m s 0) real first

      held : HasHeld m (info (member m s (field_index m s))) s
      held = subst (λ i. HasHeld m (info (member m s i)) s) (sym (index_now lay m run s going)) first

      go : (value m (field m s) ≡ old m s) ⊎ HasWon m s → ⊥
      go (inl e) = not_there m (ends_self m) since (reached_there lay m run s going (λ x. about.moved x e) n reached)
      go (inr x) = let y = won_at m s x in not_won y.before y.row y.within y.wins

-- So it is touched by no call that begins later.
module _ (c : Call) (h t : History) (n : ℕ) (run : IsMapRun c.layout h) (began : Extends h c.start) (after : Extends c.start t) (gone : HasLeft t n) (taken : IsTakenNode c.start n) where
  pub left_covered : TouchesNode InTree c h n → (s : ℕ) × WasCovered c h s n
  left_covered (was_so x) = absurd (gone.out (there_before c.layout x.moment t n (run_since c.layout h x.moment run x.within) (ends_trans x.moment c.start t x.since after) gone.stood x.was))
  left_covered (covered s x) = (s, x)
  left_covered (own_node o free) = absurd (free taken)

  pub left_untouched : value t (marked n) ≡ 0 → ¬ TouchesNode InTree c h n
  left_untouched mark x = let y = left_covered x in let z = y.1 in not_reached c.layout z.moment t n y.0 (run_since c.layout h z.moment run z.within) (ends_trans z.moment c.start t z.since after) gone mark z.was.0 z.was.1

-- Nor is an SCX-record that is finished, and that no other nodes name.
pub left_scx : (c : Call) (h t : History) (s : ℕ) → IsMapRun c.layout h → Extends h c.start → Extends c.start t → s ≢ 0 → value t (state s) ≢ 0 → IsNamedByLeft c.layout t s → ¬ TouchesScx InTree c h s
left_scx c h t s run began after real d left = go
  where
    finished : (k : History) → Extends h k → Extends k t → value k (state s) ≡ 0 → ⊥
    finished k within since z = d (sym (state_since c.layout k t s (lawful_since c.layout h k run.1.lawful within) since d) ∙ z)

    go : TouchesScx InTree c h s → ⊥
    go (in_progress x) = finished x.moment x.within (ends_trans x.moment c.start t x.since after) x.was.unfinished
    go (own_scx o free) = free (finished_taken c.layout c.start s (lawful_since c.layout h c.start run.1.lawful began) real (λ z. finished c.start began after z))
    go (named n x y) = at (ℕ_discrete (value t (info n)) s)
      where
        run_x : IsMapRun c.layout x.moment
        run_x = run_since c.layout h x.moment run x.within

        later : Extends x.moment t
        later = ends_trans x.moment c.start t x.since after

        not_left : (is_final (log c.layout t) n ≡ true) ⊎ HasLeft t n → ⊥
        not_left (inr z) = z.out (there_before c.layout x.moment t n run_x later z.stood x.was)
        not_left (inl z) = let e : is_final (log c.layout t) n ≡ false = open_before c.layout x.moment t n run_x.1.lawful later (tree_not_final c.layout x.moment x.was.tree n run_x x.was.is_tree x.was.has) in let q : true ≡ false = sym z ∙ e in cc

        at : Dec (value t (info n) ≡ s) → ⊥
        at (yes e) = not_left (left n e)
        at (no e) =
            let w : WasInTheWay y.moment t n (value y.moment (info n)) = blame_info c.layout y.moment t n (lawful_since c.layout h y.moment run.1.lawful y.within) (ends_trans y.moment c.start t y.since after) (λ q. e (sym q ∙ y.was)) in
            finished (w.row ⊳ w.before) (ends_trans h y.moment (w.row ⊳ w.before) y.within w.within) (inr w.since) (subst (λ u. value (w.row ⊳ w.before) (state u) ≡ 0) y.was w.running.unfinished)

-- a look at its nodes tells that
pub left_or_final : (lay : Layout) (h : History) (s : ℕ) → Lawful lay h → s ≢ 0 → AreLetGoOrLeft h s → IsNamedByLeft lay h s
left_or_final lay h s l real left n e =
    let cell : IsMember h s n = named_cell lay h s n l real e in
    ⊎_elim (λ y. inl (let_go lay h s n l cell y e)) (λ y. inr (subst (HasLeft h) cell.is y)) (left cell.index cell.within)
