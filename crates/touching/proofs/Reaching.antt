-- What an SCX-record in progress has reached is in the tree, or in the trie, until its update wins;
-- so it reaches nothing that has left that unmarked.
use Rattle.std.proofs.Common.{◌≡◌, ◌≢◌, ◌<◌, ℕ, Bool, true, false, inl, inr, ⊎_elim, refl, sym, ◌∙◌, ap, subst, arith}
use native.Mathlib.Decide.{ℕ_discrete}
use Rattle.histories.specs.Common.{Layout, Side, Left, Right, Old, Plan, Member, ScxWord, scx, info, child, state, field, History, ◌⊳◌, value, HasHeld, Extends, count, count_of, member, old, seen, plan, field_index, field_index_of, side_of, IsFrozen, AreFrozen, IsNamed, by_field, IsInProgress, HasWon, log, is_final}
use Rattle.arena.proofs.Lemmas.{ends_self, ends_trans, held_at}
use Rattle.histories.proofs.Lemmas.{Facts, IsFinalizedBy, IsScxFill, facts, final_by, first_frozen, lawful_row, lawful_since}
use Rattle.prims.specs.Laws.Linked.{in_field_named}
use Rattle.ordered_map.specs.EditPlans.{above_plan}
use Rattle.ordered_map.specs.OrderedMap.{edit_key}
use Rattle.ordered_map.specs.Paths.{WasInTree}
use Rattle.ordered_map.specs.Runs.{IsMapRun}
use Rattle.ordered_map.specs.TreeShape.{IsEdit}
use Rattle.ordered_map.specs.TreeWords.{is_leaf, opposite, toward}
use Rattle.ordered_map.specs.TrieShape.{IsTrieEdit}
use Rattle.ordered_map.proofs.Lemmas.{end_join_plan_says, end_leaf_plan_says, join_plan_says, leaf_plan_says, was_passed}
use Rattle.ordered_map.proofs.MapLemmas.{run_since, stood_in_field, tree_not_final}
use Rattle.touching.specs.Kinds.{IsInTree}
use Rattle.touching.specs.Touches.{HasReached}
use Rattle.touching.proofs.Begun.{HasBegunEdit, KeepsFields, begun_edit, kept, leaf_then, member_named, word_then}
use Rattle.touching.proofs.Leaving.{edit_index, was_since}
use Rattle.touching.proofs.Standing.{child_now, fork_now, two_now}

module _ (lay : Layout) (m : History) (run : IsMapRun lay m) (s : ℕ) (going : IsInProgress m s) where
  abbrev f : Facts lay m
  f = facts lay m run.1.lawful

  real : s ≢ 0
  real e = let d = f.dummy in let w : value m (state 0) ≡ 0 = rw e at going.unfinished in omega arith

  abbrev b : HasBegunEdit lay m s
  b = begun_edit lay m s run.1.lawful run.1.shaped real going.named

  abbrev then : History
  then = b.before

  word : (a : ScxWord) → IsScxFill a → value m (scx s a) ≡ value then (scx s a)
  word a i = word_then lay m s run.1.lawful real b m (ends_self m) b.within a i

  before : Extends m then
  before = ends_trans m (b.row ⊳ then) then b.within (inr (ends_self then))

  frozen_first : IsFrozen m s 0
  frozen_first = let p = going.named in first_frozen m s p.0 p.1 (f.cell s p.0 real p.1)

  -- the field is one of its first node
  pub index_now : field_index m s ≡ 0
  index_now = ap field_index_of (word Plan tt) ∙ edit_index lay then s b.edit b.may.edit

  -- which is a fork
  abbrev spot : ℕ
  spot = member then s 0

  spot_is : member m s (field_index m s) ≡ spot
  spot_is = ap (λ p. value m (scx s (Member (field_index_of p)))) (word Plan tt) ∙ ap (λ i. value m (scx s (Member i))) (edit_index lay then s b.edit b.may.edit) ∙ word (Member 0) tt

  spot_before : WasInTree then spot
  spot_before = let p = b.may.path in was_passed then p.0 _ spot (p.0, p.1, ends_self p.0, p.2)

  spot_stood : WasInTree m spot
  spot_stood = was_since m then spot before spot_before

  fork_of : (j : ℕ) → is_leaf (value then) (member then s j) ≡ false → is_leaf (value m) (member then s j) ≡ false
  fork_of j e = leaf_then lay m s run.1.lawful real b m (ends_self m) b.within (member then s j) (member_named lay m s run.1.lawful real b j) ∙ e

  spot_fork : is_leaf (value m) spot ≡ false
  spot_fork = fork_of 0 b.may.fork

  module _ (unwon : ¬ HasWon m s) where
    holds : value m (info (member m s 0)) ≡ s
    holds = (f.about s (member m s 0) real frozen_first).holds 0 ((f.about s (member m s 0) real frozen_first).planned.some) frozen_first going.unfinished

    spot_open : is_final (log lay m) spot ≡ false
    spot_open = go (is_final (log lay m) spot) refl
      where
        by_other : (u : ℕ) → IsFinalizedBy m spot u → ⊥
        by_other u x = unwon (subst (HasWon m) same x.won)
          where
            its : value m (info spot) ≡ u
            its = subst (λ n. value m (info n) ≡ u) x.removed.is (f.finalizes u (λ z. let w = f.winner u x.won in omega (arith, w, z)) x.removed.index x.removed.within x.removed.removed)

            same : u ≡ s
            same = sym its ∙ ap (λ n. value m (info n)) (sym (word (Member 0) tt)) ∙ holds

        go : (t : Bool) → is_final (log lay m) spot ≡ t → t ≡ false
        go false e = refl
        go true e = let x = final_by lay m spot run.1.lawful e in absurd (by_other x.0 x.1)

    -- what its field is to lose is in the tree
    field_holds : value m (field m s) ≡ old m s
    field_holds = ⊎_elim (λ e. e) (λ w. absurd (unwon w)) ((f.about s (member m s 0) real frozen_first).steady (inr (subst (λ n. HasHeld m (info n) s) (word (Member 0) tt ∙ sym spot_is) frozen_first, going.unfinished)))

    old_there : IsInTree m (old then s)
    old_there = subst (IsInTree m) (ap (λ k. value m (child k (side_of (plan m s)))) (sym spot_is) ∙ field_holds ∙ word Old tt) (child_now lay m spot run spot_stood spot_open spot_fork (side_of (plan m s)))

    run_then : IsMapRun lay then
    run_then = run_since lay m then run before

    old_named : IsNamed lay then (old then s)
    old_named =
        let index = edit_index lay then s b.edit b.may.edit in
        let first : value then (info spot) ≡ seen then s 0 = sym ((lawful_row lay then b.row (lawful_since lay m (b.row ⊳ then) run.1.lawful b.within)).before ∙ ap (value then) b.begins.word) ∙ b.begins.found in
        let shows : value then (field then s) ≡ old then s = b.may_begin.shows (ap (λ i. value then (info (member then s i))) index ∙ first ∙ ap (seen then s) (sym index)) in
        by_field (member then s (field_index then s)) (side_of (plan then s)) (subst (λ i. IsNamed lay then (member then s i)) (sym index) (in_field_named spot (stood_in_field lay then spot run_then spot_before))) (held_at then (field then s) (old then s) shows)

    was_there : (n : ℕ) → IsInTree m n → WasInTree m n
    was_there n x = record { moment = m; within = ends_self m; tree = x.tree; is_tree = x.is_tree; has = x.has }

    module _ (j : ℕ) (place : j < count then s) (frozen : AreFrozen m s j) where
      abbrev Here : Type 0
      Here = IsInTree m (member then s j)

      by_first : j ≡ 0 → Here
      by_first e = subst (λ i. IsInTree m (member then s i)) (sym e) (fork_now lay m spot run spot_stood spot_open spot_fork)

      by_old : old then s ≡ member then s 1 → j ≡ 1 → Here
      by_old is e = subst (λ i. IsInTree m (member then s i)) (sym e) (subst (IsInTree m) is old_there)

      by_two : (i : ℕ) → member then s i ≡ 2 → j ≡ i → Here
      by_two i is e = subst (λ k. IsInTree m (member then s k)) (sym e) (subst (IsInTree m) (sym is) (two_now lay m run))

      -- the children of a fork that it has frozen are those that the fork had
      by_child : (i : ℕ) → 1 < count then s → 1 < j → old then s ≡ member then s 1 → is_leaf (value then) (member then s 1) ≡ false
          → (value then (info (member then s 1)) ≡ seen then s 1 → (k : Side) × (value then (child (member then s 1) k) ≡ member then s i)) → j ≡ i → Here
      by_child i one behind is fork shown e = subst (λ k. IsInTree m (member then s k)) (sym e) (subst (IsInTree m) (keeps.fields at.0 ∙ at.1) (child_now lay m (member then s 1) run (was_there (member then s 1) parent) (tree_not_final lay m parent.tree (member then s 1) run parent.is_tree parent.has) (fork_of 1 fork) at.0))
        where
          parent : IsInTree m (member then s 1)
          parent = subst (IsInTree m) is old_there

          named_one : IsNamed lay then (member then s 1)
          named_one = subst (IsNamed lay then) is old_named

          keeps : KeepsFields lay m s run.1.lawful real b unwon going.unfinished 1 one named_one m
          keeps = kept lay m s run.1.lawful real b unwon going.unfinished 1 one named_one m (ends_self m) b.within (subst (λ n. HasHeld m (info n) s) (word (Member 1) tt) (frozen 1 behind))

          at : (k : Side) × (value then (child (member then s 1) k) ≡ member then s i)
          at = shown keeps.saw

      -- one of two, three or four places
      of_two : (P : ℕ → Type 0) → count then s ≡ 2 → (j ≡ 0 → P j) → (j ≡ 1 → P j) → P j
      of_two P e zero_case one_case = go (ℕ_discrete j 0) (ℕ_discrete j 1)
        where
          go : Dec (j ≡ 0) → Dec (j ≡ 1) → P j
          go (yes q) x = zero_case q
          go (no d) (yes q) = one_case q
          go (no d) (no c) = absurd (omega (arith, place, e, d, c))

      of_three : (P : ℕ → Type 0) → count then s ≡ 3 → (j ≡ 0 → P j) → (j ≡ 1 → P j) → (j ≡ 2 → P j) → P j
      of_three P e zero_case one_case two_case = go (ℕ_discrete j 0) (ℕ_discrete j 1) (ℕ_discrete j 2)
        where
          go : Dec (j ≡ 0) → Dec (j ≡ 1) → Dec (j ≡ 2) → P j
          go (yes q) x y = zero_case q
          go (no d) (yes q) y = one_case q
          go (no d) (no c) (yes q) = two_case q
          go (no d) (no c) (no a) = absurd (omega (arith, place, e, d, c, a))

      of_four : (P : ℕ → Type 0) → count then s ≡ 4 → (j ≡ 0 → P j) → (j ≡ 1 → P j) → (j ≡ 2 → P j) → (j ≡ 3 → P j) → P j
      of_four P e zero_case one_case two_case three_case = go (ℕ_discrete j 0) (ℕ_discrete j 1) (ℕ_discrete j 2) (ℕ_discrete j 3)
        where
          go : Dec (j ≡ 0) → Dec (j ≡ 1) → Dec (j ≡ 2) → Dec (j ≡ 3) → P j
          go (yes q) x y z = zero_case q
          go (no d) (yes q) y z = one_case q
          go (no d) (no c) (yes q) z = two_case q
          go (no d) (no c) (no a) (yes q) = three_case q
          go (no d) (no c) (no a) (no g) = absurd (omega (arith, place, e, d, c, a, g))

      abbrev at_place : ℕ → Type 0
      at_place i = IsInTree m (member then s i)

      of_edit : IsEdit lay then s b.edit → Here
      of_edit (inl x) = of_two at_place (leaf_plan_says (plan then s) _ x.plan).3 by_first (by_old x.old)
      of_edit (inr (inl x)) = of_four at_place four by_first (by_old x.old) (λ e. by_child 2 one (omega (arith, e)) x.old x.edit.fork (λ q. (Left, (x.fields q).0)) e) (λ e. by_child 3 one (omega (arith, e)) x.old x.edit.fork (λ q. (Right, (x.fields q).1)) e)
        where
          four : count then s ≡ 4
          four = (join_plan_says (plan then s) _ x.plan).3

          one : 1 < count then s
          one = omega (arith, four)
      of_edit (inr (inr x)) = go x.1
        where
          above_count : (p : ℕ) (t : Side) → p ≡ above_plan t → count_of p ≡ 2
          above_count p Left q = rw q refl
          above_count p Right q = rw q refl

          go : IsTrieEdit then s b.edit → Here
          go (inl y) = of_two at_place (leaf_plan_says (plan then s) _ y.plan).3 by_first (by_old y.old)
          go (inr (inl y)) = of_three at_place (end_leaf_plan_says (plan then s) _ y.plan).3 by_first (by_old y.old) (by_two 2 y.guard)
          go (inr (inr (inl y))) =
              let four = (end_join_plan_says (plan then s) _ y.plan).3 in
              of_four at_place four by_first (by_old y.old) (λ e. by_child 2 (omega (arith, four)) (omega (arith, e)) y.old y.edit.fork (λ q. (opposite (toward (value then) (member then s 1) (edit_key b.edit)), (y.fields q).1)) e) (by_two 3 y.guard)
          go (inr (inr (inr y))) = of_two at_place (above_count (plan then s) _ y.plan) by_first (by_two 1 y.guard)

    -- so what it has reached is in the tree
    pub reached_there : (n : ℕ) → HasReached m s n → IsInTree m n
    reached_there n x = subst (IsInTree m) (sym (word (Member x.index) tt) ∙ x.is) (of_edit x.index (subst (λ p. x.index < count_of p) (word Plan tt) x.within) x.earlier b.may.edit)
