-- To a node that is never in the tree or the trie no pass comes but its own. So it is with what an
-- aborted SCX-record was to put in.
use Rattle.std.proofs.Common.{◌≡◌, ◌≢◌, ◌<◌, ℕ, true, false, inl, inr, sym, ◌∙◌, ap, subst, arith}
use Rattle.histories.specs.Common.{Layout, New, Plan, ScxWord, Kind, Settled, Head, node, scx, History, ◌⊳◌, Extends, value, state, info, child, count_of, new, IsNamed, IsNamedScx, IsOwnNode, IsTakenNode, MayFill, Obeys, Lawful}
use Rattle.arena.proofs.Lemmas.{ends_self, ends_trans, held_since}
use Rattle.histories.proofs.Lemmas.{IsScxFill, aborted_never_won, lawful_row, one_node_owner, state_since}
use Rattle.ordered_map.specs.Paths.{WasInTree}
use Rattle.ordered_map.specs.Runs.{IsMapRun}
use Rattle.ordered_map.specs.TreeWords.{is_leaf}
use Rattle.ordered_map.proofs.MapLemmas.{run_since}
use Rattle.touching.specs.Touches.{TouchesNode, was_so, covered, own_node}
use Rattle.touching.proofs.Lemmas.{HasBegunEdit, IsMadeAt, IsPending, begun_edit, below_named, is_was, leaf_then, new_facts, new_named, reached_stood, was_since, word_then}
use Rattle.resting.specs.Dead.{IsOfAborted, IsToBePutIn}
use Rattle.resting.specs.Reach.{IsOutOfReach}
use Rattle.resting.specs.Records.{record_of, the_node, the_scx}
use Rattle.resting.specs.Rests.{HaveRestedAt, past_node, past_scx}
use Rattle.resting.proofs.Rows.{taken_node_since}
use Rattle.resting.proofs.Touched.{InTree, IsMissed, IsNotPassed, missed_out, node_not_passed, node_touched, number_of}

-- The SCX-record s, which had begun, is aborted at t.
module _ (lay : Layout) (t : History) (s n : ℕ) (run : IsMapRun lay t) (its_real : s ≢ 0) (named : IsNamedScx t s) (aborted : value t (state s) ≡ 2) (put_in : IsToBePutIn t s n) where
  abbrev l : Lawful lay t
  l = run.1.lawful

  abbrev b : HasBegunEdit lay t s
  b = begun_edit lay t s l run.1.shaped its_real named

  pending : (k : History) → Lawful lay k → Extends k t → IsPending k s
  pending k lk e = record {
    real = its_real;
    named = (named.0, held_since k t (info named.0) s e named.1);
    unwon = aborted_never_won lay k s lk (state_since lay k t s lk e (λ z. omega (arith, aborted, z)) ∙ aborted);
  }

  word : (a : ScxWord) → IsScxFill a → value t (scx s a) ≡ value b.before (scx s a)
  word a i = word_then lay t s l its_real b t (ends_self t) b.within a i

  -- what it was to put in was so as it began
  made : IsMadeAt lay b.before s n
  made = go put_in
    where
      go : IsToBePutIn t s n → IsMadeAt lay b.before s n
      go (inl e) = inl (e ∙ word New tt)
      go (inr (two, fork, side, e, leaf)) = inr (side, there, fresh)
        where
          new_fork : is_leaf (value b.before) (new b.before s) ≡ false
          new_fork = sym (leaf_then lay t s l its_real b t (ends_self t) b.within (new b.before s) (new_named lay t s l its_real b)) ∙ subst (λ v. is_leaf (value t) v ≡ false) (word New tt) fork

          there : value b.before (child (new b.before s) side) ≡ n
          there = sym ((new_facts lay t run).keeps s (pending t l (ends_self t)) b side) ∙ ap (λ v. value t (child v side)) (sym (word New tt)) ∙ e

          leaf_before : is_leaf (value b.before) (value b.before (child (new b.before s) side)) ≡ true
          leaf_before = sym (leaf_then lay t s l its_real b t (ends_self t) b.within (value b.before (child (new b.before s) side)) (below_named lay t s l its_real b side)) ∙ ap (is_leaf (value t)) there ∙ leaf

          fresh : ¬ IsNamed lay b.before n
          fresh = subst (λ v. ¬ IsNamed lay b.before v) there (b.may.fresh (ap count_of (sym (word Plan tt)) ∙ two) new_fork side leaf_before)

  -- it is never in the tree
  pub never_there : (k : History) → IsMapRun lay k → Extends k t → ¬ WasInTree k n
  never_there k run_k e = (new_facts lay k run_k).unborn s n (pending k run_k.1.lawful e)
      record { row = b.row; before = b.before; within = ends_trans k t (b.row ⊳ b.before) e b.within; begins = b.begins; may_begin = b.may_begin; edit = b.edit; may = b.may } made

-- To a node of the pass p that is never in the tree no other pass comes, nor does p in a later call
-- than that in which it took it.
pub never_out : (lay : Layout) (h : History) (last : ℕ → History) (p n : ℕ) → IsOwnNode lay p n → IsTakenNode (last p) n
    → ((k : History) → Extends k h → IsMapRun lay k → HaveRestedAt lay k last → ¬ WasInTree k n)
    → IsOutOfReach lay h last (the_node n)
never_out lay h last p n its_own taken never = missed_out lay h last (the_node n) (λ k g o e run rested within i. (missed k g o e run rested within i, not_passed k g o e run))
  where
    missed : (k g : History) (o : ℕ) → Extends k h → IsMapRun lay k → HaveRestedAt lay k last → Extends k g → o < lay.passes → IsMissed lay o g (last o) (the_node n)
    missed k g o e run rested within i c r lay_is pass_is begun touches is = go (node_touched InTree c g r.word n is touches)
      where
        stood : (m : History) → Extends g m → ¬ WasInTree m n
        stood m a x = never k e run rested (was_since k m n (ends_trans k g m within a) x)

        go : TouchesNode InTree c g n → ⊥
        go (was_so x) = stood x.moment x.within (is_was x.moment n x.was)
        go (covered s x) = stood x.moment x.within (reached_stood lay x.moment s n (run_since lay k x.moment run (ends_trans k g x.moment within x.within)) x.was.0 x.was.1)
        go (own_node own free) =
            let mine : IsOwnNode lay o n = subst (λ q. IsOwnNode lay q n) pass_is (subst (λ v. IsOwnNode v c.pass n) lay_is own) in
            let same : o ≡ p = one_node_owner lay o p n mine its_own in
            free (taken_node_since c.start (last o) n begun (subst (λ q. IsTakenNode (last q) n) (sym same) taken))

    not_passed : (k g : History) (o : ℕ) → Extends k h → IsMapRun lay k → IsNotPassed lay o g (last o) (the_node n)
    not_passed k g o e run r l own (past_node m free kind at) is = node_not_passed lay o g (last o) n (subst (λ q. IsTakenNode (last q) n) (sym same) taken) r l own (past_node m free kind at) is
      where
        any : MayFill lay g r.pass.0 r.word r.after
        any = subst (λ (a : Kind). Obeys lay g r a) kind (lawful_row lay g r l).obeys

        may : MayFill lay g r.pass.0 (node m (Settled Head)) r.after
        may = subst (λ w. MayFill lay g r.pass.0 w r.after) at any

        same : o ≡ p
        same = one_node_owner lay o p n (subst (λ v. IsOwnNode lay v n) own (subst (λ v. IsOwnNode lay r.pass.0 v) (ap number_of (sym (ap record_of at) ∙ is)) may.own)) its_own
    not_passed k g o e run r l own (past_scx s part its free at) is = absurd (let d : the_scx s ≡ the_node n = sym (ap record_of at) ∙ is in cc)

-- so it is with what an aborted SCX-record was to put in
pub aborted_out : (lay : Layout) (h : History) (last : ℕ → History) (t : History) (p n : ℕ) → IsMapRun lay h → Extends h t → IsOfAborted lay p t n → Extends (last p) t → IsOutOfReach lay h last (the_node n)
aborted_out lay h last t p n run_h within dead rested = never_out lay h last p n dead.own (taken_node_since (last p) t n rested dead.taken)
    (λ k e run _. never_there lay t dead.scx n (run_since lay h t run_h within) dead.real dead.begun dead.aborted dead.put_in k run (ends_trans k h t e within))
