-- A node that its pass had taken as it rested, and that had never been in the tree by then, never is:
-- what the pass puts in since is fresh to a call that began since, and others know no such node.
use Rattle.std.proofs.Common.{◌≡◌, ◌≢◌, ◌<◌, ◌⊎◌, ℕ, inl, inr, ⊎_elim, sym, ◌∙◌, subst}
use Rattle.histories.specs.Common.{Layout, Side, Settled, Head, Child, Fill, Freeze, Row, node, scx, info, child, state, History, ◌⊳◌, Extends, value, member, new, IsNamed, IsInField, IsNamedScx, IsOwnScx, IsTakenNode, Lawful}
use Rattle.arena.proofs.Lemmas.{ends_self, ends_trans, fill_takes_node, held_at, held_since, value_at}
use Rattle.histories.proofs.Lemmas.{Facts, facts_before, lawful_since, named_scx_taken, one_scx_owner, some_is_real, state_since, update_flagged, update_in_progress}
use Rattle.ordered_map.specs.Runs.{IsMapRun}
use Rattle.prims.specs.Laws.Linked.{in_field_named}
use Rattle.touching.specs.Steps.{IsStepSince, PutsInFresh}
use Rattle.touching.proofs.Lemmas.{HasBegunEdit, IsMadeAt, IsPutIn, one_first, row_puts}
use Rattle.resting.specs.Dead.{IsUnborn}
use Rattle.resting.specs.Reach.{IsOutOfReach}
use Rattle.resting.specs.Records.{the_node}
use Rattle.resting.specs.Rests.{past_node, past_scx, IsRowSince, HasRestedAt}
use Rattle.resting.proofs.Never.{IsFilledField, filled_below, filler, named_then, never_since}
use Rattle.resting.proofs.Rows.{taken_node_since}
use Rattle.resting.proofs.Unborn.{never_out}

module _ (lay : Layout) (k : History) (o : ℕ) (rest : History) (n : ℕ) (is_pass : o < lay.passes) (run : IsMapRun lay k) (rested : HasRestedAt lay k o rest) (x : IsUnborn lay o rest n) where
  abbrev l : Lawful lay k
  l = run.1.lawful

  -- what a step of a call that began since puts in
  fresh : (r : Row) (g : History) → Extends k (r ⊳ g) → (s : IsStepSince lay o rest g r) → PutsInFresh s.call g r
  fresh r g within s = row_puts s.call g r (subst (λ v. Lawful v (r ⊳ g)) (sym s.layout) (lawful_since lay k (r ⊳ g) l within)) s.step

  -- no update that wins since puts it in
  module _ (r : Row) (g : History) (within : Extends k (r ⊳ g)) (since : Extends g rest) (y : IsPutIn lay g r n) (own_u : IsOwnScx lay o y.scx) where
    abbrev u : ℕ
    u = y.scx

    abbrev b : HasBegunEdit lay g y.scx
    b = y.begun

    abbrev begun : History
    begun = b.row ⊳ b.before

    abbrev put : ℕ
    put = new b.before u

    here : Extends k g
    here = ends_trans k (r ⊳ g) g within (inr (ends_self g))

    abbrev f : Facts lay g
    f = facts_before lay g r (lawful_since lay k (r ⊳ g) l within)

    real_scx : u ≢ 0
    real_scx = some_is_real f (update_flagged f y.wins).some

    own : b.row.pass.0 ≡ o
    own = one_scx_owner lay b.row.pass.0 o u b.may_begin.own own_u

    begun_here : Extends k begun
    begun_here = ends_trans k g begun here b.within

    before_here : Extends k b.before
    before_here = ends_trans k begun b.before begun_here (inr (ends_self b.before))

    -- what began before the rest was finished then
    not_before : Extends rest begun → ⊥
    not_before e = over (sym (state_since lay g rest u (lawful_since lay k g l here) since over) ∙ update_in_progress f y.wins)
      where
        named : IsNamedScx rest u
        named = (member b.before u 0, held_since rest begun (info (member b.before u 0)) u e (held_at begun (info (member b.before u 0)) u (value_at b.row b.before (info (member b.before u 0)) b.begins.word ∙ b.begins.stored)))

        over : value rest (state u) ≢ 0
        over = rested.over u own_u real_scx (named_scx_taken lay rest u (lawful_since lay k rest l rested.within) real_scx named)

    -- so a step of a call that began since has begun it
    called : IsRowSince lay o rest b.before b.row → IsStepSince lay o rest b.before b.row
    called (inl s) = s
    called (inr (past_node m free kind at)) = absurd (let z : Freeze ≡ Fill = sym b.begins.kind ∙ kind in cc)
    called (inr (past_scx s part its free at)) = absurd (let z : info (member b.before u 0) ≡ scx s part = sym b.begins.word ∙ at in cc)

    begun_since : IsStepSince lay o rest b.before b.row
    begun_since = go (one_first k begun rest begun_here rested.within)
      where
        go : Extends begun rest ⊎ Extends rest begun → IsStepSince lay o rest b.before b.row
        go (inl (inl e)) = absurd (not_before (subst (λ q. Extends q begun) (sym e) (ends_self begun)))
        go (inl (inr e)) = called (rested.rows b.row b.before begun_here e own)
        go (inr e) = absurd (not_before e)

    -- and its new node was not taken as the pass rested
    put_free : ¬ IsTakenNode rest put
    put_free t = let s = begun_since in (fresh b.row b.before begun_here s).begun u b.begins (taken_node_since s.call.start rest put s.since t)

    -- nor was what a fill has put below that
    module _ (side : Side) (unnamed : ¬ IsNamed lay b.before n) (q : IsFilledField b.before put side n) where
      fill_here : Extends k (q.row ⊳ q.before)
      fill_here = ends_trans k b.before (q.row ⊳ q.before) before_here q.within

      filled : IsTakenNode (q.row ⊳ q.before) put
      filled = fill_takes_node q.row q.before put (Child side) q.kind q.word

      before_lawful : Lawful lay b.before
      before_lawful = lawful_since lay k b.before l before_here

      by_row : IsRowSince lay o rest q.before q.row → ⊥
      by_row (inl s) = ⊎_elim
          (λ z. named_then lay b.before o n is_pass before_lawful x.own b.row.pass.0 put side b.may_begin.new_own unnamed q (subst (λ v. IsNamed v q.before n) s.layout (in_field_named n (subst (IsInField s.call.layout q.before) q.after z))))
          (λ free. free (subst (IsTakenNode s.call.start) (sym q.after) (taken_node_since s.call.start rest n s.since x.taken)))
          ((fresh q.row q.before fill_here s).field put side q.kind q.word)
      by_row (inr (past_node m free kind at)) = let z : child put side ≡ node m (Settled Head) = sym q.word ∙ at in cc
      by_row (inr (past_scx s part its free at)) = let z : child put side ≡ scx s part = sym q.word ∙ at in cc

      not_filled : ⊥
      not_filled = go (one_first k (q.row ⊳ q.before) rest fill_here rested.within)
        where
          go : Extends (q.row ⊳ q.before) rest ⊎ Extends rest (q.row ⊳ q.before) → ⊥
          go (inl (inl e)) = put_free (subst (λ m. IsTakenNode m put) (sym e) filled)
          go (inl (inr e)) = by_row (rested.rows q.row q.before fill_here e (filler lay b.before o n is_pass before_lawful x.own b.row.pass.0 put side b.may_begin.new_own unnamed q ∙ own))
          go (inr e) = put_free (taken_node_since rest (q.row ⊳ q.before) put e filled)

    not_made : IsMadeAt lay b.before u n → ⊥
    not_made (inl e) = put_free (subst (IsTakenNode rest) e x.taken)
    not_made (inr (side, at, unnamed)) = not_filled side unnamed (filled_below lay b.before o n is_pass (lawful_since lay k b.before l before_here) x.own b.row.pass.0 put side b.may_begin.new_own unnamed at)

    not_put_in : ⊥
    not_put_in = not_made y.made

  -- it stays unborn
  pub unborn_since : IsUnborn lay o k n
  unborn_since = record { own = x.own; taken = taken_node_since k rest n rested.within x.taken; never = never_since lay k rest o n is_pass run x.own x.never not_put_in k (ends_self k) rested.within }

-- so it is out of reach at once
pub unborn_out : (lay : Layout) (h : History) (last : ℕ → History) (p n : ℕ) → p < lay.passes → IsUnborn lay p (last p) n → IsOutOfReach lay h last (the_node n)
unborn_out lay h last p n is_pass x = never_out lay h last p n x.own x.taken (λ k e run rested. (unborn_since lay k p (last p) n is_pass run (rested p is_pass) x).never)
