-- A node that an entry finalizes was in the tree, and is there no more.
use Rattle.std.proofs.Common.{◌≡◌, ◌≢◌, ℕ, ◌/◌, ◌%◌, true, false, ◌⊎◌, inl, inr, ⊎_elim, refl, sym, ◌∙◌, ap, arith, eqb, subst}
use native.Mathlib.Decide.{ℕ_discrete}
use Rattle.histories.specs.Common.{Side, Settled, Child, Info, Head, Plan, New, Layout, Row, Freeze, Update, node, scx, info, child, History, Opening, Opened, ◌⊳◌, value, HasHeld}
use Rattle.histories.specs.Common.{count, count_of, field_index, member, new, side_of, plan, IsNamed, by_field, by_scx, IsNamedScx, MayBegin, HasWon, log, has, is_final, finalized_from}
use Rattle.arena.proofs.Lemmas.{value_apart, held_at, held_back, held_since, held_start, opening_info, node_apart, node_word_apart, or_split}
use Rattle.histories.proofs.Lemmas.{Effect, Facts, FreezeWins, Kept, Logs, UpdateWins, effect, freeze, freeze_held, freeze_keeps_field, freeze_keeps_scx, is_removed_of, log_same, log_wins, logs, map_nodes, node_stays, quiet, same, shaped_begin, some_is_real, update, update_flagged, update_held, update_is_first, update_keeps_other, update_keeps_scx, update_won, wins, won_more}
use Rattle.ordered_map.specs.OrderedMap.{MapEdit}
use Rattle.ordered_map.proofs.Pending.{GivenAllows, begun_edit, IsMadeBy, tree_field}
use Rattle.ordered_map.specs.Spelled.{IsTree}
use Rattle.ordered_map.specs.TreeShape.{MayEdit}
use Rattle.ordered_map.specs.TreeWords.{Tree, Has, is_leaf}
use Rattle.ordered_map.proofs.TreeFacts.{TreeFacts}
use Rattle.ordered_map.proofs.Edited.{result, tree_now, removed_cut, born_made, spot_in}
use Rattle.ordered_map.proofs.Grown.{IsGrown, first_begins, grown_tail}
use Rattle.ordered_map.proofs.Stood.{facts_then, tree_then, tree_stays, one_tree, was_more, was_split, was_now, was_named, was_back, in_updated}
use Rattle.ordered_map.specs.Paths.{WasInTree}

-- it has begun, and has not won
pub record IsPending (h : History) (s : ℕ) : Type 0 where
  pub real : s ≢ 0
  pub named : IsNamedScx h s
  pub unwon : ¬ HasWon h s

pub record NodeFacts (lay : Layout) (h : History) : Type 0 where
  pub unborn : (s n : ℕ) → IsPending h s → IsMadeBy h s n → ¬ WasInTree h n
  pub once : (s u n : ℕ) → IsPending h s → IsPending h u → s ≢ u → IsMadeBy h s n → IsMadeBy h u n → ⊥
  pub gone : (n : ℕ) → is_final (log lay h) n ≡ true → WasInTree h n × ((t : Tree) → IsTree (value h) t → ¬ Has t n)

-- a node that was in the tree is the root or was in a field
was_field : (h : History) (n : ℕ) → WasInTree h n → (n ≡ 0) ⊎ ((m : ℕ) × (side : Side) × HasHeld h (child m side) n)
was_field h n x = ⊎_elim
    (λ e. inl (e ∙ x.is_tree.is))
    (λ y. inr (y.0, y.1, held_since h x.moment (child y.0 y.1) n x.within (held_at x.moment (child y.0 y.1) n y.2)))
    (tree_field x.moment x.tree _ _ n x.is_tree.shows x.has)

-- One row more
module _ (calls : ℕ → MapEdit) (lay : Layout) (h : History) (r : Row) (g : IsGrown calls lay (r ⊳ h)) (x : NodeFacts lay h) where
  abbrev f : Facts lay h
  f = facts_then calls lay h r g

  before : IsGrown calls lay h
  before = grown_tail calls lay h r g

  abbrev t : TreeFacts calls lay h
  t = tree_then calls lay h r g

  -- a row that leaves the fields of named nodes
  module _ (fields : (n : ℕ) (side : Side) → IsNamed lay h n → value (r ⊳ h) (child n side) ≡ value h (child n side)) where
    gone_stays : log lay (r ⊳ h) ≡ log lay h → (n : ℕ) → is_final (log lay (r ⊳ h)) n ≡ true → WasInTree (r ⊳ h) n × ((u : Tree) → IsTree (value (r ⊳ h)) u → ¬ Has u n)
    gone_stays e n q =
        let y : WasInTree h n × ((u : Tree) → IsTree (value h) u → ¬ Has u n) = x.gone n (subst (λ es. is_final es n ≡ true) e q) in
        (was_more h r n y.0, λ u i p. y.1 t.tree t.is_tree (subst (λ v. Has v n) (one_tree (r ⊳ h) u t.tree i (tree_stays calls lay h r g fields)) p))

  -- what a pending SCX-record makes is the same
  made_back : (s n : ℕ) → IsNamedScx h s → new (r ⊳ h) s ≡ new h s → plan (r ⊳ h) s ≡ plan h s → (is_leaf (value h) (new h s) ≡ false → (side : Side) → value (r ⊳ h) (child (new h s) side) ≡ value h (child (new h s) side)) → IsMadeBy (r ⊳ h) s n → IsMadeBy h s n
  made_back s n p same_new same_plan fields (inl e) = inl (e ∙ same_new)
  made_back s n p same_new same_plan fields (inr y) =
      let named : IsNamed lay h (new h s) = by_scx s New p tt (held_at h (scx s New) (new h s) refl) in
      let head : value (r ⊳ h) (node (new h s) (Settled Head)) ≡ value h (node (new h s) (Settled Head)) = node_stays lay h r (new h s) (Settled Head) g.lawful tt named in
      let a : is_leaf (value (r ⊳ h)) (new h s) ≡ false = subst (λ c. is_leaf (value (r ⊳ h)) c ≡ false) same_new y.0 in
      let b : is_leaf (value h) (new h s) ≡ false = rw head at a in
      let is : value h (child (new h s) y.2.0) ≡ n = sym (fields b y.2.0) ∙ subst (λ c. value (r ⊳ h) (child c y.2.0) ≡ n) same_new y.2.1 in
      let below : value (r ⊳ h) (node n (Settled Head)) ≡ value h (node n (Settled Head)) = node_stays lay h r n (Settled Head) g.lawful tt (by_field (new h s) y.2.0 named (held_at h (child (new h s) y.2.0) n is)) in
      inr (b, ap count_of (sym same_plan) ∙ y.1, (y.2.0, is), ap (λ v. eqb (v / 4 % 2) 1) (sym below) ∙ y.3)

  -- quiet rows
  module _ (k : Kept lay h r) where
    quiet_fields : (n : ℕ) (side : Side) → IsNamed lay h n → value (r ⊳ h) (child n side) ≡ value h (child n side)
    quiet_fields n side p = k.node n (Child side) tt p

    quiet_pending : (s : ℕ) → IsPending (r ⊳ h) s → IsPending h s
    quiet_pending s p = record { real = p.real; named = (p.named.0, held_back r h _ s (k.info p.named.0) p.named.1); unwon = λ w. p.unwon (won_more r h s w) }

    quiet_made : (s n : ℕ) → IsPending h s → IsMadeBy (r ⊳ h) s n → IsMadeBy h s n
    quiet_made s n p = made_back s n p.named (k.settled s p.real p.named New tt) (k.settled s p.real p.named Plan tt) (λ _ side. quiet_fields (new h s) side (by_scx s New p.named tt (held_at h (scx s New) (new h s) refl)))

    quiet_log : log lay (r ⊳ h) ≡ log lay h
    quiet_log = go (logs lay h r g.lawful)
      where
        go : Logs lay h r → log lay (r ⊳ h) ≡ log lay h
        go (same e _) = e
        go (wins u w e) = absurd (update_is_first f w (k.won u (update_won f w)))

    quiet_facts : NodeFacts lay (r ⊳ h)
    quiet_facts = record {
      unborn = λ s n p m w. let q : IsPending h s = quiet_pending s p in x.unborn s n q (quiet_made s n q m) (was_back calls lay h r g quiet_fields n w);
      once = λ s u n p q d m o. let a : IsPending h s = quiet_pending s p in let b : IsPending h u = quiet_pending u q in x.once s u n a b d (quiet_made s n a m) (quiet_made u n b o);
      gone = gone_stays quiet_fields quiet_log;
    }

  -- a freezing exchange that wins
  module _ (u j : ℕ) (w : FreezeWins lay h r u j) where
    freeze_fields : (n : ℕ) (side : Side) → IsNamed lay h n → value (r ⊳ h) (child n side) ≡ value h (child n side)
    freeze_fields n side p = freeze_keeps_field f w n side

    may_begin : j ≡ 0 → MayBegin lay h r.pass.0 u
    may_begin e = (w.freeze.may_win w.found).1 e

    may_edit : j ≡ 0 → MayEdit lay h u (calls u)
    may_edit e = let b = first_begins lay h r u j f w e in begun_edit (MayEdit lay h u (calls u)) lay h r u g.lawful b (shaped_begin (GivenAllows calls) lay h r u g.shaped b)

    -- it begins now, or was pending before
    now_or_before : (s : ℕ) → IsPending (r ⊳ h) s → ((s ≡ u) × (j ≡ 0)) ⊎ IsPending h s
    now_or_before s p = go (freeze_held f w p.named.0 s p.named.1) (ℕ_discrete j 0)
      where
        old : IsNamedScx h s → IsPending h s
        old q = record { real = p.real; named = q; unwon = λ y. p.unwon (won_more r h s y) }

        go : ((s ≡ u) × (member h u j ≡ p.named.0)) ⊎ HasHeld h (info p.named.0) s → Dec (j ≡ 0) → ((s ≡ u) × (j ≡ 0)) ⊎ IsPending h s
        go (inr q) _ = inr (old (p.named.0, q))
        go (inl q) (yes e) = inl (q.0, e)
        go (inl q) (no e) = inr (old (member h u 0, rw q.0 (w.freeze.earlier 0 (omega arith))))

    freeze_made : (s n : ℕ) → IsPending h s → IsMadeBy (r ⊳ h) s n → IsMadeBy h s n
    freeze_made s n p = made_back s n p.named (freeze_keeps_scx f w s New) (freeze_keeps_scx f w s Plan) (λ _ side. freeze_keeps_field f w (new h s) side)

    -- what it begins with: its new node, which no field has named, or a leaf below it that nothing
    -- names
    begins_made : (n : ℕ) → j ≡ 0 → IsMadeBy (r ⊳ h) u n → (n ≡ new h u) ⊎ ¬ IsNamed lay h n
    begins_made n e (inl m) = inl (m ∙ freeze_keeps_scx f w u New)
    begins_made n e (inr m) =
        let same_new : new (r ⊳ h) u ≡ new h u = freeze_keeps_scx f w u New in
        let a : is_leaf (value (r ⊳ h)) (new h u) ≡ false = subst (λ c. is_leaf (value (r ⊳ h)) c ≡ false) same_new m.0 in
        let head : value (r ⊳ h) (node (new h u) (Settled Head)) ≡ value h (node (new h u) (Settled Head)) = value_apart r h (info (member h u j)) (node (new h u) (Settled Head)) w.freeze.word (node_word_apart (member h u j) (new h u) Info (Settled Head) refl) in
        let b : is_leaf (value h) (new h u) ≡ false = rw head at a in
        let two : count h u ≡ 2 = ap count_of (sym (freeze_keeps_scx f w u Plan)) ∙ m.1 in
        let c : value h (child (new h u) m.2.0) ≡ n = sym (freeze_keeps_field f w (new h u) m.2.0) ∙ subst (λ z. value (r ⊳ h) (child z m.2.0) ≡ n) same_new m.2.1 in
        let leaf_head : value (r ⊳ h) (node n (Settled Head)) ≡ value h (node n (Settled Head)) = value_apart r h (info (member h u j)) (node n (Settled Head)) w.freeze.word (node_word_apart (member h u j) n Info (Settled Head) refl) in
        let leaf : is_leaf (value h) n ≡ true = ap (λ v. eqb (v / 4 % 2) 1) (sym leaf_head) ∙ m.3 in
        inr (λ p. (may_edit e).fresh two b m.2.0 (subst (λ i. is_leaf (value h) i ≡ true) (sym c) leaf) (subst (IsNamed lay h) (sym c) p))

    begins_unborn : (n : ℕ) → j ≡ 0 → (n ≡ new h u) ⊎ ¬ IsNamed lay h n → ¬ WasInTree h n
    begins_unborn n e (inr d) y = d (was_named lay h n g.mode before.lawful y)
    begins_unborn n e (inl m) y = ⊎_elim
        (λ z. let a : new h u ≡ 0 = sym m ∙ z in let b = (may_begin e).new_own.from in let c = map_nodes lay g.mode in omega (arith, a, b, c))
        (λ z. (may_begin e).new_in_no_field z.0 z.1 (subst (HasHeld h (child z.0 z.1)) m z.2))
        (was_field h n y)

    begins_once_only : (s n : ℕ) → j ≡ 0 → s ≢ u → IsPending h s → (n ≡ new h u) ⊎ ¬ IsNamed lay h n → IsMadeBy h s n → ⊥
    begins_once_only s n e d p (inl m) (inl o) = (may_begin e).new_in_no_other s d (held_at h (scx s New) (new h u) (sym o ∙ m))
    begins_once_only s n e d p (inl m) (inr o) = (may_begin e).new_in_no_field (new h s) o.2.0 (held_at h (child (new h s) o.2.0) (new h u) (o.2.1 ∙ m))
    begins_once_only s n e d p (inr m) (inl o) = m (by_scx s New p.named tt (held_at h (scx s New) n (sym o)))
    begins_once_only s n e d p (inr m) (inr o) = m (by_field (new h s) o.2.0 (by_scx s New p.named tt (held_at h (scx s New) (new h s) refl)) (held_at h (child (new h s) o.2.0) n o.2.1))

    freeze_unborn : (s n : ℕ) → IsPending (r ⊳ h) s → IsMadeBy (r ⊳ h) s n → ¬ WasInTree (r ⊳ h) n
    freeze_unborn s n p m y = go (now_or_before s p)
      where
        go : ((s ≡ u) × (j ≡ 0)) ⊎ IsPending h s → ⊥
        go (inl q) = begins_unborn n q.1 (begins_made n q.1 (subst (λ v. IsMadeBy (r ⊳ h) v n) q.0 m)) (was_back calls lay h r g freeze_fields n y)
        go (inr q) = x.unborn s n q (freeze_made s n q m) (was_back calls lay h r g freeze_fields n y)

    freeze_once : (s v n : ℕ) → IsPending (r ⊳ h) s → IsPending (r ⊳ h) v → s ≢ v → IsMadeBy (r ⊳ h) s n → IsMadeBy (r ⊳ h) v n → ⊥
    freeze_once s v n p q d m o = go (now_or_before s p) (now_or_before v q)
      where
        go : ((s ≡ u) × (j ≡ 0)) ⊎ IsPending h s → ((v ≡ u) × (j ≡ 0)) ⊎ IsPending h v → ⊥
        go (inl a) (inl b) = d (a.0 ∙ sym b.0)
        go (inl a) (inr b) = begins_once_only v n a.1 (λ e. d (a.0 ∙ sym e)) b (begins_made n a.1 (subst (λ y. IsMadeBy (r ⊳ h) y n) a.0 m)) (freeze_made v n b o)
        go (inr a) (inl b) = begins_once_only s n b.1 (λ e. d (e ∙ sym b.0)) a (begins_made n b.1 (subst (λ y. IsMadeBy (r ⊳ h) y n) b.0 o)) (freeze_made s n a m)
        go (inr a) (inr b) = x.once s v n a b d (freeze_made s n a m) (freeze_made v n b o)

    freeze_facts : NodeFacts lay (r ⊳ h)
    freeze_facts = record {
      unborn = freeze_unborn;
      once = freeze_once;
      gone = gone_stays freeze_fields (log_same lay h r (λ c. let e : Freeze ≡ Update = sym w.kind ∙ c in cc));
    }

  -- an update that wins
  module _ (u : ℕ) (w : UpdateWins h r u) where
    now_tree : IsTree (value (r ⊳ h)) (result calls lay h r u f w g.mode g.lawful t).tree
    now_tree = tree_now calls lay h r u f w g.mode g.lawful t

    u_pending : IsPending h u
    u_pending = record { real = some_is_real f (update_flagged f w).some; named = (member h u 0, (update_flagged f w).frozen 0 (update_flagged f w).some); unwon = update_is_first f w }

    update_pending : (s : ℕ) → IsPending (r ⊳ h) s → (s ≢ u) × IsPending h s
    update_pending s p = (
      (λ e. p.unwon (subst (HasWon (r ⊳ h)) (sym e) (update_won f w))),
      record { real = p.real; named = (p.named.0, update_held f w p.named.0 s p.named.1); unwon = λ y. p.unwon (won_more r h s y) },
    )

    spot_was : WasInTree h (member h u (field_index h u))
    spot_was = was_now h t.tree (member h u (field_index h u)) t.is_tree (spot_in calls lay h r u f w g.mode g.lawful t)

    update_made : (s n : ℕ) → IsPending h s → IsMadeBy (r ⊳ h) s n → IsMadeBy h s n
    update_made s n p = made_back s n p.named (update_keeps_scx f w s New) (update_keeps_scx f w s Plan)
        (λ _ side. update_keeps_other f w (child (new h s) side) (node_apart (member h u (field_index h u)) (new h s) (Child (side_of (plan h u))) (Child side) (λ e. x.unborn s (new h s) p (inl refl) (subst (WasInTree h) e spot_was))))

    -- what is in the tree now was there before, or u has made it
    in_now : (tree : Tree) (n : ℕ) → IsTree (value (r ⊳ h)) tree → Has tree n → Has t.tree n ⊎ IsMadeBy h u n
    in_now tree n i p = ⊎_elim inl (λ b. inr (born_made calls lay h r u f w g.mode g.lawful t n b)) (in_updated calls lay h r g u w tree n i p)

    update_unborn : (s n : ℕ) → IsPending (r ⊳ h) s → IsMadeBy (r ⊳ h) s n → ¬ WasInTree (r ⊳ h) n
    update_unborn s n p m y =
        let q : (s ≢ u) × IsPending h s = update_pending s p in
        let o : IsMadeBy h s n = update_made s n q.1 m in
        ⊎_elim (x.unborn s n q.1 o) (λ z. ⊎_elim (λ a. x.unborn s n q.1 o (was_now h t.tree n t.is_tree a)) (λ a. x.once s u n q.1 u_pending q.0 o a) (in_now z.0 n z.1 z.2)) (was_split h r n y)

    update_gone : (n : ℕ) → is_final (log lay (r ⊳ h)) n ≡ true → WasInTree (r ⊳ h) n × ((tree : Tree) → IsTree (value (r ⊳ h)) tree → ¬ Has tree n)
    update_gone n e = ⊎_elim removed earlier (or_split (has (finalized_from h u 0 (count h u)) n) (is_final (log lay h) n) (subst (λ es. is_final es n ≡ true) (log_wins f w) e))
      where
        removed : has (finalized_from h u 0 (count h u)) n ≡ true → WasInTree (r ⊳ h) n × ((tree : Tree) → IsTree (value (r ⊳ h)) tree → ¬ Has tree n)
        removed q =
            let o : Has t.tree n × ¬ Has (result calls lay h r u f w g.mode g.lawful t).tree n = (result calls lay h r u f w g.mode g.lawful t).out n (removed_cut calls lay h r u f w g.mode g.lawful t n (is_removed_of h u n q)) in
            (was_more h r n (was_now h t.tree n t.is_tree o.0), λ tree i p. o.1 (subst (λ v. Has v n) (one_tree (r ⊳ h) tree (result calls lay h r u f w g.mode g.lawful t).tree i now_tree) p))

        earlier : is_final (log lay h) n ≡ true → WasInTree (r ⊳ h) n × ((tree : Tree) → IsTree (value (r ⊳ h)) tree → ¬ Has tree n)
        earlier q =
            let y : WasInTree h n × ((tree : Tree) → IsTree (value h) tree → ¬ Has tree n) = x.gone n q in
            (was_more h r n y.0, λ tree i p. ⊎_elim (y.1 t.tree t.is_tree) (λ m. x.unborn u n u_pending m y.0) (in_now tree n i p))

    update_facts : NodeFacts lay (r ⊳ h)
    update_facts = record {
      unborn = update_unborn;
      once = λ s v n p q d m o. let a : (s ≢ u) × IsPending h s = update_pending s p in let b : (v ≢ u) × IsPending h v = update_pending v q in x.once s v n a.1 b.1 d (update_made s n a.1 m) (update_made v n b.1 o);
      gone = update_gone;
    }

  step_facts : Effect lay h r → NodeFacts lay (r ⊳ h)
  step_facts (quiet k) = quiet_facts k
  step_facts (freeze u j w) = freeze_facts u j w
  step_facts (update u w) = update_facts u w

no_final : (lay : Layout) (o : Opening) (n : ℕ) → is_final (log lay (Opened o)) n ≡ false
unfolding log
no_final lay o n = refl

pub node_facts : (calls : ℕ → MapEdit) (lay : Layout) (h : History) → IsGrown calls lay h → NodeFacts lay h
node_facts calls lay (Opened o) g = record {
  unborn = λ s n p m. absurd (none s p);
  once = λ s u n p q d m made. absurd (none s p);
  gone = λ n e. absurd (let z : true ≡ false = sym e ∙ no_final lay o n in cc);
}
  where
    none : (s : ℕ) → IsPending (Opened o) s → ⊥
    none s p = p.real (sym (held_start o (info p.named.0) s p.named.1) ∙ opening_info o p.named.0)
node_facts calls lay (r ⊳ h) g = step_facts calls lay h r g (node_facts calls lay h (grown_tail calls lay h r g)) (effect lay h r g.lawful)

-- a node of the tree is not final
pub grown_not_final : (calls : ℕ → MapEdit) (lay : Layout) (h : History) (t : Tree) (n : ℕ) → IsGrown calls lay h → IsTree (value h) t → Has t n → is_final (log lay h) n ≡ true → ⊥
grown_not_final calls lay h t n g i p e = ((node_facts calls lay h g).gone n e).1 t i p
