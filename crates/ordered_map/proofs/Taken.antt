-- The log is no longer than the nodes that were taken are many: so no walk is longer than they
-- allow.
use Rattle.std.proofs.Common.{◌≡◌, ◌≢◌, ℕ, ◌+◌, ◌<◌, ◌≤◌, zero, suc, Bool, true, false, cond, eqb, eq-eqb, ne_eqb, length, ◌⊎◌, inl, inr, ⊎_elim, List, [], ◌∷◌, refl, sym, ◌∙◌, ap, arith, subst}
use native.Mathlib.Decide.{ℕ_discrete}
use Rattle.histories.specs.Common.{Tree as TreeMode, NodeWord, Settled, Child, Info, Marked, Head, AllFrozen, New, Word, Node, Scx, Layout, Row, Kind, Fill, opening_nodes, nodes_at_start, node, scx}
use Rattle.histories.specs.Common.{info, marked, state, History, Opening, Opened, opening_of, ◌⊳◌, value, member, new, field, field_index, side_of, plan, IsTakenNode, HasWon, Lawful, Entry, log, has, taken_nodes}
use Rattle.arena.proofs.Lemmas.{value_quiet, value_apart, node_apart, node_word_apart, taken_node_more, fill_takes_node}
use Rattle.arena.specs.Openings.{first_planted}
use Rattle.histories.proofs.Lemmas.{Change, Facts, Logs, UpdateWins, aborts, change, commits, facts_before, fills_node, fills_scx, freezes, lawful_row, lawful_tail, logs, marks, nothing, same, scx_stays, sets_frozen, some_is_real, some_open, start_nodes, update_about, update_flagged, update_is_first, update_won, updates, value_start, wins, won_more, won_named, won_real}
use Rattle.arena.specs.TakenNodes.{with_fill}
use Rattle.ordered_map.specs.OrderedMap.{MapEdit}
use Rattle.ordered_map.specs.Paths.{WasInTree}
use Rattle.ordered_map.specs.TreeWords.{level}
use Rattle.ordered_map.proofs.TreeFacts.{TreeFacts}
use Rattle.ordered_map.proofs.Edited.{result, tree_now, new_in}
use Rattle.ordered_map.proofs.Grown.{IsGrown, tree_facts, grown_tail}
use Rattle.ordered_map.proofs.Inside.{has_head}
use Rattle.ordered_map.proofs.Levels.{deep, grown_level}

-- Lists

abbrev pub In : ℕ → List ℕ → Type 0
In k [] = ⊥
In k (x ∷ xs) = (x ≡ k) ⊎ In k xs

abbrev Distinct : List ℕ → Type 0
Distinct [] = Unit {0}
Distinct (x ∷ xs) = ¬ In x xs × Distinct xs

without : ℕ → List ℕ → List ℕ
without k [] = []
without k (y ∷ ys) = cond (eqb y k) ys (y ∷ without k ys)

without_shorter : (k : ℕ) (ys : List ℕ) → In k ys → suc (length (without k ys)) ≡ length ys
unfolding without
without_shorter k [] p = absurd p
without_shorter k (y ∷ ys) p = go (eqb y k) refl p (without_shorter k ys)
  where
    go : (b : Bool) → eqb y k ≡ b → (y ≡ k) ⊎ In k ys → (In k ys → suc (length (without k ys)) ≡ length ys) → suc (length (cond b ys (y ∷ without k ys))) ≡ suc (length ys)
    go true e p more = refl
    go false e (inl q) more = absurd (let x : true ≡ false = sym (rw q (let z : eqb k k ≡ true = eq-eqb k k refl in z)) ∙ e in cc)
    go false e (inr q) more = ap suc (more q)

without_has : (k j : ℕ) (ys : List ℕ) → In j ys → j ≢ k → In j (without k ys)
unfolding without
without_has k j [] p d = absurd p
without_has k j (y ∷ ys) p d = go (ℕ_discrete y k) p (λ q. without_has k j ys q d)
  where
    go : Dec (y ≡ k) → (y ≡ j) ⊎ In j ys → (In j ys → In j (without k ys)) → In j (cond (eqb y k) ys (y ∷ without k ys))
    go (yes e) (inl q) more = absurd (d (sym q ∙ e))
    go (yes e) (inr q) more = rw (eq-eqb y k e) q
    go (no e) (inl q) more = rw (ne_eqb y k e) (inl q)
    go (no e) (inr q) more = rw (ne_eqb y k e) (inr (more q))

-- different numbers, all of a list, are no more than it has
fits : (xs ys : List ℕ) → Distinct xs → ((k : ℕ) → In k xs → In k ys) → length xs ≤ length ys
fits [] ys d f = omega arith
fits (x ∷ xs) ys d f =
    let a : length xs ≤ length (without x ys) = fits xs (without x ys) d.1 (λ k p. without_has x k ys (f k (inr p)) (λ e. d.0 (rw e at p))) in
    let b : suc (length (without x ys)) ≡ length ys = without_shorter x ys (f x (inl refl)) in
    omega (arith, a, b)

has_in : (ns : List ℕ) (n : ℕ) → has ns n ≡ true → In n ns
has_in [] n e = absurd (let x : false ≡ true = e in cc)
has_in (m ∷ ms) n e = go (ℕ_discrete m n) (has_in ms n)
  where
    go : Dec (m ≡ n) → (has ms n ≡ true → In n ms) → (m ≡ n) ⊎ In n ms
    go (yes q) more = inl q
    go (no d) more = inr (more (rw (ne_eqb m n d) at e))

-- Taken nodes

-- a row takes none back
in_more : (r : Row) (h : History) (n : ℕ) → In n (taken_nodes h) → In n (taken_nodes (r ⊳ h))
unfolding taken_nodes
in_more r h n p = more r.kind r.word p
  where
    node_more : (m : ℕ) → In n (taken_nodes h) → (b : Bool) → In n (cond b (taken_nodes h) (m ∷ taken_nodes h))
    node_more m q true = q
    node_more m q false = inr q

    more : (k : Kind) (w : Word) → In n (taken_nodes h) → In n (with_fill k w (taken_nodes h))
    more Fill (Node m part) q = node_more m.0 q (has (taken_nodes h) m.0)
    more Fill (Scx s part) q = q
    more _ _ q = q

taken_in : (h : History) (n : ℕ) → IsTakenNode h n → In n (taken_nodes h)
unfolding IsTakenNode taken_nodes
taken_in (Opened o) n p = absurd p
taken_in (r ⊳ h) n (inl x) = subst (λ k. In n (with_fill k r.word (taken_nodes h))) (sym x.1) (subst (λ w. In n (with_fill Fill w (taken_nodes h))) (sym x.2) (go (has (taken_nodes h) n) refl))
  where
    go : (b : Bool) → has (taken_nodes h) n ≡ b → In n (cond (has (taken_nodes h) n) (taken_nodes h) (n ∷ taken_nodes h))
    go true e = rw e (has_in (taken_nodes h) n e)
    go false e = rw e (inl refl)
taken_in (r ⊳ h) n (inr p) = in_more r h n (taken_in h n p)

-- a node after the opening ones whose head is not 0 was taken
head_taken : (lay : Layout) (h : History) (n : ℕ) → Lawful lay h → opening_nodes lay ≤ n → value h (node n (Settled Head)) ≢ 0 → IsTakenNode h n
head_taken lay (Opened o) n l i d = absurd (d (value_start o (node n (Settled Head)) ∙ o.beyond n (Settled Head) (let few = start_nodes lay o l in omega (arith, i, few))))
head_taken lay (r ⊳ h) n l i d = go (change lay h r l) (head_taken lay h n (lawful_tail lay h r l) i)
  where
    old : value (r ⊳ h) (node n (Settled Head)) ≡ value h (node n (Settled Head)) → (value h (node n (Settled Head)) ≢ 0 → IsTakenNode h n) → IsTakenNode (r ⊳ h) n
    old e more = taken_node_more r h n (more (λ q. d (e ∙ q)))

    at_node : (m : ℕ) (part : NodeWord) → r.kind ≡ Fill → r.word ≡ node m part → (value h (node n (Settled Head)) ≢ 0 → IsTakenNode h n) → Dec (m ≡ n) → IsTakenNode (r ⊳ h) n
    at_node m part k w more (yes e) = fill_takes_node r h n part k (w ∙ ap (λ z. node z part) e)
    at_node m part k w more (no e) = old (value_apart r h (node m part) (node n (Settled Head)) w (node_apart m n part (Settled Head) e)) more

    go : Change lay h r → (value h (node n (Settled Head)) ≢ 0 → IsTakenNode h n) → IsTakenNode (r ⊳ h) n
    go (nothing j e) more = old (value_quiet r h (lawful_row lay h r l).before e (node n (Settled Head))) more
    go (fills_node m part x) more = at_node m part x.kind x.word more (ℕ_discrete m n)
    go (fills_scx u part x) more = old (value_apart r h (scx u part) (node n (Settled Head)) x.word refl) more
    go (freezes u j w) more = old (value_apart r h (info (member h u j)) (node n (Settled Head)) w.freeze.word (node_word_apart (member h u j) n Info (Settled Head) refl)) more
    go (sets_frozen u k x) more = old (value_apart r h (scx u AllFrozen) (node n (Settled Head)) x.word refl) more
    go (marks u j k x) more = old (value_apart r h (marked (member h u j)) (node n (Settled Head)) x.word (node_word_apart (member h u j) n Marked (Settled Head) refl)) more
    go (updates u w) more = old (value_apart r h (field h u) (node n (Settled Head)) w.update.word (node_word_apart (member h u (field_index h u)) n (Child (side_of (plan h u))) (Settled Head) refl)) more
    go (commits u k x) more = old (value_apart r h (state u) (node n (Settled Head)) x.word refl) more
    go (aborts u j k x) more = old (value_apart r h (state u) (node n (Settled Head)) x.word refl) more

-- The nodes that the entries have put into the tree

abbrev news : List ℕ → List Entry → List ℕ
news first [] = first
news first (e ∷ es) = e.new ∷ news first es

news_length : (first : List ℕ) (es : List Entry) → length (news first es) ≡ length first + length es
news_length first [] = omega arith
news_length first (e ∷ es) = let x = news_length first es in omega (arith, x)

-- the nodes that count as taken as the history begins
abbrev first_taken : History → List ℕ
first_taken h = taken_nodes (Opened (opening_of h))

-- those are below all shares; each other is the new node of an SCX-record that has won, all are
-- different, and all were taken
record NewsFacts (lay : Layout) (h : History) : Type 0 where
  won : (k : ℕ) → In k (news (first_taken h) (log lay h)) → (k < opening_nodes lay) ⊎ ((s : ℕ) × HasWon h s × (new h s ≡ k))
  distinct : Distinct (news (first_taken h) (log lay h))
  taken : (k : ℕ) → In k (news (first_taken h) (log lay h)) → In k (taken_nodes h)

module _ (calls : ℕ → MapEdit) (lay : Layout) (h : History) (r : Row) (g : IsGrown calls lay (r ⊳ h)) (x : NewsFacts lay h) where
  f : Facts lay h
  f = facts_before lay h r g.lawful

  before : IsGrown calls lay h
  before = grown_tail calls lay h r g

  t : TreeFacts calls lay h
  t = tree_facts calls lay h before

  new_stays : (s : ℕ) → HasWon h s → new (r ⊳ h) s ≡ new h s
  new_stays s w = scx_stays lay h r s g.lawful (won_real s f w) (won_named s f w) New tt

  old_won : (k : ℕ) → In k (news (first_taken h) (log lay h)) → (k < opening_nodes lay) ⊎ ((s : ℕ) × HasWon (r ⊳ h) s × (new (r ⊳ h) s ≡ k))
  old_won k p = ⊎_elim inl (λ y. inr (y.0, won_more r h y.0 y.1, new_stays y.0 y.1 ∙ y.2)) (x.won k p)

  same_news : log lay (r ⊳ h) ≡ log lay h → NewsFacts lay (r ⊳ h)
  same_news e = record {
    won = λ k p. old_won k (subst (λ es. In k (news (first_taken h) es)) e p);
    distinct = subst (λ es. Distinct (news (first_taken h) es)) (sym e) x.distinct;
    taken = λ k p. in_more r h k (x.taken k (subst (λ es. In k (news (first_taken h) es)) e p));
  }

  module _ (u : ℕ) (w : UpdateWins h r u) where
    u_won : HasWon (r ⊳ h) u
    u_won = update_won f w

    now_new : new (r ⊳ h) u ≡ new h u
    now_new = scx_stays lay h r u g.lawful (some_is_real f (update_flagged f w).some) (member h u 0, (update_flagged f w).frozen 0 (update_flagged f w).some) New tt

    own_late : opening_nodes lay ≤ new h u
    own_late = let own = (update_about f w).owned.new.from in omega (arith, own)

    fresh : ¬ In (new h u) (news (first_taken h) (log lay h))
    fresh p = ⊎_elim
        (λ early. let late = own_late in omega (arith, early, late))
        (λ y.
        let e : y.0 ≡ u = t.one_new y.0 u _ _ (won_real y.0 f y.1) (some_is_real f (update_flagged f w).some) (won_named y.0 f y.1).1 ((update_flagged f w).frozen 0 (update_flagged f w).some) y.2 in
        update_is_first f w (rw e at y.1))
        (x.won (new h u) p)

    new_taken : IsTakenNode (r ⊳ h) (new h u)
    new_taken = head_taken lay (r ⊳ h) (new h u) g.lawful own_late (⊎_elim
        (λ e. absurd (let a : new h u ≡ 0 = e ∙ (tree_now calls lay h r u f w g.mode g.lawful t).is in let b = own_late in let some = some_open lay in omega (arith, a, b, some)))
        (λ d. d)
        (has_head (value (r ⊳ h)) (result calls lay h r u f w g.mode g.lawful t).tree _ _ (new h u) (tree_now calls lay h r u f w g.mode g.lawful t).shows (new_in calls lay h r u f w g.mode g.lawful t)))

    won_news : (e : Entry) → e.new ≡ new h u → log lay (r ⊳ h) ≡ e ∷ log lay h → NewsFacts lay (r ⊳ h)
    won_news e n q = record {
      won = λ k p. ⊎_elim (λ z. inr (u, u_won, now_new ∙ sym n ∙ z)) (old_won k) (subst (λ es. In k (news (first_taken h) es)) q p);
      distinct = subst (λ es. Distinct (news (first_taken h) es)) (sym q) ((λ p. fresh (rw n at p)), x.distinct);
      taken = λ k p. ⊎_elim (λ z. taken_in (r ⊳ h) k (subst (IsTakenNode (r ⊳ h)) (sym n ∙ z) new_taken)) (λ z. in_more r h k (x.taken k z)) (subst (λ es. In k (news (first_taken h) es)) q p);
    }

  news_step : Logs lay h r → NewsFacts lay (r ⊳ h)
  news_step (same e _) = same_news e
  news_step (wins u w q) = won_news u w _ refl q

-- those that count as taken at the start are different, below all shares
planted_below : (first k n : ℕ) → In n (first_planted first k) → n < first + k
planted_below first zero n p = absurd p
planted_below first (suc k) n (inl e) = omega (arith, e)
planted_below first (suc k) n (inr p) = let i = planted_below first k n p in omega (arith, i)

planted_distinct : (first k : ℕ) → Distinct (first_planted first k)
planted_distinct first zero = tt
planted_distinct first (suc k) = (λ p. let i = planted_below first k (first + k) p in omega (arith, i), planted_distinct first k)

no_news : (lay : Layout) (o : Opening) → Lawful lay (Opened o) → NewsFacts lay (Opened o)
unfolding log taken_nodes
no_news lay o l = record {
  won = λ k p. inl (
      let i = planted_below (nodes_at_start o.mode 0) o.deep k p in
      let few = o.few in
      let room = start_nodes lay o l in
      omega (arith, i, few, room)
      );
  distinct = planted_distinct (nodes_at_start o.mode 0) o.deep;
  taken = λ k p. p;
}

news_facts : (calls : ℕ → MapEdit) (lay : Layout) (h : History) → IsGrown calls lay h → NewsFacts lay h
news_facts calls lay (Opened o) g = no_news lay o g.lawful
news_facts calls lay (r ⊳ h) g = news_step calls lay h r g (news_facts calls lay h (grown_tail calls lay h r g)) (logs lay h r g.lawful)

-- the log is no longer than the nodes are many that were taken since the start
grown_since_start : (calls : ℕ → MapEdit) (lay : Layout) (h : History) → IsGrown calls lay h → deep h + length (log lay h) ≤ length (taken_nodes h)
grown_since_start calls lay h g =
    let x : NewsFacts lay h = news_facts calls lay h g in
    let a : length (news (first_taken h) (log lay h)) ≤ length (taken_nodes h) = fits (news (first_taken h) (log lay h)) (taken_nodes h) x.distinct x.taken in
    let b : length (news (first_taken h) (log lay h)) ≡ deep h + length (log lay h) = news_length (first_taken h) (log lay h) in
    omega (arith, a, b)

-- a node that was in a tree has fewer above it than there are nodes: two that are not taken, and
-- those that are
pub grown_depth : (calls : ℕ → MapEdit) (lay : Layout) (h : History) (n : ℕ) → lay.mode ≡ TreeMode → IsGrown calls lay h → WasInTree h n → level (value h) n < 2 + length (taken_nodes h)
grown_depth calls lay h n tree g x =
    let a : level (value h) n ≤ suc (deep h + length (log lay h)) = grown_level calls lay tree h g n x in
    let b : deep h + length (log lay h) ≤ length (taken_nodes h) = grown_since_start calls lay h g in
    omega (arith, a, b)
