-- A lawful row, and what is taken of the shares.
use Rattle.std.proofs.Common.{◌≡◌, ◌≢◌, ◌↔◌, ℕ, zero, suc, ◌+◌, ◌<◌, ◌≤◌, ◌⊎◌, inl, inr, ⊎_elim, Bool, true, false, cond, eqb, eqb-true, eq-eqb, ne_eqb, List, ◌∷◌, length, refl, sym, ◌∙◌, ap, subst, arith, get_or-set_other, get_or-set_same}
use Rattle.std.proofs.Math.ListN.{length-set}
use Rattle.std.proofs.lemmas.Bool.{or_left}
use Rattle.histories.specs.Common.{Layout, Mode, NodeWord, ScxWord, Word, Node, Scx, Kind, Fill, LoadSettled, LoadInfo, LoadState, LoadMarked}
use Rattle.histories.specs.Common.{LoadAllFrozen, LoadChild, Freeze, SetFrozen, Mark, Update, Commit, Abort, Row, first_node, first_scx, node, scx}
use Rattle.histories.specs.Common.{History, Start, Opened, ◌⊳◌, opening_nodes, nodes_at_start, has, is_fill, IsOwnNode, IsOwnScx, IsFillOfNode, IsTakenNode, IsTakenScx, Lawful, taken_nodes}
use Rattle.arena.specs.Fills.{IsFillOfScx}
use Rattle.arena.specs.Openings.{first_planted}
use Rattle.arena.specs.TakenNodes.{with_fill}
use Rattle.arena.proofs.Lemmas.{fill_takes_node, fill_takes_scx, taken_node_more, taken_scx_more, taken_few, or_split, or_right}
use Rattle.histories.proofs.Lemmas.{Change, FillsNode, FillsScx, nothing, fills_node, fills_scx, freezes, sets_frozen, marks, updates, commits, aborts, change, lawful_row, lawful_tail, one_node_owner, one_scx_owner, start_nodes}
use Rattle.judge.specs.Taking.{taken_by, one_more, takes_node, takes_scx, MayTake, TakingStands}
use Rattle.judge.specs.declared.taking.Taking.{Taking}
use Rattle.judge.proofs.Spreading.{same_or}

-- What is taken by a row

taken_node_split : (r : Row) (h : History) (n : ℕ) → IsTakenNode (r ⊳ h) n → IsFillOfNode n r ⊎ IsTakenNode h n
unfolding IsTakenNode
taken_node_split r h n t = t

taken_scx_split : (r : Row) (h : History) (s : ℕ) → IsTakenScx (r ⊳ h) s → IsFillOfScx s r ⊎ IsTakenScx h s
unfolding IsTakenScx
taken_scx_split r h s t = t

abbrev number_of : Word → ℕ
number_of (Node n part) = n.0
number_of (Scx s part) = s.0

same_number : (v w : Word) → v ≡ w → number_of v ≡ number_of w
same_number v w e = ap number_of e

abbrev is_node : Word → Bool
is_node (Node n part) = true
is_node (Scx s part) = false

-- Counting the first ones

-- the first k of a range are those for which P holds
record Counted (from size k : ℕ) (P : ℕ → Type 0) : Type 0 where
  fits : k ≤ size
  is : (n : ℕ) → from ≤ n → n < from + size → P n ↔ (n < from + k)

count_same : {from size k : ℕ} {P Q : ℕ → Type 0} → Counted from size k P → ((n : ℕ) → from ≤ n → n < from + size → Q n ↔ P n) → Counted from size k Q
count_same c e = record { fits = c.fits; is = λ n a b. let p = c.is n a b in let q = e n a b in (λ x. p.0 (q.0 x), λ l. q.1 (p.1 l)) }

-- one more, which is the next or one of them
module _ (from size k m : ℕ) (P Q : ℕ → Type 0) (c : Counted from size k P) (low : from ≤ m) (high : m < from + size) (order : (n : ℕ) → from ≤ n → n < m → P n) (split : (n : ℕ) → Q n → (n ≡ m) ⊎ P n) (here : Q m) (old : (n : ℕ) → P n → Q n) where
  at_most : m ≤ from + k
  at_most = ⊎_elim (λ e. e) (λ l. absurd (let f = c.fits in let p = order (from + k) (omega arith) l in let q = (c.is (from + k) (omega arith) (omega (l, high, arith))).0 p in omega (q, arith))) (at_most_or m (from + k))
    where
      at_most_or : (x y : ℕ) → (x ≤ y) ⊎ (y < x)
      at_most_or zero y = inl (omega arith)
      at_most_or (suc x) zero = inr (omega arith)
      at_most_or (suc x) (suc y) = ⊎_elim (λ e. inl (omega (e, arith))) (λ e. inr (omega (e, arith))) (at_most_or x y)

  count_more : Counted from size (cond (eqb m (from + k)) (k + 1) k) Q
  count_more = go (same_or m (from + k))
    where
      go : (m ≡ from + k) ⊎ (m ≢ from + k) → Counted from size (cond (eqb m (from + k)) (k + 1) k) Q
      go (inl e) = rw (eq-eqb m (from + k) e) record {
        fits = omega (e, high, arith);
        is = λ n a b.
            let p = c.is n a b in (
              λ x. ⊎_elim (λ s. omega (s, e, arith)) (λ y. let l = p.0 y in omega (l, arith)) (split n x),
              λ l. ⊎_elim (λ s. subst Q (sym s) here) (λ d. old n (p.1 (omega (l, d, e, arith)))) (same_or n m),
            );
      }
      go (inr d) = rw (ne_eqb m (from + k) d) record {
        fits = c.fits;
        is = λ n a b.
            let p = c.is n a b in
            let most = at_most in (
              λ x. ⊎_elim (λ s. omega (s, d, most, arith)) (λ y. p.0 y) (split n x),
              λ l. old n (p.1 l),
            );
      }

-- The lists

taken_here : (taken : List ℕ) (c : ℕ) (t : Bool) → c < length taken → taken_by (cond t (one_more taken c) taken) c ≡ cond t (taken_by taken c + 1) (taken_by taken c)
taken_here taken c true l = get_or-set_same taken c (taken_by taken c + 1) 0 l
taken_here taken c false l = refl

taken_there : (taken : List ℕ) (c d : ℕ) (t : Bool) → d ≢ c → taken_by (cond t (one_more taken c) taken) d ≡ taken_by taken d
taken_there taken c d true e = get_or-set_other taken c d (taken_by taken c + 1) 0 e
taken_there taken c d false e = refl

taken_long : (taken : List ℕ) (c : ℕ) (t : Bool) → length (cond t (one_more taken c) taken) ≡ length taken
taken_long taken c true = length-set taken c (taken_by taken c + 1)
taken_long taken c false = refl

-- The list of taken nodes

not_fill_list : (k : Kind) (w : Word) (ns : List ℕ) → is_fill k ≡ false → with_fill k w ns ≡ ns
not_fill_list Fill w ns e = absurd (cc)
not_fill_list LoadSettled w ns e = refl
not_fill_list LoadInfo w ns e = refl
not_fill_list LoadState w ns e = refl
not_fill_list LoadMarked w ns e = refl
not_fill_list LoadAllFrozen w ns e = refl
not_fill_list LoadChild w ns e = refl
not_fill_list Freeze w ns e = refl
not_fill_list SetFrozen w ns e = refl
not_fill_list Mark w ns e = refl
not_fill_list Update w ns e = refl
not_fill_list Commit w ns e = refl
not_fill_list Abort w ns e = refl

is_fill_or : (k : Kind) → (k ≡ Fill) ⊎ (is_fill k ≡ false)
is_fill_or Fill = inl refl
is_fill_or _ = inr refl

in_list : (m n : ℕ) (ns : List ℕ) → has (cond (has ns m) ns (m ∷ ns)) n ≡ true → (m ≡ n) ⊎ (has ns n ≡ true)
in_list m n ns p = go (has ns m) refl
  where
    go : (b : Bool) → has ns m ≡ b → (m ≡ n) ⊎ (has ns n ≡ true)
    go true e = inr (sym (ap (λ b. has (cond b ns (m ∷ ns)) n) e) ∙ p)
    go false e = ⊎_elim (λ q. inl (eqb-true m n q)) (λ q. inr q) (or_split (eqb m n) (has ns n) (sym (ap (λ b. has (cond b ns (m ∷ ns)) n) e) ∙ p))

list_more : (m n : ℕ) (ns : List ℕ) → (m ≡ n) ⊎ (has ns n ≡ true) → has (cond (has ns m) ns (m ∷ ns)) n ≡ true
list_more m n ns p = go (has ns m) refl p
  where
    go : (b : Bool) → has ns m ≡ b → (m ≡ n) ⊎ (has ns n ≡ true) → has (cond (has ns m) ns (m ∷ ns)) n ≡ true
    go true e (inl q) = ap (λ b. has (cond b ns (m ∷ ns)) n) e ∙ sym (ap (has ns) q) ∙ e
    go true e (inr q) = ap (λ b. has (cond b ns (m ∷ ns)) n) e ∙ q
    go false e (inl q) = ap (λ b. has (cond b ns (m ∷ ns)) n) e ∙ or_left (eqb m n) (has ns n) (eq-eqb m n q)
    go false e (inr q) = ap (λ b. has (cond b ns (m ∷ ns)) n) e ∙ or_right (eqb m n) (has ns n) q

fill_list : (r : Row) (h : History) → r.kind ≡ Fill → (w : Word) → r.word ≡ w → taken_nodes (r ⊳ h) ≡ with_fill Fill w (taken_nodes h)
unfolding taken_nodes
fill_list r h k w e = rw (k, e) refl

other_list : (r : Row) (h : History) → is_fill r.kind ≡ false → taken_nodes (r ⊳ h) ≡ taken_nodes h
unfolding taken_nodes
other_list r h e = not_fill_list r.kind r.word (taken_nodes h) e

-- the planted nodes are below all shares
planted_below : (first k n : ℕ) → has (first_planted first k) n ≡ true → n < first + k
planted_below first zero n e = absurd (cc)
planted_below first (suc k) n e = ⊎_elim (λ q. let z = eqb-true (first + k) n q in omega (z, arith)) (λ q. let i = planted_below first k n q in omega (i, arith)) (or_split (eqb (first + k) n) (has (first_planted first k) n) e)

-- each node of a share that is in the list is taken, and no other
both_taken : (lay : Layout) (h : History) (n : ℕ) → Lawful lay h → opening_nodes lay ≤ n → (has (taken_nodes h) n ≡ true) ↔ IsTakenNode h n
unfolding taken_nodes IsTakenNode
both_taken lay (Opened o) n l late = (λ e. absurd (let i = planted_below (nodes_at_start o.mode 0) o.deep n e in let few = o.few in let room = start_nodes lay o l in omega (i, few, room, late, arith)), λ t. absurd t)
both_taken lay (r ⊳ h) n l late = by_row (both_taken lay h n (lawful_tail lay h r l) late) (is_fill_or r.kind) r.word refl
  where
    by_row : (has (taken_nodes h) n ≡ true) ↔ IsTakenNode h n → (r.kind ≡ Fill) ⊎ (is_fill r.kind ≡ false) → (w : Word) → r.word ≡ w → (has (taken_nodes (r ⊳ h)) n ≡ true) ↔ IsTakenNode (r ⊳ h) n
    by_row more (inr e) w d =
        let same = other_list r h e in (
          λ p. taken_node_more r h n (more.0 (sym (ap (λ ns. has ns n) same) ∙ p)),
          λ t. ap (λ ns. has ns n) same ∙ more.1 (⊎_elim (λ f. absurd (let k : is_fill r.kind ≡ true = ap is_fill f.1 in cc)) (λ q. q) (taken_node_split r h n t)),
        )
    by_row more (inl e) (Scx s part) d =
        let same = fill_list r h e (Scx s part) d in (
          λ p. taken_node_more r h n (more.0 (sym (ap (λ ns. has ns n) same) ∙ p)),
          λ t. ap (λ ns. has ns n) same ∙ more.1 (⊎_elim (λ f. absurd (let k : is_node r.word ≡ true = ap is_node f.2 in let l : is_node r.word ≡ false = ap is_node d in cc)) (λ q. q) (taken_node_split r h n t)),
        )
    by_row more (inl e) (Node m part) d =
        let same = fill_list r h e (Node m part) d in (
          λ p. ⊎_elim (λ q. fill_takes_node r h n part e (d ∙ ap (λ k. node k part) q)) (λ q. taken_node_more r h n (more.0 q)) (in_list m.0 n (taken_nodes h) (sym (ap (λ ns. has ns n) same) ∙ p)),
          λ t. ap (λ ns. has ns n) same ∙ list_more m.0 n (taken_nodes h) (⊎_elim (λ f. inl (sym (same_number r.word (Node m part) d) ∙ same_number r.word (node n f.0) f.2)) (λ q. inr (more.1 q)) (taken_node_split r h n t)),
        )

-- Which row takes what

takes_not : (lay : Layout) (c : ℕ) (k : Kind) (w : Word) (ns : List ℕ) → is_fill k ≡ false → takes_node lay c k w ns ≡ false
takes_not lay c Fill w ns e = absurd (cc)
takes_not lay c _ w ns e = refl

takes_not_scx : (lay : Layout) (c : ℕ) (k : Kind) (w : Word) (ns : List ℕ) → is_fill k ≡ false → takes_scx lay c k w ns ≡ false
takes_not_scx lay c Fill w ns e = absurd (cc)
takes_not_scx lay c _ w ns e = refl

module _ (lay : Layout) (h : History) (r : Row) (lawful : Lawful lay (r ⊳ h)) (t new : Taking) (old : TakingStands lay h t) where
  inside : r.pass.0 < lay.passes
  inside = (lawful_row lay h r lawful).pass

  nodes_counted : (d : ℕ) → d < lay.passes → Counted (first_node lay d) lay.nodes (taken_by t.nodes.items d) (IsTakenNode h)
  nodes_counted d l = record { fits = old.nodes_fit d l; is = λ n a b. old.nodes d n l (record { from = a; below = b }) }

  scx_counted : (d : ℕ) → d < lay.passes → Counted (first_scx lay d) lay.scx (taken_by t.scx.items d) (IsTakenScx h)
  scx_counted d l = record { fits = old.scx_fit d l; is = λ n a b. old.scx_records d n l (record { from = a; below = b }) }

  abbrev NodesAfter : Bool → Type 0
  NodesAfter takes = (d : ℕ) → d < lay.passes → Counted (first_node lay d) lay.nodes (taken_by (cond takes (one_more t.nodes.items r.pass.0) t.nodes.items) d) (IsTakenNode (r ⊳ h))

  abbrev ScxAfter : Bool → Type 0
  ScxAfter takes = (d : ℕ) → d < lay.passes → Counted (first_scx lay d) lay.scx (taken_by (cond takes (one_more t.scx.items r.pass.0) t.scx.items) d) (IsTakenScx (r ⊳ h))

  -- a row that fills no node
  nodes_same : ((n : ℕ) → ¬ IsFillOfNode n r) → NodesAfter false
  nodes_same none d l = count_same (nodes_counted d l) (λ n a b. (λ x. ⊎_elim (λ f. absurd (none n f)) (λ q. q) (taken_node_split r h n x), λ q. taken_node_more r h n q))

  scx_same : ((s : ℕ) → ¬ IsFillOfScx s r) → ScxAfter false
  scx_same none d l = count_same (scx_counted d l) (λ n a b. (λ x. ⊎_elim (λ f. absurd (none n f)) (λ q. q) (taken_scx_split r h n x), λ q. taken_scx_more r h n q))

  -- a row that fills one
  module _ (m : ℕ) (part : NodeWord) (x : FillsNode lay h r m part) where
    one_node : (n : ℕ) → IsFillOfNode n r → n ≡ m
    one_node n f = sym (same_number r.word (node n f.0) f.2) ∙ same_number r.word (node m part) x.word

    abbrev Goal : ℕ → Type 0
    Goal c = Counted (first_node lay c) lay.nodes (taken_by (cond (eqb m (first_node lay r.pass.0 + taken_by t.nodes.items r.pass.0)) (one_more t.nodes.items r.pass.0) t.nodes.items) c) (IsTakenNode (r ⊳ h))

    nodes_fill : NodesAfter (eqb m (first_node lay r.pass.0 + taken_by t.nodes.items r.pass.0))
    nodes_fill d l = ⊎_elim own other (same_or d r.pass.0)
      where
        own : d ≡ r.pass.0 → Goal d
        own e =
            let c = r.pass.0 in
            let more = count_more (first_node lay c) lay.nodes (taken_by t.nodes.items c) m (IsTakenNode h) (IsTakenNode (r ⊳ h)) (nodes_counted c inside) x.is_open.own.from x.is_open.own.below
            (λ n a b. x.is_open.in_order n (record { from = a; below = let z = x.is_open.own.below in omega (b, z, arith) }) b)
            (λ n q. ⊎_elim (λ f. inl (one_node n f)) (λ y. inr y) (taken_node_split r h n q))
            (fill_takes_node r h m part x.kind x.word)
            (λ n q. taken_node_more r h n q) in
            let at = taken_here t.nodes.items c (eqb m (first_node lay c + taken_by t.nodes.items c)) (rw old.nodes_size inside) in
            subst Goal (sym e) (rw at more)

        other : d ≢ r.pass.0 → Goal d
        other e =
            let at = taken_there t.nodes.items r.pass.0 d (eqb m (first_node lay r.pass.0 + taken_by t.nodes.items r.pass.0)) e in
            rw at (count_same (nodes_counted d l) (λ n a b. (λ q. ⊎_elim (λ f. absurd (e (one_node_owner lay d r.pass.0 m (subst (λ (k : ℕ). IsOwnNode lay d k) (one_node n f) (record { from = a; below = b })) x.is_open.own))) (λ y. y) (taken_node_split r h n q), λ q. taken_node_more r h n q)))

    all_fill : cond (eqb m (first_node lay r.pass.0 + taken_by t.nodes.items r.pass.0)) (t.all_nodes + 1) t.all_nodes ≡ length (taken_nodes (r ⊳ h))
    all_fill = ⊎_elim
        (λ e.
        let fresh : has (taken_nodes h) m ≡ false = not_true (has (taken_nodes h) m) (λ q. let z = (old.nodes r.pass.0 m inside x.is_open.own).0 ((both_taken lay h m (lawful_tail lay h r lawful) (let own = x.is_open.own.from in omega (own, arith))).0 q) in omega (z, e, arith)) in
        let list : taken_nodes (r ⊳ h) ≡ m ∷ taken_nodes h = fill_list r h x.kind (node m part) x.word ∙ rw fresh refl in
        let z = old.all in let longer : t.all_nodes + 1 ≡ suc (length (taken_nodes h)) = omega (z, arith) in rw (eq-eqb m (first_node lay r.pass.0 + taken_by t.nodes.items r.pass.0) e, list) longer)
        (λ d.
        let known : has (taken_nodes h) m ≡ true = (both_taken lay h m (lawful_tail lay h r lawful) (let own = x.is_open.own.from in omega (own, arith))).1 ((old.nodes r.pass.0 m inside x.is_open.own).1 (let most = at_most (first_node lay r.pass.0) lay.nodes (taken_by t.nodes.items r.pass.0) m (IsTakenNode h) (IsTakenNode (r ⊳ h)) (nodes_counted r.pass.0 inside) x.is_open.own.from x.is_open.own.below
        (λ n a b. x.is_open.in_order n (record { from = a; below = let z = x.is_open.own.below in omega (b, z, arith) }) b)
        (λ n q. ⊎_elim (λ f. inl (one_node n f)) (λ y. inr y) (taken_node_split r h n q))
        (fill_takes_node r h m part x.kind x.word)
        (λ n q. taken_node_more r h n q) in omega (most, d, arith))) in
        let list : taken_nodes (r ⊳ h) ≡ taken_nodes h = fill_list r h x.kind (node m part) x.word ∙ rw known refl in
        rw (ne_eqb m (first_node lay r.pass.0 + taken_by t.nodes.items r.pass.0) d, list) old.all)
        (same_or m (first_node lay r.pass.0 + taken_by t.nodes.items r.pass.0))
      where
        not_true : (b : Bool) → (b ≡ true → ⊥) → b ≡ false
        not_true true d = absurd (d refl)
        not_true false d = refl

  module _ (u : ℕ) (part : ScxWord) (x : FillsScx lay h r u part) where
    one_scx : (s : ℕ) → IsFillOfScx s r → s ≡ u
    one_scx s f = sym (same_number r.word (scx s f.0) f.2) ∙ same_number r.word (scx u part) x.word

    abbrev ScxGoal : ℕ → Type 0
    ScxGoal c = Counted (first_scx lay c) lay.scx (taken_by (cond (eqb u (first_scx lay r.pass.0 + taken_by t.scx.items r.pass.0)) (one_more t.scx.items r.pass.0) t.scx.items) c) (IsTakenScx (r ⊳ h))

    scx_fill : ScxAfter (eqb u (first_scx lay r.pass.0 + taken_by t.scx.items r.pass.0))
    scx_fill d l = ⊎_elim own other (same_or d r.pass.0)
      where
        own : d ≡ r.pass.0 → ScxGoal d
        own e =
            let c = r.pass.0 in
            let more = count_more (first_scx lay c) lay.scx (taken_by t.scx.items c) u (IsTakenScx h) (IsTakenScx (r ⊳ h)) (scx_counted c inside) x.is_open.own.from x.is_open.own.below
            (λ n a b. x.is_open.in_order n (record { from = a; below = let z = x.is_open.own.below in omega (b, z, arith) }) b)
            (λ n q. ⊎_elim (λ f. inl (one_scx n f)) (λ y. inr y) (taken_scx_split r h n q))
            (fill_takes_scx r h u part x.kind x.word)
            (λ n q. taken_scx_more r h n q) in
            let at = taken_here t.scx.items c (eqb u (first_scx lay c + taken_by t.scx.items c)) (rw old.scx_size inside) in
            subst ScxGoal (sym e) (rw at more)

        other : d ≢ r.pass.0 → ScxGoal d
        other e =
            let at = taken_there t.scx.items r.pass.0 d (eqb u (first_scx lay r.pass.0 + taken_by t.scx.items r.pass.0)) e in
            rw at (count_same (scx_counted d l) (λ n a b. (λ q. ⊎_elim (λ f. absurd (e (one_scx_owner lay d r.pass.0 u (subst (λ (k : ℕ). IsOwnScx lay d k) (one_scx n f) (record { from = a; below = b })) x.is_open.own))) (λ y. y) (taken_scx_split r h n q), λ q. taken_scx_more r h n q)))

  -- all together
  record Pieces (takes takes_it : Bool) : Type 0 where
    nodes : takes_node lay r.pass.0 r.kind r.word t.nodes.items ≡ takes
    scx_records : takes_scx lay r.pass.0 r.kind r.word t.scx.items ≡ takes_it
    nodes_after : NodesAfter takes
    scx_after : ScxAfter takes_it
    all : cond takes (t.all_nodes + 1) t.all_nodes ≡ length (taken_nodes (r ⊳ h))

  no_fill : is_fill r.kind ≡ false → Pieces false false
  no_fill e = record {
    nodes = takes_not lay r.pass.0 r.kind r.word t.nodes.items e;
    scx_records = takes_not_scx lay r.pass.0 r.kind r.word t.scx.items e;
    nodes_after = nodes_same (λ n f. let k : is_fill r.kind ≡ true = ap is_fill f.1 in cc);
    scx_after = scx_same (λ n f. let k : is_fill r.kind ≡ true = ap is_fill f.1 in cc);
    all = old.all ∙ ap length (sym (other_list r h e));
  }

  together : (takes takes_it : Bool) → Pieces takes takes_it → new.nodes.items ≡ cond (takes_node lay r.pass.0 r.kind r.word t.nodes.items) (one_more t.nodes.items r.pass.0) t.nodes.items → new.scx.items ≡ cond (takes_scx lay r.pass.0 r.kind r.word t.scx.items) (one_more t.scx.items r.pass.0) t.scx.items → new.all_nodes ≡ cond (takes_node lay r.pass.0 r.kind r.word t.nodes.items) (t.all_nodes + 1) t.all_nodes → TakingStands lay (r ⊳ h) new
  together takes takes_it p e f g =
      let ns : new.nodes.items ≡ cond takes (one_more t.nodes.items r.pass.0) t.nodes.items = e ∙ ap (λ b. cond b (one_more t.nodes.items r.pass.0) t.nodes.items) p.nodes in
      let ss : new.scx.items ≡ cond takes_it (one_more t.scx.items r.pass.0) t.scx.items = f ∙ ap (λ b. cond b (one_more t.scx.items r.pass.0) t.scx.items) p.scx_records in
      record {
        nodes_size = ap length ns ∙ taken_long t.nodes.items r.pass.0 takes ∙ old.nodes_size;
        scx_size = ap length ss ∙ taken_long t.scx.items r.pass.0 takes_it ∙ old.scx_size;
        nodes_fit = λ c l. rw ns (p.nodes_after c l).fits;
        scx_fit = λ c l. rw ss (p.scx_after c l).fits;
        nodes = λ c n l o. rw ns ((p.nodes_after c l).is n o.from o.below);
        scx_records = λ c n l o. rw ss ((p.scx_after c l).is n o.from o.below);
        all = g ∙ ap (λ b. cond b (t.all_nodes + 1) t.all_nodes) p.nodes ∙ p.all;
      }

  abbrev SomePieces : Type 0
  SomePieces = (takes : Bool) × (takes_it : Bool) × Pieces takes takes_it

  pieces : Change lay h r → SomePieces
  pieces (nothing i e) = (false, false, no_fill i)
  pieces (fills_node m part x) =
      let at : takes_node lay r.pass.0 r.kind r.word t.nodes.items ≡ eqb m (first_node lay r.pass.0 + taken_by t.nodes.items r.pass.0) = rw (x.kind, x.word) refl in
      let not_scx : takes_scx lay r.pass.0 r.kind r.word t.scx.items ≡ false = rw (x.kind, x.word) refl in (
        eqb m (first_node lay r.pass.0 + taken_by t.nodes.items r.pass.0),
        false,
        record {
          nodes = at;
          scx_records = not_scx;
          nodes_after = nodes_fill m part x;
          scx_after = scx_same (λ s f. let k : is_node r.word ≡ false = ap is_node f.2 in let l : is_node r.word ≡ true = ap is_node x.word in cc);
          all = all_fill m part x;
        },
      )
  pieces (fills_scx u part x) =
      let at : takes_scx lay r.pass.0 r.kind r.word t.scx.items ≡ eqb u (first_scx lay r.pass.0 + taken_by t.scx.items r.pass.0) = rw (x.kind, x.word) refl in
      let not_node : takes_node lay r.pass.0 r.kind r.word t.nodes.items ≡ false = rw (x.kind, x.word) refl in (
        false,
        eqb u (first_scx lay r.pass.0 + taken_by t.scx.items r.pass.0),
        record {
          nodes = not_node;
          scx_records = at;
          nodes_after = nodes_same (λ s f. let k : is_node r.word ≡ true = ap is_node f.2 in let l : is_node r.word ≡ false = ap is_node x.word in cc);
          scx_after = scx_fill u part x;
          all = old.all ∙ ap length (sym (fill_list r h x.kind (scx u part) x.word));
        },
      )
  pieces (freezes s j w) = (false, false, no_fill (rw w.kind refl))
  pieces (sets_frozen s k x) = (false, false, no_fill (rw k refl))
  pieces (marks s j k x) = (false, false, no_fill (rw k refl))
  pieces (updates s x) = (false, false, no_fill (rw x.kind refl))
  pieces (commits s k x) = (false, false, no_fill (rw k refl))
  pieces (aborts s j k x) = (false, false, no_fill (rw k refl))

  pub taking_more : new.nodes.items ≡ cond (takes_node lay r.pass.0 r.kind r.word t.nodes.items) (one_more t.nodes.items r.pass.0) t.nodes.items → new.scx.items ≡ cond (takes_scx lay r.pass.0 r.kind r.word t.scx.items) (one_more t.scx.items r.pass.0) t.scx.items → new.all_nodes ≡ cond (takes_node lay r.pass.0 r.kind r.word t.nodes.items) (t.all_nodes + 1) t.all_nodes → TakingStands lay (r ⊳ h) new
  taking_more e f g = let p = pieces (change lay h r lawful) in together p.0 p.1 p.2 e f g

  pub may_take : MayTake lay t r.pass.0
  may_take = record {
    inside = inside;
    nodes_size = old.nodes_size;
    scx_size = old.scx_size;
    nodes_fit = old.nodes_fit r.pass.0 inside;
    scx_fit = old.scx_fit r.pass.0 inside;
    all_fit = let few = taken_few lay h (lawful_tail lay h r lawful) in let z = old.all in omega (few, z, arith);
  }

-- at the start nothing is taken

none_taken : (mode : Mode) (n : ℕ) → ¬ IsTakenNode (Start mode) n
unfolding IsTakenNode
none_taken mode n t = t

none_taken_scx : (mode : Mode) (s : ℕ) → ¬ IsTakenScx (Start mode) s
unfolding IsTakenScx
none_taken_scx mode s t = t

pub taking_start : (lay : Layout) (t : Taking) → length t.nodes.items ≡ lay.passes → length t.scx.items ≡ lay.passes → ((c : ℕ) → taken_by t.nodes.items c ≡ 0) → ((c : ℕ) → taken_by t.scx.items c ≡ 0) → t.all_nodes ≡ 0 → TakingStands lay (Start lay.mode) t
unfolding taken_nodes
taking_start lay t a b c d e = record {
  nodes_size = a;
  scx_size = b;
  nodes_fit = λ k l. let z = c k in omega (z, arith);
  scx_fit = λ k l. let z = d k in omega (z, arith);
  nodes = λ k n l o. (λ q. absurd (none_taken lay.mode n q), λ q. absurd (let z = c k in let f = o.from in omega (z, f, q, arith)));
  scx_records = λ k n l o. (λ q. absurd (none_taken_scx lay.mode n q), λ q. absurd (let z = d k in let f = o.from in omega (z, f, q, arith)));
  all = e;
}
