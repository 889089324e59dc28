-- The places of an edit's fresh nodes: their numbers, which comes next, and which is the last.
use Rattle.std.proofs.Common.{◌≡◌, ℕ, suc, ◌+◌, ◌-◌, ◌<◌, ◌≤◌, Bool, true, false, if◌then◌else◌, Some, None, refl, sym, subst, arith, min, nat_lt, eq-eqb, ltb-false, ltb-true, ne_eqb}
use native.Mathlib.Decide.{ℕ_discrete}
use Rattle.edits.specs.declared.edit.Nodes.{Nodes}
use Rattle.edits.specs.declared.edit.Nth.{Nth}
use Rattle.edits.specs.declared.edit.Nth.TheVariants.{First, Second, Third}
use Rattle.edits.specs.declared.piece.Piece.{Piece}
use Rattle.edits.specs.Known.{ComesBefore, IsNeeded, StandInRow, pieces_by}
use Rattle.edits.specs.Laws.PieceFills.{the_same}
use Rattle.edits.specs.Pieces.{fills_after, many_fills, nth_behind, nth_no, nth_node, third_fills, top_of}

few_places : (nth : Nth) → nth_no nth < 3
few_places First = omega arith
few_places Second = omega arith
few_places Third = omega arith

-- the piece of a node that is needed is the one of its place
pub piece_is : (p : Nth → Piece) (ns : Nodes) (need : ℕ) (nth : Nth) → IsNeeded need nth → StandInRow need ns → pieces_by p ns (nth_node ns nth).0 ≡ p nth
piece_is p ns need First n o = rw (eq-eqb ns.first.0 ns.first.0 refl) refl
piece_is p ns need Second n o = let b = o Second n in rw (ne_eqb ns.second.0 ns.first.0 (λ q. omega (arith, b, q)), eq-eqb ns.second.0 ns.second.0 refl) refl
piece_is p ns need Third n o =
    let b = o Second (omega (arith, n)) in
    let d = o Third n in
    rw (ne_eqb ns.third.0 ns.first.0 (λ q. omega (arith, d, q)), ne_eqb ns.third.0 ns.second.0 (λ q. omega (arith, b, d, q))) refl

-- the number of the last
pub top_is : (need : ℕ) (ns : Nodes) → StandInRow need ns → top_of need ns ≡ ns.first.0 + (min need 3 - 1)
top_is need ns o = go (nat_lt 2 need) (nat_lt 1 need) refl refl
  where
    go : (c b : Bool) → nat_lt 2 need ≡ c → nat_lt 1 need ≡ b → (if c then ns.third.0 else (if b then ns.second.0 else ns.first.0)) ≡ ns.first.0 + (min need 3 - 1)
    go true b three two = let l = ltb-true 2 need three in let d = o Third l in omega (arith, d, l)
    go false true three two = let l = ltb-true 1 need two in let n = ltb-false 2 need three in let d = o Second l in omega (arith, d, l, n)
    go false false three two = let n = ltb-false 1 need two in omega (arith, n)

-- what is in hand below the last is a needed node
pub hand_is : (need : ℕ) (ns : Nodes) (v : ℕ) → StandInRow need ns → ns.first.0 ≤ v → v < top_of need ns → (nth : Nth) × IsNeeded need nth × ((nth_node ns nth).0 ≡ v)
hand_is need ns v o from below = go (ℕ_discrete v ns.first.0)
  where
    t : top_of need ns ≡ ns.first.0 + (min need 3 - 1)
    t = top_is need ns o

    go : Dec (v ≡ ns.first.0) → (nth : Nth) × IsNeeded need nth × ((nth_node ns nth).0 ≡ v)
    go (yes e) = (First, omega (arith, t, from, below), sym e)
    go (no d) = let two : 1 < need = omega (arith, t, from, below, d) in let a = o Second two in (Second, two, omega (arith, a, t, from, below, d))

module _ (ns : Nodes) (need : ℕ) (nth : Nth) (n : IsNeeded need nth) (o : StandInRow need ns) where
  -- a needed node is one of those in hand
  pub needed_within : (ns.first.0 ≤ (nth_node ns nth).0) × ((nth_node ns nth).0 ≤ top_of need ns)
  needed_within = let a = o nth n in let t = top_is need ns o in let f = few_places nth in (omega (arith, a), omega (arith, a, t, n, f))

  -- and one of a place before it is not the last
  pub earlier_below : (i : Nth) → ComesBefore i nth → (ns.first.0 ≤ (nth_node ns i).0) × ((nth_node ns i).0 < top_of need ns)
  earlier_below i before =
      let a = o i (omega (arith, before, n)) in
      let t = top_is need ns o in
      let f = few_places nth in
      (omega (arith, a), omega (arith, a, t, before, n, f))

  -- where none comes after it, it is the last
  pub last_node : nth_behind need nth ≡ None → (nth_node ns nth).0 ≡ top_of need ns
  last_node e = let a = o nth n in let t = top_is need ns o in let l = last nth n e in omega (arith, a, t, l)
    where
      last : (i : Nth) → IsNeeded need i → nth_behind need i ≡ None → nth_no i ≡ (min need 3 - 1)
      last First m d = go (nat_lt 1 need) refl d
        where
          go : (b : Bool) → nat_lt 1 need ≡ b → (if b then Some Second else None) ≡ None → 0 ≡ (min need 3 - 1)
          go true two z = absurd (let y : Some Second ≡ None = z in cc)
          go false two z = let k = ltb-false 1 need two in omega (arith, k)
      last Second m d = go (nat_lt 2 need) refl d
        where
          go : (b : Bool) → nat_lt 2 need ≡ b → (if b then Some Third else None) ≡ None → 1 ≡ (min need 3 - 1)
          go true three z = absurd (let y : Some Third ≡ None = z in cc)
          go false three z = let k = ltb-false 2 need three in omega (arith, k, m)
      last Third m d = omega (arith, m)

-- the place that comes after a place is needed, and the next one
pub comes_next : (need : ℕ) (nth after : Nth) → nth_behind need nth ≡ Some after → IsNeeded need after × (nth_no after ≡ suc (nth_no nth))
comes_next need First after e = go (nat_lt 1 need) refl e
  where
    go : (b : Bool) → nat_lt 1 need ≡ b → (if b then Some Second else None) ≡ Some after → IsNeeded need after × (nth_no after ≡ 1)
    go true two d = subst (λ (i : Nth). IsNeeded need i × (nth_no i ≡ 1)) (the_same Second after d) (ltb-true 1 need two, refl)
    go false two d = absurd (let z : None ≡ Some after = d in cc)
comes_next need Second after e = go (nat_lt 2 need) refl e
  where
    go : (b : Bool) → nat_lt 2 need ≡ b → (if b then Some Third else None) ≡ Some after → IsNeeded need after × (nth_no after ≡ 2)
    go true three d = subst (λ (i : Nth). IsNeeded need i × (nth_no i ≡ 2)) (the_same Third after d) (ltb-true 2 need three, refl)
    go false three d = absurd (let z : None ≡ Some after = d in cc)
comes_next need Third after e = absurd (let z : None ≡ Some after = e in cc)

none_more : (n : ℕ) → n ≡ n + 0
none_more n = omega arith

-- what is left after a node is left for the next one
pub after_next : (need : ℕ) (pieces : Nth → Piece) (nth after : Nth) → nth_behind need nth ≡ Some after → fills_after need pieces nth ≡ many_fills (pieces after) + fills_after need pieces after
after_next need pieces First after e = go (nat_lt 1 need) e
  where
    go : (b : Bool) → (if b then Some Second else None) ≡ Some after → (if b then many_fills (pieces Second) + third_fills need pieces else 0) ≡ many_fills (pieces after) + fills_after need pieces after
    go true d = subst (λ i. many_fills (pieces Second) + third_fills need pieces ≡ many_fills (pieces i) + fills_after need pieces i) (the_same Second after d) refl
    go false d = absurd (let z : None ≡ Some after = d in cc)
after_next need pieces Second after e = go (nat_lt 2 need) e
  where
    go : (b : Bool) → (if b then Some Third else None) ≡ Some after → (if b then many_fills (pieces Third) else 0) ≡ many_fills (pieces after) + fills_after need pieces after
    go true d = subst (λ i. many_fills (pieces Third) ≡ many_fills (pieces i) + fills_after need pieces i) (the_same Third after d) (none_more (many_fills (pieces Third)))
    go false d = absurd (let z : None ≡ Some after = d in cc)
after_next need pieces Third after e = absurd (let z : None ≡ Some after = e in cc)
