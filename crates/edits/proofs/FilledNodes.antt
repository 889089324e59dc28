-- What a node says once it is filled with a piece.
use Rattle.std.proofs.Common.{◌≡◌, ℕ, suc, ◌+◌, ◌-◌, ◌*◌, ◌/◌, ◌%◌, ◌^◌, ◌<◌, ◌≤◌, Bool, true, false, List, [], ◌∷◌, length, refl, ◌∙◌, ap, arith, eq-eqb, ne_eqb, map, min}
use Rattle.histories.specs.Common.{NodeNo, Settled, Child, Head as HeadPart, More, Key, Value, High, Left, Right, Slot, First, Second, Third, Fourth, Word, History, value, node, child, first_key, slot_no}
use Rattle.arena.specs.Heads.{head_word}
use Rattle.template.specs.Common.{Pair, wide_value, pair_in, held_pairs, IsWellCounted, pair, class, is_leaf, level}
use Rattle.ordered_map.specs.Holding.{slots}
use Rattle.ordered_map.proofs.Lemmas.{few_counted, held_slots}
use Rattle.edits.specs.declared.piece.Piece.TheVariants.{Leaf, Fork}
use Rattle.edits.specs.Laws.PieceFills.{HoldsWords}
use Rattle.edits.specs.Pairs.{pair_at}
use Rattle.edits.specs.Pieces.{piece_head}

-- a level that a word holds is filled as it is
pub head_is : (deep kind : ℕ) (leaf : Bool) → deep < 2 ^ 61 → kind < 4 → piece_head deep leaf kind ≡ head_word record { level = deep; leaf = leaf; class = kind }
head_is deep kind leaf fits small = λ i. head_word record { level = least i; leaf = leaf; class = rest i }
  where
    least : min deep (2 ^ 61 - 1) ≡ deep
    least = omega (arith, fits)

    rest : kind % 4 ≡ kind
    rest = omega (arith, small)

-- n is a leaf of this level and class, with these pairs
pub record IsLeafWith (f : Word → ℕ) (n deep kind : ℕ) (ps : List Pair) : Type 0 where
  pub leaf : is_leaf f n ≡ true
  pub level : level f n ≡ deep
  pub class : class f n ≡ kind
  pub counted : IsWellCounted f n
  pub pairs : held_pairs f n ≡ ps
  pub key : f (node n first_key) ≡ (pair_at ps 0).key

-- n is a fork of this level and class, with this key, over x and y
pub record IsForkWith (f : Word → ℕ) (n deep kind k x y : ℕ) : Type 0 where
  pub fork : is_leaf f n ≡ false
  pub level : level f n ≡ deep
  pub class : class f n ≡ kind
  pub key : f (node n first_key) ≡ k
  pub left : f (child n Left) ≡ x
  pub right : f (child n Right) ≡ y

-- a value is that of its halves
halves_back : (v : ℕ) → wide_value (v % 2 ^ 64) (v / 2 ^ 64) ≡ v
halves_back v = omega arith

module _ (h : History) (n low deep kind : ℕ) (ps : List Pair) (same : low ≡ deep) (fits : deep < 2 ^ 61) (few : kind < 4) (w : HoldsWords h n (Leaf low kind ps)) where
  abbrev f : Word → ℕ
  f = value h

  in_slot : (s : Slot) → pair_in f n s ≡ pair_at ps (slot_no s)
  in_slot s = (λ i. pair (w (Settled (Key s)) tt i) (wide_value (w (Settled (Value s)) tt i) (w (Settled (High s)) tt i))) ∙ (λ i. pair (pair_at ps (slot_no s)).key (halves_back (pair_at ps (slot_no s)).value i))

  more_is : (m : ℕ) → length ps ≡ suc m → f (node n (Settled More)) ≡ m
  more_is m e = w (Settled More) tt ∙ (let d = e in omega (arith, d))

  held_is : (qs : List Pair) → ps ≡ qs → 0 < length qs → length qs ≤ 4 → held_pairs f n ≡ qs
  held_is [] e some few = absurd (omega (arith, some))
  held_is (a ∷ []) e some few = held_slots f n ∙ ap (λ m. map (pair_in f n) (slots m)) (more_is 0 (ap length e)) ∙ (λ i. (in_slot First ∙ ap (λ xs. pair_at xs 0) e) i ∷ [])
  held_is (a ∷ b ∷ []) e some few = held_slots f n ∙ ap (λ m. map (pair_in f n) (slots m)) (more_is 1 (ap length e)) ∙ (λ i. (in_slot First ∙ ap (λ xs. pair_at xs 0) e) i ∷ (in_slot Second ∙ ap (λ xs. pair_at xs 1) e) i ∷ [])
  held_is (a ∷ b ∷ c ∷ []) e some few = held_slots f n ∙ ap (λ m. map (pair_in f n) (slots m)) (more_is 2 (ap length e)) ∙ (λ i. (in_slot First ∙ ap (λ xs. pair_at xs 0) e) i ∷ (in_slot Second ∙ ap (λ xs. pair_at xs 1) e) i ∷ (in_slot Third ∙ ap (λ xs. pair_at xs 2) e) i ∷ [])
  held_is (a ∷ b ∷ c ∷ d ∷ []) e some few =
      held_slots f n ∙ ap (λ m. map (pair_in f n) (slots m)) (more_is 3 (ap length e))
      ∙ (λ i. (in_slot First ∙ ap (λ xs. pair_at xs 0) e) i ∷ (in_slot Second ∙ ap (λ xs. pair_at xs 1) e) i ∷ (in_slot Third ∙ ap (λ xs. pair_at xs 2) e) i ∷ (in_slot Fourth ∙ ap (λ xs. pair_at xs 3) e) i ∷ [])
  held_is (a ∷ b ∷ c ∷ d ∷ g ∷ qs) e some few = absurd (omega (arith, few))

  -- a leaf of one pair to four that is filled so holds them; its level may be said in another way
  pub leaf_with : 0 < length ps → length ps ≤ 4 → IsLeafWith (value h) n deep kind ps
  leaf_with some four =
      let e : value h (node n (Settled HeadPart)) ≡ 8 * deep + 4 * 1 + kind = w (Settled HeadPart) tt ∙ ap (λ l. piece_head l true kind) same ∙ head_is deep kind true fits few in
      record {
        leaf = eq-eqb (value h (node n (Settled HeadPart)) / 4 % 2) 1 (omega (arith, e, few));
        level = omega (arith, e, few);
        class = omega (arith, e, few);
        counted = few_counted f n (let m : f (node n (Settled More)) ≡ length ps - 1 = w (Settled More) tt in omega (arith, m, some, four));
        pairs = held_is ps refl some four;
        key = w first_key tt;
      }

-- and such a fork
pub fork_with : (h : History) (n deep kind k : ℕ) (x y : NodeNo) → deep < 2 ^ 61 → kind < 4 → HoldsWords h n (Fork deep kind k x y) → IsForkWith (value h) n deep kind k x.0 y.0
fork_with h n deep kind k x y fits few w =
    let e : value h (node n (Settled HeadPart)) ≡ 8 * deep + 4 * 0 + kind = w (Settled HeadPart) tt ∙ head_is deep kind false fits few in
    record { fork = ne_eqb (value h (node n (Settled HeadPart)) / 4 % 2) 1 (λ z. omega (arith, z, e, few)); level = omega (arith, e, few); class = omega (arith, e, few); key = w first_key tt; left = w (Child Left) tt; right = w (Child Right) tt }
