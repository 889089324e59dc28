-- What is added for a list of pairs, piece by piece.
use Rattle.std.proofs.Common.{◌≡◌, ℕ, suc, zero, ◌+◌, ◌-◌, ◌*◌, ◌^◌, ◌<◌, ◌≤◌, Bool, true, false, if◌then◌else◌, List, [], ◌∷◌, ◌++◌, length, take, drop, refl, sym, ◌∙◌, ap, subst, arith}
use Rattle.std.proofs.lemmas.List.{length-take-le, length-append, append_assoc, take-append-drop}
use Rattle.histories.specs.Common.{History, value}
use Rattle.ordered_map.specs.declared.pair.Pair.{Pair}
use Rattle.ordered_map.specs.OrderedMap.{AllBelow, IsRising}
use Rattle.edits.specs.declared.piece.Piece.{Piece}
use Rattle.edits.specs.declared.piece.Piece.TheVariants.{Leaf, Fork}
use Rattle.edits.specs.Laws.PieceFills.{HoldsWords}
use Rattle.edits.proofs.Lemmas.{leaf_with, fork_with}
use Rattle.planting.specs.Groves.{IsGrove, IsPartedAt, HoldsRow, NamesBelow, HasGrown}
use Rattle.planting.proofs.Groves.{leaf_grove, fork_grove, any_tall}

pub row_front : (h : History) (at : ℕ) (xs ys : List Piece) → HoldsRow h at (xs ++ ys) → HoldsRow h at xs
row_front h at [] ys w = tt
row_front h at (x ∷ xs) ys w = (w.0, row_front h (suc at) xs ys w.1)

pub row_back : (h : History) (at : ℕ) (xs ys : List Piece) → HoldsRow h at (xs ++ ys) → HoldsRow h (at + length xs) ys
row_back h at [] ys w = subst (λ n. HoldsRow h n ys) (omega arith) w
row_back h at (x ∷ xs) ys w = subst (λ n. HoldsRow h n ys) (omega arith) (row_back h (suc at) xs ys w.1)

pub names_more : (m n : ℕ) (ps : List Piece) → m ≤ n → NamesBelow m ps → NamesBelow n ps
names_more m n [] l w = tt
names_more m n (p ∷ ps) l w = let a = w.0 in let b = w.1 in (omega (arith, l, a), omega (arith, l, b), names_more m n ps l w.2)

pub names_both : (m : ℕ) (xs ys : List Piece) → NamesBelow m xs → NamesBelow m ys → NamesBelow m (xs ++ ys)
names_both m [] ys v w = w
names_both m (x ∷ xs) ys v w = (v.0, v.1, names_both m xs ys v.2 w)

abbrev pub leaf_level : Bool → ℕ → ℕ
leaf_level trie deep = if trie then 66 else deep

pub leaf_grown : (trie : Bool) (ps : List Pair) (deep : ℕ) (old : List Piece) → 0 < length ps → length ps ≤ 4 → IsRising ps → AllBelow (2 ^ 64) ps → deep < 2 ^ 60 → HasGrown trie ps deep old (old ++ Leaf (leaf_level trie deep) 0 ps ∷ []) (3 + length old)
leaf_grown trie [] deep old some four rises small fits = absurd (omega (arith, some))
leaf_grown trie (p ∷ ps) deep old some four rises small fits = record {
  more = Leaf (leaf_level trie deep) 0 (p ∷ ps) ∷ [];
  is = refl;
  few = omega arith;
  enough = omega (arith, four);
  full = λ _. omega (arith, four);
  last = let e = length-append old (Leaf (leaf_level trie deep) 0 (p ∷ ps) ∷ []) in omega (arith, e);
  names = (omega arith, omega arith, tt);
  grove = λ h tall w _. leaf_grove trie (value h) (3 + length old) deep (leaf_level trie deep) tall p ps (leaf_with h (3 + length old) (leaf_level trie deep) (leaf_level trie deep) 0 (p ∷ ps) refl (fits_leaf trie) (omega arith) w.0 some four) rises small (λ is. ap (λ t. leaf_level t deep) is) (λ is. ap (λ t. leaf_level t deep) is);
}
  where
    fits_leaf : (t : Bool) → leaf_level t deep < 2 ^ 61
    fits_leaf true = omega arith
    fits_leaf false = omega (arith, fits)

module _ (trie : Bool) (ps : List Pair) (deep middle key here : ℕ) (old row row' : List Piece) (x y : ℕ) (p : IsPartedAt trie ps deep middle key here)
    (left : HasGrown trie (take middle ps) (here + 1) old row x) (right : HasGrown trie (drop middle ps) (here + 1) row row' y) (many : 4 < length ps) (fits : here < 2 ^ 61) where
  abbrev a : ℕ
  a = length left.more

  abbrev b : ℕ
  b = length right.more

  abbrev at : ℕ
  at = 3 + length old

  abbrev pub top_piece : Piece
  top_piece = Fork here 0 key (record { 0 = x }) (record { 0 = y })

  row_is : length row ≡ length old + a
  row_is = ap length left.is ∙ length-append old left.more

  row'_is : length row' ≡ length old + a + b
  row'_is = ap length right.is ∙ length-append row right.more ∙ ap (λ n. n + b) row_is

  low_is : length (take middle ps) ≡ middle
  low_is = length-take-le middle ps (let less = p.less in omega (arith, less))

  high_is : length (drop middle ps) ≡ length ps - middle
  high_is = let e = length-append (take middle ps) (drop middle ps) in let all = ap length (take-append-drop middle ps) in let l = low_is in omega (arith, e, all, l)

  module _ (h : History) (w : HoldsRow h at (left.more ++ (right.more ++ top_piece ∷ []))) where
    w_left : HoldsRow h at left.more
    w_left = row_front h at left.more (right.more ++ top_piece ∷ []) w

    w_rest : HoldsRow h (at + a) (right.more ++ top_piece ∷ [])
    w_rest = row_back h at left.more (right.more ++ top_piece ∷ []) w

    w_right : HoldsRow h (3 + length row) right.more
    w_right = subst (λ n. HoldsRow h n right.more) (let e = row_is in omega (arith, e)) (row_front h (at + a) right.more (top_piece ∷ []) w_rest)

    w_top : HoldsWords h (at + a + b) top_piece
    w_top = (row_back h (at + a) right.more (top_piece ∷ []) w_rest).0

    whole : (tall : ℕ) → (trie ≡ false → middle ≤ 4 * 2 ^ tall) → (trie ≡ false → length ps ≤ middle + 4 * 2 ^ tall) → IsGrove trie (value h) ps deep (suc tall) at (a + b + 1) (at + a + b)
    whole tall low high = subst (λ (qs : List Pair). IsGrove trie (value h) qs deep (suc tall) at (a + b + 1) (at + a + b)) (take-append-drop middle ps)
        (fork_grove trie (value h) (take middle ps) (drop middle ps) at a b deep here tall tall tall (here + 1) (here + 1) key x y
        (left.grove h tall w_left (λ is. let l = low is in let e = low_is in omega (arith, l, e)))
        (subst (λ n. IsGrove trie (value h) (drop middle ps) (here + 1) tall n b y) (let e = row_is in omega (arith, e)) (right.grove h tall w_right (λ is. let l = high is in let e = high_is in omega (arith, l, e))))
        (fork_with h (at + a + b) here 0 key (record { 0 = x }) (record { 0 = y }) fits (omega arith) w_top)
        p.below p.from
        (λ is. let same = (p.in_tree is).0 in (same, omega (arith, same), omega (arith, same), omega arith, omega arith))
        p.in_trie)

    grove : (tall : ℕ) → (trie ≡ false → length ps ≤ 4 * 2 ^ tall) → IsGrove trie (value h) ps deep tall at (a + b + 1) (at + a + b)
    grove tall small = go trie refl tall small
      where
        go : (t : Bool) → trie ≡ t → (n : ℕ) → (trie ≡ false → length ps ≤ 4 * 2 ^ n) → IsGrove trie (value h) ps deep n at (a + b + 1) (at + a + b)
        go true is n _ = subst (λ t. IsGrove t (value h) ps deep n at (a + b + 1) (at + a + b)) (sym is) (any_tall (value h) ps deep 1 n at (a + b + 1) (at + a + b) (subst (λ t. IsGrove t (value h) ps deep 1 at (a + b + 1) (at + a + b)) is (whole 0 (λ e. absurd (let z : true ≡ false = sym is ∙ e in cc)) (λ e. absurd (let z : true ≡ false = sym is ∙ e in cc)))))
        go false is zero s = absurd (let few = s is in omega (arith, few, many))
        go false is (suc n) s = whole n (λ e. ((p.in_tree e).1 n (s e)).0) (λ e. ((p.in_tree e).1 n (s e)).1)

  pub fork_grown : HasGrown trie ps deep old (row' ++ top_piece ∷ []) (3 + length row')
  fork_grown = record {
    more = left.more ++ (right.more ++ top_piece ∷ []);
    is = ap (λ r. r ++ top_piece ∷ []) (right.is ∙ ap (λ r. r ++ right.more) left.is) ∙ append_assoc (old ++ left.more) right.more (top_piece ∷ []) ∙ append_assoc old left.more (right.more ++ top_piece ∷ []);
    few = let e = more_is in let l = left.few in let r = right.few in let lo = low_is in let hi = high_is in let less = p.less in omega (arith, e, l, r, lo, hi, less);
    enough = let e = more_is in let l = left.enough in let r = right.enough in let lo = low_is in let hi = high_is in let less = p.less in omega (arith, e, l, r, lo, hi, less);
    full = λ is. let e = more_is in let l = left.full is in let r = right.full is in let lo = low_is in let hi = high_is in let less = p.less in let q = p.full is in omega (arith, e, l, r, lo, hi, less, q);
    last = let e = all_is in omega (arith, e);
    names = let e = all_is in let r = row_is in let r' = row'_is in let lx = left.last in let ly = right.last in
        names_both (3 + length (row' ++ top_piece ∷ [])) left.more (right.more ++ top_piece ∷ [])
        (names_more _ _ left.more (omega (arith, e, r, r')) left.names)
        (names_both _ right.more (top_piece ∷ []) (names_more _ _ right.more (omega (arith, e)) right.names) (omega (arith, e, r, r', lx), omega (arith, e, ly), tt));
    grove = λ h tall w small.
        let g : IsGrove trie (value h) ps deep tall at (a + b + 1) (at + a + b) = grove h w tall small in
        subst (λ n. IsGrove trie (value h) ps deep tall at (length (left.more ++ (right.more ++ top_piece ∷ []))) n) (let e = row'_is in omega (arith, e)) (subst (λ n. IsGrove trie (value h) ps deep tall at n (at + a + b)) (sym more_is) g);
  }
    where
      all_is : length (row' ++ top_piece ∷ []) ≡ length row' + 1
      all_is = length-append row' (top_piece ∷ [])

      more_is : length (left.more ++ (right.more ++ top_piece ∷ [])) ≡ a + b + 1
      more_is = length-append left.more (right.more ++ top_piece ∷ []) ∙ (let e : length (right.more ++ top_piece ∷ []) ≡ b + 1 = length-append right.more (top_piece ∷ []) in omega (arith, e))

-- the same row and top, said in another way
pub grown_as : (trie : Bool) (ps : List Pair) (deep : ℕ) (old new new' : List Piece) (top top' : ℕ) → HasGrown trie ps deep old new top → new' ≡ new → top' ≡ top → HasGrown trie ps deep old new' top'
grown_as trie ps deep old new new' top top' g e f = record {
  more = g.more;
  is = e ∙ g.is;
  few = g.few;
  enough = g.enough;
  full = g.full;
  last = ap suc f ∙ g.last ∙ ap (λ r. 3 + length r) (sym e);
  names = subst (λ r. NamesBelow (3 + length r) g.more) (sym e) g.names;
  grove = λ h tall w s. subst (λ n. IsGrove trie (value h) ps deep tall (3 + length old) (length g.more) n) (sym f) (g.grove h tall w s);
}
