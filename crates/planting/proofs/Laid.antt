-- The words of a node while it is laid into a table, and those of all others.
use Rattle.std.proofs.Common.{◌≡◌, ℕ, zero, suc, ◌+◌, ◌-◌, ◌<◌, ◌≤◌, Bool, true, false, List, [], ◌∷◌, length, slice_get, None, Some, refl, sym, ◌∙◌, ap, subst, arith, eq-eqb, ne_eqb}
use Rattle.std.proofs.Math.Decide.{dec_lt}
use Rattle.arena.specs.declared.number.NodeNo.{NodeNo}
use Rattle.arena.specs.declared.number.ScxNo.{ScxNo}
use Rattle.arena.specs.declared.word.Side.TheVariants.{Left, Right}
use Rattle.arena.specs.declared.word.NodeWord.{NodeWord}
use Rattle.arena.specs.declared.word.NodeWord.TheVariants.{Settled, Child, Info, Marked}
use Rattle.arena.specs.declared.word.SettledPart.TheVariants.{Head, More, Key, Value, High}
use Rattle.arena.specs.declared.word.Slot.TheVariants.{First, Second, Third, Fourth}
use Rattle.arena.specs.declared.word.ScxWord.{ScxWord}
use Rattle.arena.specs.declared.word.Word.{Word}
use Rattle.arena.specs.declared.word.Word.TheVariants.{Node, Scx}
use Rattle.arena.specs.Layout.{all_nodes, IsWord}
use Rattle.arena.specs.Openings.{tree_opening, records_opening}
use Rattle.arena.specs.PlainWords.{Contents, IsChanged, word_at}
use Rattle.arena.specs.Words.{same_node_word}
use Rattle.arena.proofs.Lemmas.{word_apart}
use Rattle.edits.specs.declared.piece.Piece.{Piece}
use Rattle.edits.specs.declared.piece.Piece.TheVariants.{Leaf, Fork}
use Rattle.edits.specs.Laws.PieceFills.{part_same, the_same}
use Rattle.edits.specs.Pieces.{is_leaf_piece, word_of}
use Rattle.planting.specs.Laid.{HoldsNode, LeavesOthers, as_piece, is_laid, is_of_node, laid_word, stored, with_pair}
use Rattle.planting.specs.Plantings.{all_pieces, capped, end_piece, piece_word, planted_words, root_piece, within_none, zero_beyond}

-- a word that is changed is one more that the node holds
pub one_more : (old new : Contents) (n : NodeNo) (part : NodeWord) (v : ℕ) → n.0 < all_nodes old.layout → IsChanged old new (Node n part) v → (f : NodeWord → ℕ) → HoldsNode old n f → HoldsNode new n (stored f part v)
one_more old new n part v there c f holds q = go (same_node_word part q) refl
  where
    go : (b : Bool) → same_node_word part q ≡ b → word_at new (Node n q) ≡ stored f part v q
    go true e = rw e (ap (λ k. word_at new (Node n k)) (sym (part_same part q e)) ∙ c.changed)
    go false e = rw e (c.others (Node n q) there (word_apart (Node n part) (Node n q) (rw (eq-eqb n.0 n.0 refl, e) refl)) ∙ holds q)

-- and leaves those of all others
pub leaves_one : (old new : Contents) (n : NodeNo) (part : NodeWord) (v : ℕ) → IsChanged old new (Node n part) v → LeavesOthers old new n
leaves_one old new n part v c = record {
  layout = c.layout;
  others = others;
}
  where
    others : (w : Word) → IsWord old.layout w → is_of_node n w ≡ false → word_at new w ≡ word_at old w
    others (Node m q) i e = c.others (Node m q) i (word_apart (Node n part) (Node m q) (rw e refl))
    others (Scx s q) i e = c.others (Scx s q) i (word_apart (Node n part) (Scx s q) refl)

pub leaves_both : (a b c : Contents) (n : NodeNo) → LeavesOthers a b n → LeavesOthers b c n → LeavesOthers a c n
leaves_both a b c n one two = record {
  layout = two.layout ∙ one.layout;
  others = λ w i e. two.others w (subst (λ l. IsWord l w) (sym one.layout) i) e ∙ one.others w i e;
}

-- a leaf's words, once its head, its count and its pairs are there
pub leaf_laid : (p : Piece) (f : NodeWord → ℕ) → is_leaf_piece p ≡ true → ((q : NodeWord) → is_laid p q ≡ false → f q ≡ 0) → (q : NodeWord) → with_pair (with_pair (with_pair (with_pair (as_piece (as_piece f p (Settled Head)) p (Settled More)) p First) p Second) p Third) p Fourth q ≡ word_of p q
leaf_laid (Leaf level class pairs) f is blank (Settled Head) = refl
leaf_laid (Leaf level class pairs) f is blank (Settled More) = refl
leaf_laid (Leaf level class pairs) f is blank (Settled (Key First)) = refl
leaf_laid (Leaf level class pairs) f is blank (Settled (Key Second)) = refl
leaf_laid (Leaf level class pairs) f is blank (Settled (Key Third)) = refl
leaf_laid (Leaf level class pairs) f is blank (Settled (Key Fourth)) = refl
leaf_laid (Leaf level class pairs) f is blank (Settled (Value First)) = refl
leaf_laid (Leaf level class pairs) f is blank (Settled (Value Second)) = refl
leaf_laid (Leaf level class pairs) f is blank (Settled (Value Third)) = refl
leaf_laid (Leaf level class pairs) f is blank (Settled (Value Fourth)) = refl
leaf_laid (Leaf level class pairs) f is blank (Settled (High First)) = refl
leaf_laid (Leaf level class pairs) f is blank (Settled (High Second)) = refl
leaf_laid (Leaf level class pairs) f is blank (Settled (High Third)) = refl
leaf_laid (Leaf level class pairs) f is blank (Settled (High Fourth)) = refl
leaf_laid (Leaf level class pairs) f is blank (Child side) = blank (Child side) refl
leaf_laid (Leaf level class pairs) f is blank Info = blank Info refl
leaf_laid (Leaf level class pairs) f is blank Marked = blank Marked refl
leaf_laid (Fork level class key l r) f is blank q = absurd (let z : false ≡ true = is in cc)

-- it has no field
pub leaf_words : (most : ℕ) (p : Piece) → is_leaf_piece p ≡ true → (q : NodeWord) → word_of p q ≡ laid_word most p q
leaf_words most (Leaf level class pairs) is (Settled part) = refl
leaf_words most (Leaf level class pairs) is (Child side) = sym (within_none most)
leaf_words most (Leaf level class pairs) is Info = refl
leaf_words most (Leaf level class pairs) is Marked = refl
leaf_words most (Fork level class key l r) is q = absurd (let z : false ≡ true = is in cc)

-- a fork's, once its head, its key and its fields are there
pub fork_laid : (most : ℕ) (p : Piece) (f : NodeWord → ℕ) → is_leaf_piece p ≡ false → ((q : NodeWord) → is_laid p q ≡ false → f q ≡ 0) → (q : NodeWord) → stored (stored (as_piece (as_piece f p (Settled Head)) p (Settled (Key First))) (Child Left) (capped most (word_of p (Child Left)))) (Child Right) (capped most (word_of p (Child Right))) q ≡ laid_word most p q
fork_laid most (Fork level class key l r) f is blank (Settled Head) = refl
fork_laid most (Fork level class key l r) f is blank (Settled More) = blank (Settled More) refl
fork_laid most (Fork level class key l r) f is blank (Settled (Key First)) = refl
fork_laid most (Fork level class key l r) f is blank (Settled (Key Second)) = blank (Settled (Key Second)) refl
fork_laid most (Fork level class key l r) f is blank (Settled (Key Third)) = blank (Settled (Key Third)) refl
fork_laid most (Fork level class key l r) f is blank (Settled (Key Fourth)) = blank (Settled (Key Fourth)) refl
fork_laid most (Fork level class key l r) f is blank (Settled (Value slot)) = blank (Settled (Value slot)) refl
fork_laid most (Fork level class key l r) f is blank (Settled (High slot)) = blank (Settled (High slot)) refl
fork_laid most (Fork level class key l r) f is blank (Child Left) = refl
fork_laid most (Fork level class key l r) f is blank (Child Right) = refl
fork_laid most (Fork level class key l r) f is blank Info = blank Info refl
fork_laid most (Fork level class key l r) f is blank Marked = blank Marked refl
fork_laid most (Leaf level class pairs) f is blank q = absurd (let z : true ≡ false = is in cc)

-- what is laid is what is planted
pub laid_planted : (ps : List Piece) (n : NodeNo) (p : Piece) → ((part : NodeWord) → piece_word ps n.0 part ≡ word_of p part) → (q : NodeWord) → laid_word (length ps) p q ≡ planted_words ps (Node n q)
laid_planted ps n p is (Settled part) = sym (is (Settled part))
laid_planted ps n p is (Child side) = ap (capped (length ps)) (sym (is (Child side)))
laid_planted ps n p is Info = refl
laid_planted ps n p is Marked = refl

-- the nodes of an empty map have nothing but what the root and the two leaves have
pub root_blank : (top : ℕ) (n : NodeNo) → n.0 ≡ 0 → (q : NodeWord) → is_laid (root_piece top) q ≡ false → tree_opening (Node n q) ≡ 0
root_blank top n e (Settled Head) none = absurd (let z : true ≡ false = none in cc)
root_blank top n e (Settled More) none = refl
root_blank top n e (Settled (Key slot)) none = refl
root_blank top n e (Settled (Value slot)) none = refl
root_blank top n e (Settled (High slot)) none = refl
root_blank top n e (Child side) none = absurd (let z : true ≡ false = none in cc)
root_blank top n e Info none = refl
root_blank top n e Marked none = refl

pub end_blank : (level class : ℕ) (n : NodeNo) → 0 < n.0 → (q : NodeWord) → is_laid (end_piece level class) q ≡ false → tree_opening (Node n q) ≡ 0
end_blank level class n l (Settled part) none = absurd (let z : true ≡ false = none in cc)
end_blank level class n l (Child Left) none = rw (ne_eqb n.0 0 (λ e. omega (arith, l, e))) refl
end_blank level class n l (Child Right) none = rw (ne_eqb n.0 0 (λ e. omega (arith, l, e))) refl
end_blank level class n l Info none = refl
end_blank level class n l Marked none = refl

-- a node that is laid holds what is planted there
pub laid_at : (c : Contents) (ps : List Piece) (n : NodeNo) (given p : Piece) (most : ℕ) → most ≡ length ps → given ≡ p → HoldsNode c n (laid_word most given) → ((part : NodeWord) → piece_word ps n.0 part ≡ word_of p part) → (part : NodeWord) → word_at c (Node n part) ≡ planted_words ps (Node n part)
laid_at c ps n given p most m e holds is part = holds part ∙ (λ i. laid_word (m i) (e i) part) ∙ laid_planted ps n p is part

word_there : (ps : List Piece) (i : ℕ) (p : Piece) (part : NodeWord) → slice_get ps i ≡ Some p → piece_word ps i part ≡ word_of p part
word_there [] i p part e = absurd (let z : None ≡ Some p = e in cc)
word_there (q ∷ qs) zero p part e = ap (λ r. word_of r part) (the_same q p e)
word_there (q ∷ qs) (suc i) p part e = word_there qs i p part e

beyond_crown : (nodes : List Piece) (n : ℕ) (part : NodeWord) → 3 ≤ n → piece_word (all_pieces nodes) n part ≡ piece_word nodes (n - 3) part
beyond_crown nodes zero part l = absurd (omega (arith, l))
beyond_crown nodes (suc zero) part l = absurd (omega (arith, l))
beyond_crown nodes (suc (suc zero)) part l = absurd (omega (arith, l))
beyond_crown nodes (suc (suc (suc n))) part l = ap (λ k. piece_word nodes k part) (omega arith)

-- beyond the root and the two leaves is the row
pub piece_there : (nodes : List Piece) (at : ℕ) (p : Piece) → slice_get nodes at ≡ Some p → (part : NodeWord) → piece_word (all_pieces nodes) (3 + at) part ≡ word_of p part
piece_there nodes at p e part = beyond_crown nodes (3 + at) part (omega arith) ∙ ap (λ k. piece_word nodes k part) (omega arith) ∙ word_there nodes at p part e

-- what holds of the first three holds of each of them
pub of_three : (P : ℕ → Type 0) → P 0 → P 1 → P 2 → (k : ℕ) → k < 3 → P k
of_three P a b c zero l = a
of_three P a b c (suc zero) l = b
of_three P a b c (suc (suc zero)) l = c
of_three P a b c (suc (suc (suc k))) l = absurd (omega (arith, l))

-- a word of another node
pub of_other : (n m : NodeNo) (part : NodeWord) → (n.0 ≡ m.0 → ⊥) → is_of_node n (Node m part) ≡ false
of_other n m part d = ne_eqb n.0 m.0 d

-- what holds below a number and of it holds up to it
pub up_to : (n : ℕ) (P : ℕ → Type 0) → ((k : ℕ) → k < n → P k) → P n → (k : ℕ) → k ≤ n → P k
up_to n P below here k l = go (dec_lt k n)
  where
    go : Dec (k < n) → P k
    go (yes less) = below k less
    go (no d) = subst P (let e : n ≡ k = omega (arith, d, l) in e) here

-- all words, once all nodes are laid
pub planted_all : (c : Contents) (nodes : List Piece) (at : ℕ) → length nodes ≤ at
    → ((n : NodeNo) (part : NodeWord) → n.0 < 3 + at → word_at c (Node n part) ≡ planted_words (all_pieces nodes) (Node n part))
    → ((n : NodeNo) (part : NodeWord) → 3 + at ≤ n.0 → n.0 < all_nodes c.layout → word_at c (Node n part) ≡ 0)
    → ((s : ScxNo) (part : ScxWord) → IsWord c.layout (Scx s part) → word_at c (Scx s part) ≡ records_opening (Scx s part))
    → (w : Word) → IsWord c.layout w → word_at c w ≡ planted_words (all_pieces nodes) w
planted_all c nodes at end done blank records (Node n part) i = go (dec_lt n.0 (3 + at))
  where
    go : Dec (n.0 < 3 + at) → word_at c (Node n part) ≡ planted_words (all_pieces nodes) (Node n part)
    go (yes l) = done n part l
    go (no d) = blank n part (omega (arith, d)) i ∙ sym (zero_beyond (all_pieces nodes) n.0 part (omega (arith, d, end)))
planted_all c nodes at end done blank records (Scx s part) i = records s part i
