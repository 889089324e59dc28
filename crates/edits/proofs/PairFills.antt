-- What is filled after the words of a pair.
use Rattle.std.proofs.Common.{◌≡◌, ◌<◌, true, false, Some, refl, arith, lt-ltb, le-ltb}
use Rattle.histories.specs.Common.{NodeWord, Settled, Key, Value, High, Slot}
use Rattle.edits.specs.declared.piece.Piece.{Piece}
use Rattle.edits.specs.declared.piece.Piece.TheVariants.{Leaf, Fork}
use Rattle.edits.specs.Laws.PieceFills.{next_word}
use Rattle.edits.specs.Pieces.{is_filled, is_leaf_piece, part_behind, word_of}

-- what is filled after another word is filled
pub behind_filled : (p : Piece) (part next : NodeWord) → part_behind p part ≡ Some next → is_filled p next ≡ true
behind_filled p part next e = (next_word p part next e).is

-- after a leaf's key its value
pub value_behind_key : (p : Piece) (slot : Slot) → is_leaf_piece p ≡ true → is_filled p (Settled (Key slot)) ≡ true → part_behind p (Settled (Key slot)) ≡ Some (Settled (Value slot))
value_behind_key (Leaf level class ps) slot leaf filled = rw filled refl
value_behind_key (Fork level class key l r) slot leaf filled = absurd (let z : false ≡ true = leaf in cc)

-- after a value its high half, where that is not 0
pub high_behind_value : (p : Piece) (slot : Slot) → 0 < word_of p (Settled (High slot)) → part_behind p (Settled (Value slot)) ≡ Some (Settled (High slot))
high_behind_value (Leaf level class ps) slot some = rw (lt-ltb 0 (word_of (Leaf level class ps) (Settled (High slot))) some) refl
high_behind_value (Fork level class key l r) slot some = absurd (omega (arith, some))

-- and else what is filled after that
pub key_behind_value : (p : Piece) (slot : Slot) → word_of p (Settled (High slot)) ≡ 0 → part_behind p (Settled (Value slot)) ≡ part_behind p (Settled (High slot))
key_behind_value (Leaf level class ps) slot none = rw (le-ltb 0 (word_of (Leaf level class ps) (Settled (High slot))) (omega (arith, none))) refl
key_behind_value (Fork level class key l r) slot none = refl
