-- What laying a node into a table leaves in its words.
use Rattle.std.specs.Prelude.{◌≡◌, ℕ, ◌==◌, Bool, true, false, if◌then◌else◌}
use Rattle.arena.specs.declared.number.NodeNo.{NodeNo}
use Rattle.arena.specs.declared.word.NodeWord.{NodeWord}
use Rattle.arena.specs.declared.word.NodeWord.TheVariants.{Settled, Child}
use Rattle.arena.specs.declared.word.SettledPart.TheVariants.{Head, Key, Value, High}
use Rattle.arena.specs.declared.word.Slot.{Slot}
use Rattle.arena.specs.declared.word.Slot.TheVariants.{First}
use Rattle.arena.specs.declared.word.Word.{Word}
use Rattle.arena.specs.declared.word.Word.TheVariants.{Node, Scx}
use Rattle.arena.specs.Layout.{IsWord}
use Rattle.arena.specs.PlainWords.{Contents, word_at}
use Rattle.arena.specs.Words.{same_node_word}
use Rattle.edits.specs.declared.piece.Piece.{Piece}
use Rattle.edits.specs.declared.piece.Piece.TheVariants.{Leaf, Fork}
use Rattle.edits.specs.Pieces.{word_of}
use Rattle.planting.specs.Plantings.{capped}

-- the words of this node hold these
abbrev pub HoldsNode : Contents → NodeNo → (NodeWord → ℕ) → Type 0
HoldsNode c n f = (q : NodeWord) → word_at c (Node n q) ≡ f q

-- what they hold once one of them is given this value
abbrev pub stored : (NodeWord → ℕ) → NodeWord → ℕ → NodeWord → ℕ
stored f part v q = if same_node_word part q then v else f q

-- and once it is given what the piece says
abbrev pub as_piece : (NodeWord → ℕ) → Piece → NodeWord → NodeWord → ℕ
as_piece f p part = stored f part (word_of p part)

-- and once those of the pair in this slot are
abbrev pub with_pair : (NodeWord → ℕ) → Piece → Slot → NodeWord → ℕ
with_pair f p slot = as_piece (as_piece (as_piece f p (Settled (Key slot))) p (Settled (Value slot))) p (Settled (High slot))

-- what a word of the node is to hold, where only the nodes below `most` are there
abbrev pub laid_word : ℕ → Piece → NodeWord → ℕ
laid_word most p (Settled part) = word_of p (Settled part)
laid_word most p (Child side) = capped most (word_of p (Child side))
laid_word most p _ = 0

-- whether the word is one that such a node has
abbrev pub is_laid : Piece → NodeWord → Bool
is_laid (Leaf level class pairs) (Settled part) = true
is_laid (Fork level class key l r) (Settled Head) = true
is_laid (Fork level class key l r) (Settled (Key First)) = true
is_laid (Fork level class key l r) (Child side) = true
is_laid _ _ = false

-- all others of the node are 0
abbrev pub HoldsNoOther : Contents → NodeNo → Piece → Type 0
HoldsNoOther c n p = (q : NodeWord) → is_laid p q ≡ false → word_at c (Node n q) ≡ 0

-- whether it is a word of this node
abbrev pub is_of_node : NodeNo → Word → Bool
is_of_node n (Node m part) = n.0 == m.0
is_of_node n (Scx s part) = false

-- no word has changed but those of this node
pub record LeavesOthers (old new : Contents) (n : NodeNo) : Type 0 where
  pub layout : new.layout ≡ old.layout
  pub others : (w : Word) → IsWord old.layout w → is_of_node n w ≡ false → word_at new w ≡ word_at old w
