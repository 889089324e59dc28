-- What the words of a table hold.
use Rattle.std.specs.Prelude.{◌≡◌, ◌≢◌, ℕ, List, slice_index}
use Rattle.arena.specs.declared.layout.Layout.{Layout}
use Rattle.arena.specs.declared.word.Word.{Word}
use Rattle.arena.specs.Layout.{place, opening, IsWord}

-- a table's layout, and its words by their places
pub record Contents : Type 0 where
  pub layout : Layout
  pub words : List ℕ

-- what a word holds
abbrev pub word_at : Contents → Word → ℕ
word_at c w = slice_index c.words (place c.layout w)

-- the word holds this value now, and all other words are as they were
pub record IsChanged (old new : Contents) (word : Word) (value : ℕ) : Type 0 where
  pub layout : new.layout ≡ old.layout
  pub changed : word_at new word ≡ value
  pub others : (w : Word) → IsWord old.layout w → w ≢ word → word_at new w ≡ word_at old w

-- each word holds what it holds at the start
abbrev pub IsOpening : Contents → Type 0
IsOpening c = (w : Word) → IsWord c.layout w → word_at c w ≡ opening c.layout.mode w
