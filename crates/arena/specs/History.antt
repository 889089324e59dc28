-- Histories: rows over the opening words of a table, what each
-- word holds after them, and the moments before.
use Rattle.std.specs.Prelude.{◌≡◌, ℕ, if◌then◌else◌, ◌⊎◌, List, [], ◌∷◌}
use Rattle.arena.specs.declared.limits.Mode.{Mode}
use Rattle.arena.specs.declared.word.Word.{Word}
use Rattle.arena.specs.declared.step.Row.{Row}
use Rattle.arena.specs.Openings.{Opening, empty}
use Rattle.arena.specs.Words.{same_word}

infixr 60 ◌⊳◌
-- the rows made so far, the newest in front, over an opening
pub data History : Type 0 where
  -- no row yet: every word holds its opening word
  Opened : Opening → History
  -- the history h with the row r after it, written `r ⊳ h`
  ◌⊳◌ : Row → History → History

-- no row yet in an empty table of this mode
abbrev pub Start : Mode → History
Start mode = Opened (empty mode)

-- what a word holds after a history: what the last row on that word left in it, or its opening word
unfoldable pub value : History → Word → ℕ
value (Opened o) w = o.words w
value (r ⊳ h) w = if same_word r.word w then r.after else value h w

-- the word holds v after the history, or has held it after a beginning of the history
unfoldable pub HasHeld : History → Word → ℕ → Type 0
unfolding value
HasHeld (Opened o) w v = value (Opened o) w ≡ v
HasHeld (r ⊳ h) w v = (value (r ⊳ h) w ≡ v) ⊎ HasHeld h w v

-- m is a moment of the history: the whole of it, or the history as it was before its newest rows
abbrev pub Extends : History → History → Type 0
Extends (Opened o) m = m ≡ Opened o
Extends (r ⊳ h) m = (m ≡ r ⊳ h) ⊎ Extends h m

-- what the history is over
abbrev pub opening_of : History → Opening
opening_of (Opened o) = o
opening_of (r ⊳ h) = opening_of h

-- the history with these rows after it, the first of the list made first
abbrev pub rows_after : History → List Row → History
rows_after h [] = h
rows_after h (r ∷ rows) = rows_after (r ⊳ h) rows
