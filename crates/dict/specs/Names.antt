-- The words of short names.
use Rattle.std.specs.Prelude.{◌≡◌, ℕ, ◌≤◌, ◌-◌, ◌==◌, Bool, true, if◌then◌else◌, ◌&&◌, List, [], ◌∷◌, ◌++◌, length}
use Rattle.std.specs.List.{list_all, repeat}
use Rattle.std.specs.Char.{is_ascii_graphic}
use Rattle.std.specs.Int.{w64, from_be_bytes, to_be_bytes}

-- the bytes of a name: at most 8 characters from '!' to '~'
abbrev pub IsName : List ℕ → Type 0
IsName bs = (length bs ≤ 8) × (list_all is_ascii_graphic bs ≡ true)

-- these bytes, and as many zeros after them as make them 8
abbrev pub zero_padded : List ℕ → List ℕ
zero_padded bs = bs ++ repeat (8 - length bs) (0 ∷ [])

-- the word of a name: the first character is the most significant byte
unfoldable pub name_word : List ℕ → ℕ
name_word bs = from_be_bytes w64 (zero_padded bs)

-- characters from '!' to '~', and zero bytes alone after them
abbrev pub is_padded : List ℕ → Bool
is_padded [] = true
is_padded (b ∷ bs) =
    if b == 0 then list_all (λ c. c == 0) bs
    else is_ascii_graphic b && is_padded bs

-- a word that is a name's
unfoldable pub is_name_word : ℕ → Bool
is_name_word w = is_padded (to_be_bytes w64 w)
