-- What a word of the command line says.
use Rattle.std.specs.Prelude.{◌≤◌, ℕ, List}
use Rattle.std.specs.Str.Parse.{IsNumeral, digits_value, without_leading_plus}

-- the number that the word says in decimal digits, after a plus sign or none
abbrev pub number_in : List ℕ → ℕ
number_in word = digits_value 10 (without_leading_plus word)

-- the word is such digits alone, and its number is from `least` to `most`
abbrev pub IsNumberWithin : ℕ → ℕ → List ℕ → Type 0
IsNumberWithin least most word = IsNumeral 10 (without_leading_plus word) × (least ≤ number_in word) × (number_in word ≤ most)
