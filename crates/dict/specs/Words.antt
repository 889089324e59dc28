-- Typed keys, values, calls and replies in words. `word` gives the word of a key, or the
-- number of a value, which has two words; `valid` says whether it is one of its type.
use Rattle.std.specs.Prelude.{◌≡◌, ℕ, ◌^◌, ◌<◌, List, [], ◌∷◌, All, IfSome}
use Rattle.template.specs.Common.{wide_value, Pair, Reply}
use Rattle.ordered_map.specs.declared.reply.Reply.TheVariants.{Value, Pair as PairOf, Pairs}

-- the word of a key, or the number of a value
abbrev pub IsWordOf : {T : Type 0} → (T → Type 0) → (T → ℕ) → ℕ → Type 0
IsWordOf {T} valid word n = (x : T) × valid x × (word x ≡ n)

-- the word of a number that is a key itself: each of 64 bits, and itself
abbrev pub IsNumber : ℕ → Type 0
IsNumber = IsWordOf (λ n. n < 2 ^ 64) (λ n. n)

-- the number of one that is a value itself: each of 128 bits
abbrev pub IsWideNumber : ℕ → Type 0
IsWideNumber = IsWordOf (λ n. n < 2 ^ 128) (λ n. n)

-- the number of two words, the high one first
abbrev pub number_of_words : List ℕ → ℕ
number_of_words (high ∷ low ∷ []) = wide_value low high
number_of_words _ = 0

-- a pair of such words
abbrev pub IsPairWord : {K V : Type 0} → (K → Type 0) → (K → ℕ) → (V → Type 0) → (V → ℕ) → Pair → Type 0
IsPairWord valid_key key valid_value value p = IsWordOf valid_key key p.key × IsWordOf valid_value value p.value

-- a pair of a key and a value of their types
abbrev pub IsValidPair : {K V : Type 0} → (K → Type 0) → (V → Type 0) → K × V → Type 0
IsValidPair valid_key valid_value p = valid_key p.0 × valid_value p.1

-- the keys and the values of a reply are those of their types
abbrev pub IsValidReply : {K V : Type 0} → (K → Type 0) → (V → Type 0) → Reply K V → Type 0
IsValidReply valid_key valid_value (Value v) = IfSome v valid_value
IsValidReply valid_key valid_value (PairOf p) = IfSome p (IsValidPair valid_key valid_value)
IsValidReply valid_key valid_value (Pairs ps) = All (IsValidPair valid_key valid_value) ps.items
IsValidReply valid_key valid_value _ = Unit {0}
