-- Pairs of keys and values of their types, in words.
use Rattle.std.proofs.Common.{◌≡◌, ℕ, ◌+◌, ◌^◌, ◌<◌, List, [], ◌∷◌, ◌++◌, length, map, take, slice_index_or, refl, sym, ◌∙◌, ap}
use Rattle.std.specs.List.{All}
use Rattle.std.proofs.lemmas.List.{take_more, map-append}
use Rattle.std.proofs.lemmas.List.Elements.{All-push, All-head, All-tail}
use Rattle.ordered_map.specs.declared.pair.Pair.{Pair}
use Rattle.ordered_map.specs.OrderedMap.{AllBelow}
use Rattle.ordered_map.specs.Replies.{word_pair}
use Rattle.dict.specs.Typed.{AreTyped}
use Rattle.dict.specs.Words.{IsValidPair, IsWordOf}

module _ {K V : Type 0} (valid_key : K → Type 0) (key : K → ℕ) (valid_value : V → Type 0) (value : V → ℕ) where
  -- one pair more
  pub words_more : (pairs : List (K × V)) (i : ℕ) (d : K × V) (words more : List Pair) → i < length pairs → words ≡ map (word_pair key value) (take i pairs) → more ≡ words ++ word_pair key value (slice_index_or pairs i d) ∷ [] → more ≡ map (word_pair key value) (take (i + 1) pairs)
  words_more pairs i d words more inside is e = e ∙ ap (λ ws. ws ++ word_pair key value (slice_index_or pairs i d) ∷ []) is ∙ sym (map-append (word_pair key value) (take i pairs) (slice_index_or pairs i d ∷ [])) ∙ ap (map (word_pair key value)) (sym (take_more pairs i d inside))

  pub valid_more : (pairs : List (K × V)) (i : ℕ) (d : K × V) → i < length pairs → All (IsValidPair valid_key valid_value) (take i pairs) → IsValidPair valid_key valid_value (slice_index_or pairs i d) → All (IsValidPair valid_key valid_value) (take (i + 1) pairs)
  valid_more pairs i d inside x y = rw (take_more pairs i d inside) (All-push (IsValidPair valid_key valid_value) (take i pairs) (slice_index_or pairs i d) x y)

  -- the keys of such pairs are words
  pub words_below : ((k : K) → valid_key k → key k < 2 ^ 64) → (pairs : List (K × V)) → All (IsValidPair valid_key valid_value) pairs → AllBelow (2 ^ 64) (map (word_pair key value) pairs)
  words_below fits [] x = tt
  words_below fits (p ∷ ps) x = (fits p.0 (All-head (IsValidPair valid_key valid_value) p ps x).0, words_below fits ps (All-tail (IsValidPair valid_key valid_value) p ps x))

  -- and all are of their types
  pub words_typed : (pairs : List (K × V)) → All (IsValidPair valid_key valid_value) pairs → AreTyped (IsWordOf valid_key key) (IsWordOf valid_value value) (map (word_pair key value) pairs)
  words_typed [] x = tt
  words_typed (p ∷ ps) x = let v = All-head (IsValidPair valid_key valid_value) p ps x in ((p.0, v.0, refl), (p.1, v.1, refl), words_typed ps (All-tail (IsValidPair valid_key valid_value) p ps x))
