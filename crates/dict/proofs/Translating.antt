-- The pairs of words, one after another.
use Rattle.std.proofs.Common.{◌≡◌, ℕ, ◌+◌, ◌<◌, List, [], ◌∷◌, ◌++◌, Some, None, length, ◌∙◌, take, slice_index_or}
use Rattle.std.proofs.lemmas.List.{take_more, map-append}
use Rattle.std.proofs.lemmas.List.Elements.{All-push}
use Rattle.ordered_map.specs.declared.pair.Pair.{Pair}
use Rattle.dict.specs.Translated.{ArePairsOf, IsPairOf}
use Rattle.dict.specs.Typed.{AreTyped}
use Rattle.dict.specs.Words.{IsWordOf, IsValidPair}
use Rattle.ordered_map.specs.Replies.{word_pair}

-- the parts of a list of typed words are typed
typed_first : (keys values : ℕ → Type 0) (ps qs : List Pair) → AreTyped keys values (ps ++ qs) → AreTyped keys values ps
typed_first keys values [] qs x = tt
typed_first keys values (p ∷ ps) qs x = (x.0, x.1, typed_first keys values ps qs x.2)

typed_last : (keys values : ℕ → Type 0) (ps : List Pair) (q : Pair) → AreTyped keys values (ps ++ q ∷ []) → keys q.key × values q.value
typed_last keys values [] q x = (x.0, x.1)
typed_last keys values (p ∷ ps) q x = typed_last keys values ps q x.2

module _ {K V : Type 0} (valid_key : K → Type 0) (key : K → ℕ) (valid_value : V → Type 0) (value : V → ℕ) where
  -- one pair more
  pub pair_more : (words : List Pair) (i : ℕ) (d : Pair) (pairs more : List (K × V)) (pair : K × V) → i < length words → ArePairsOf valid_key key valid_value value (take i words) pairs → IsPairOf valid_key key valid_value value (Some (slice_index_or words i d)) (Some pair) → more ≡ pairs ++ pair ∷ [] → ArePairsOf valid_key key valid_value value (take (i + 1) words) more
  pair_more words i d pairs more pair lt x y e = rw (take_more words i d lt, e) record {
    valid = All-push (IsValidPair valid_key valid_value) pairs pair x.valid y.valid;
    words_are = λ t.
        map-append (word_pair key value) pairs (pair ∷ [])
        ∙ (λ j. x.words_are (typed_first (IsWordOf valid_key key) (IsWordOf valid_value value) (take i words) (slice_index_or words i d ∷ []) t) j ++ (one (typed_last (IsWordOf valid_key key) (IsWordOf valid_value value) (take i words) (slice_index_or words i d) t) j ∷ []));
  }
    where
      one : IsWordOf valid_key key (slice_index_or words i d).key × IsWordOf valid_value value (slice_index_or words i d).value → word_pair key value pair ≡ slice_index_or words i d
      one t = let p : Some (word_pair key value pair) ≡ Some (slice_index_or words i d) = y.words_are t in cc

  -- what is none is left out, and then the words are not typed
  pub pair_less : (words : List Pair) (i : ℕ) (d : Pair) (pairs : List (K × V)) → i < length words → ArePairsOf valid_key key valid_value value (take i words) pairs → IsPairOf valid_key key valid_value value (Some (slice_index_or words i d)) None → ArePairsOf valid_key key valid_value value (take (i + 1) words) pairs
  pair_less words i d pairs lt x y = rw (take_more words i d lt) record {
    valid = x.valid;
    words_are = λ t. absurd (none (typed_last (IsWordOf valid_key key) (IsWordOf valid_value value) (take i words) (slice_index_or words i d) t));
  }
    where
      none : IsWordOf valid_key key (slice_index_or words i d).key × IsWordOf valid_value value (slice_index_or words i d).value → ⊥
      none t = let p : None ≡ Some (slice_index_or words i d) = y.words_are t in cc
