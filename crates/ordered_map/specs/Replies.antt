-- Replies in words: what they say of the map.
use Rattle.std.specs.Prelude.{ℕ, map, Option, Some, None}
use Rattle.std.specs.Option.{option_map}
use Rattle.ordered_map.specs.declared.pair.Pair.{Pair}
use Rattle.ordered_map.specs.declared.reply.Reply.{Reply}
use Rattle.ordered_map.specs.declared.reply.Reply.TheVariants.{Value, Pair as PairOf, Pairs}
use Rattle.ordered_map.specs.OrderedMap.{MapReply, OneValue, ManyPairs, pair, pair_or_none}

-- the pair of the words of a key and a value
abbrev pub word_pair : {K V : Type 0} → (K → ℕ) → (V → ℕ) → K × V → Pair
word_pair key value p = pair (key p.0) (value p.1)

-- what a reply says of the map of words, where `key` and `value` give the words of keys and
-- values; a refusal says nothing
abbrev pub told_of : {K V : Type 0} → (K → ℕ) → (V → ℕ) → Reply K V → Option MapReply
told_of key value (Value v) = Some (OneValue (option_map value v))
told_of key value (PairOf p) = Some (pair_or_none (option_map (word_pair key value) p))
told_of key value (Pairs ps) = Some (ManyPairs (map (word_pair key value) ps.items))
told_of key value _ = None

-- what a reply of numbers says of the map
abbrev pub number_reply : Reply ℕ ℕ → Option MapReply
number_reply = told_of (λ n. n) (λ n. n)

-- the value that is answered, or that there is none, whichever kind of reply says so
abbrev pub one_value : Option MapReply → Option (Option ℕ)
one_value (Some (OneValue told)) = Some told
one_value _ = None
