-- What a reply of keys and values has of one in words.
use Rattle.std.specs.Prelude.{◌≡◌, ◌⊎◌, ℕ, map, All, List, Option, Some, None, IfSome}
use Rattle.std.specs.Option.{option_map}
use Rattle.histories.specs.Common.{History, Call}
use Rattle.template.specs.Common.{MapReply, Pair, form_of, told_of, Reply}
use Rattle.ordered_map.specs.CallRules.{Pairs, NoMemory}
use Rattle.dict.specs.Known.{MapAnswers}
use Rattle.dict.specs.Typed.{AreTyped, IsTypedReply}
use Rattle.dict.specs.Words.{IsWordOf, IsPairWord, IsValidPair, IsValidReply}
use Rattle.ordered_map.specs.Replies.{word_pair}
use Rattle.dict.specs.WordReplies.{WordReply, told_in, word_form}
use Rattle.dict.specs.declared.run.MapRun.{MapRun}
use Rattle.ordered_map.specs.declared.reply.Reply.TheVariants as replies

-- The pair has a key and a value of their types, and these are its words; and if these words are of
-- such ones, there is the pair.
pub record IsPairOf {K V : Type 0} (valid_key : K → Type 0) (key : K → ℕ) (valid_value : V → Type 0) (value : V → ℕ) (words : Option Pair) (pair : Option (K × V)) : Type 0 where
  pub valid : IfSome pair (IsValidPair valid_key valid_value)
  pub own : IfSome pair (λ p. words ≡ Some (word_pair key value p))
  pub words_are : IfSome words (IsPairWord valid_key key valid_value value) → option_map (word_pair key value) pair ≡ words

-- So it is with all of these pairs.
pub record ArePairsOf {K V : Type 0} (valid_key : K → Type 0) (key : K → ℕ) (valid_value : V → Type 0) (value : V → ℕ) (words : List Pair) (pairs : List (K × V)) : Type 0 where
  pub valid : All (IsValidPair valid_key valid_value) pairs
  pub words_are : AreTyped (IsWordOf valid_key key) (IsWordOf valid_value value) words → map (word_pair key value) pairs ≡ words

-- what is answered is of such words
abbrev pub TellsTyped : (ℕ → Type 0) → (ℕ → Type 0) → Option MapReply → Type 0
TellsTyped keys values None = Unit {0}
TellsTyped keys values (Some told) = IsTypedReply keys values told

-- It refuses what the other refuses; or it says the same of the map, or there was no memory for
-- the pairs.
abbrev pub SaysSame : {K V : Type 0} → (K → ℕ) → (V → ℕ) → WordReply → Reply K V → Type 0
SaysSame key value (WordReply.Contended node scx) reply = reply ≡ replies.Contended node scx
SaysSame key value (WordReply.Full full) reply = reply ≡ replies.Full full
SaysSame key value WordReply.NoMemory reply = reply ≡ replies.NoMemory
SaysSame key value (WordReply.Value told) reply = told_of key value reply ≡ told_in (WordReply.Value told)
SaysSame key value (WordReply.Pair told) reply = told_of key value reply ≡ told_in (WordReply.Pair told)
SaysSame key value (WordReply.Pairs told) reply = (told_of key value reply ≡ told_in (WordReply.Pairs told)) ⊎ (reply ≡ replies.NoMemory)

-- it is of the same form; or there was no memory for the pairs
abbrev pub HasFormOf : {K V : Type 0} → WordReply → Reply K V → Type 0
HasFormOf told reply = (form_of reply ≡ word_form told) ⊎ ((word_form told ≡ Pairs) × (form_of reply ≡ NoMemory))

-- The reply has keys and values of their types, and is in place of this one in words.
pub record IsReplyOf {K V : Type 0} (valid_key : K → Type 0) (key : K → ℕ) (valid_value : V → Type 0) (value : V → ℕ) (told : WordReply) (reply : Reply K V) : Type 0 where
  pub valid : IsValidReply valid_key valid_value reply
  -- it says the same if the words that are answered are of a key or of a value
  pub says : TellsTyped (IsWordOf valid_key key) (IsWordOf valid_value value) (told_in told) → SaysSame key value told reply
  pub form : HasFormOf told reply

-- it is in place of a right answer of the machine
abbrev pub MapReplies : {K V : Type 0} → (K → Type 0) → (K → ℕ) → (V → Type 0) → (V → ℕ) → ℕ → MapRun → Call → History → Reply K V → Type 0
MapReplies valid_key key valid_value value tries m c h reply = (told : WordReply) × MapAnswers tries m c h told × IsReplyOf valid_key key valid_value value told reply
