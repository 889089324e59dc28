-- In what the versions of a report differ.
use Rattle.std.proofs.Common.{◌≡◌, ◌<◌, ◌≤◌, ◌^◌, ℕ, zero, suc, List, [], ◌∷◌, ◌∙◌, ap, arith, decimal, drop, get_or, length, lit≤, map, refl, subst, sym}
use Rattle.std.specs.List.{AllByRecursion}
use Rattle.arena.specs.declared.word.NodeWord.{NodeWord}
use Rattle.arena.specs.declared.word.NodeWord.TheVariants.{Settled, Child, Info, Marked}
use Rattle.arena.specs.declared.word.SettledPart.TheVariants.{Head, More, Key, Value, High}
use Rattle.arena.specs.declared.word.Side.TheVariants.{Left, Right}
use Rattle.arena.specs.declared.word.Slot.{Slot}
use Rattle.arena.specs.declared.word.Slot.TheVariants.{First, Second, Third, Fourth}
use Rattle.record.specs.Common.{Request, PopFirst, IsCommand, asks_map, command_row, Command, Map}
use Rattle.script.specs.Commands.{IsArgument, MapArgument, OfCount, OfKey, OfValue, argument_text, request_arguments, three_fields}
use Rattle.std.proofs.lemmas.Fmt.{decimal_is_IsNumeral_wide}
use Rattle.std.specs.Str.Parse.{digits_value}
use Rattle.report.specs.Versions.{HasCommand, HasOneWord, HasPart, NamesFirstCall, value_limit, version_text}
use Rattle.report.specs.Words.{node_part}
use Rattle.report.specs.declared.version.Version.{Version}
use Rattle.report.specs.declared.version.Version.TheVariants.{One, Two}

-- a value of either has two words at most
pub small_value : (version : Version) (n : ℕ) → n < value_limit version → n < 2 ^ 128
small_value One n fits = omega (arith, fits)
small_value Two n fits = fits

-- they have different names
pub same_version : (version other : Version) → version_text version ≡ version_text other → version ≡ other
same_version One One is = refl
same_version Two Two is = refl
same_version One Two is = absurd (omega (arith, ap (λ (t : List ℕ). get_or t 0 0) is))
same_version Two One is = absurd (omega (arith, ap (λ (t : List ℕ). get_or t 0 0) is))

-- Words of nodes: one that the first version lacks has the name of no other

abbrev letter : ℕ → NodeWord → ℕ
letter k part = get_or (node_part part) k 0

high_letters : (slot : Slot) → (letter 0 (Settled (High slot)) ≡ 104) × (letter 1 (Settled (High slot)) ≡ 105)
high_letters First = (refl, refl)
high_letters Second = (refl, refl)
high_letters Third = (refl, refl)
high_letters Fourth = (refl, refl)

other_letters : (part : NodeWord) → HasPart One part → ¬ ((letter 0 part ≡ 104) × (letter 1 part ≡ 105))
other_letters (Settled Head) has is = omega (arith, is.1)
other_letters (Settled More) has is = omega (arith, is.0)
other_letters (Settled (Key First)) has is = omega (arith, is.0)
other_letters (Settled (Key Second)) has is = omega (arith, is.0)
other_letters (Settled (Key Third)) has is = omega (arith, is.0)
other_letters (Settled (Key Fourth)) has is = omega (arith, is.0)
other_letters (Settled (Value First)) has is = omega (arith, is.0)
other_letters (Settled (Value Second)) has is = omega (arith, is.0)
other_letters (Settled (Value Third)) has is = omega (arith, is.0)
other_letters (Settled (Value Fourth)) has is = omega (arith, is.0)
other_letters (Settled (High slot)) has is = has
other_letters (Child Left) has is = omega (arith, is.0)
other_letters (Child Right) has is = omega (arith, is.0)
other_letters Info has is = omega (arith, is.0)
other_letters Marked has is = omega (arith, is.0)

pub same_part : (version : Version) (part other : NodeWord) → node_part part ≡ node_part other → HasPart version other → HasPart version part
same_part One (Settled (High slot)) other is has =
    let letters = high_letters slot in
    other_letters other has (sym (ap (λ (t : List ℕ). get_or t 0 0) is) ∙ letters.0, sym (ap (λ (t : List ℕ). get_or t 1 0) is) ∙ letters.1)
same_part version part other is has = tt

-- Commands: their rows tell whether the first version has them

read_back : (n : ℕ) → n < 2 ^ 128 → digits_value 10 (decimal n) ≡ n
read_back n fits = (decimal_is_IsNumeral_wide n (omega (arith, fits))).1

-- all that is in the fields of arguments of one word has one word
field_is_short : (arguments : List MapArgument) (k : ℕ) → AllByRecursion IsArgument arguments → AllByRecursion HasOneWord arguments → digits_value 10 (get_or (map argument_text arguments) k []) < 2 ^ 64
field_is_short [] k fits short = omega arith
field_is_short (OfKey n ∷ rest) zero fits short = omega (arith, fits.0, read_back n (omega (arith, fits.0)))
field_is_short (OfValue n ∷ rest) zero fits short = omega (arith, short.0, read_back n fits.0)
field_is_short (OfCount n ∷ rest) zero fits short = omega (arith, fits.0, read_back n (omega (arith, fits.0)))
field_is_short (a ∷ rest) (suc k) fits short = field_is_short rest k fits.1 short.1

-- so what has the same fields has one word too
argument_is_short : (a : MapArgument) (text : List ℕ) → IsArgument a → argument_text a ≡ text → digits_value 10 text < 2 ^ 64 → HasOneWord a
argument_is_short (OfValue n) text fits is short = omega (arith, read_back n fits, ap (digits_value 10) is, short)
argument_is_short a text fits is short = tt

same_arguments : (arguments others : List MapArgument) → length arguments ≤ 3 → three_fields arguments ≡ three_fields others → AllByRecursion IsArgument arguments → AllByRecursion IsArgument others → AllByRecursion HasOneWord others → AllByRecursion HasOneWord arguments
same_arguments arguments others few is fits small has = go arguments few fits (λ k. ap (λ (row : List (List ℕ)). get_or row k []) is)
  where
    short : (k : ℕ) → digits_value 10 (get_or (map argument_text others) k []) < 2 ^ 64
    short k = field_is_short others k small has

    go : (of : List MapArgument) → length of ≤ 3 → AllByRecursion IsArgument of → ((k : ℕ) → get_or (three_fields of) k [] ≡ get_or (three_fields others) k []) → AllByRecursion HasOneWord of
    go [] few fits same = tt
    go (a ∷ []) few fits same = (argument_is_short a _ fits.0 (same 0) (short 0), tt)
    go (a ∷ b ∷ []) few fits same = (argument_is_short a _ fits.0 (same 0) (short 0), (argument_is_short b _ fits.1.0 (same 1) (short 1), tt))
    go (a ∷ b ∷ c ∷ []) few fits same =
        (argument_is_short a _ fits.0 (same 0) (short 0), (argument_is_short b _ fits.1.0 (same 1) (short 1), (argument_is_short c _ fits.1.1.0 (same 2) (short 2), tt)))
    go (a ∷ b ∷ c ∷ d ∷ of) few fits same = absurd (omega (arith, few))

few_arguments : (request : Request ℕ ℕ) → length (request_arguments request) ≤ 3
few_arguments PopFirst = lit≤ tt
few_arguments request = lit≤ tt

pub same_command : (version : Version) (command other : Command) → asks_map command ≡ asks_map other → IsCommand command → IsCommand other → command_row command ≡ command_row other → HasCommand version other → HasCommand version command
same_command One (Map request) (Map other) modes fits small is has = (
  subst NamesFirstCall (sym (ap (λ (row : List (List ℕ)). get_or row 0 []) is)) has.0,
  same_arguments (request_arguments request) (request_arguments other) (few_arguments request) (ap (drop 1) is) fits small has.1,
)
same_command One (Map request) other modes fits small is has = absurd cc
same_command Two (Map request) other modes fits small is has = tt
same_command version command other modes fits small is has = tt
