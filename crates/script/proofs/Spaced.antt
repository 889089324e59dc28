-- Numbers in a row, parted by one space.
use Rattle.std.proofs.Common.{◌≡◌, ℕ, ◌<◌, ◌≤◌, ◌^◌, List, [], ◌∷◌, ◌++◌, length, length-append, get_or, map, eqb, false, arith, refl, sym, ap, ◌∙◌, append-nil, All, decimal}
use Rattle.std.specs.List.{slice_split, join_with_byte}
use Rattle.std.proofs.lemmas.Bool.Decides.{nat_tests}
use Rattle.std.proofs.lemmas.Fmt.{decimal_is_IsNumeral, decimal_injective, decimal_nonempty}
use Rattle.std.proofs.lemmas.Grind.{get_or_default_zero}
use Rattle.std.proofs.lemmas.List.{get_or-map, length-map}
use Rattle.std.proofs.lemmas.List.Elements.{All-head, All-tail}
use Rattle.std.proofs.lemmas.List.Splits.{slice_split_none, slice_split_at, join_with_byte-slice_split, length-slice_split}
use Rattle.std.proofs.lemmas.Str.Parse.{digit_at}
use Rattle.script.specs.Commands.{spaced, numbers_text, IsCell, AreCells}

-- the parts of a text at its spaces
abbrev pub parts_of : List ℕ → List (List ℕ)
parts_of text = slice_split (λ b. eqb b 32) text

not_space : (b : ℕ) → 48 ≤ b → eqb b 32 ≡ false
not_space b digit = grind (arith, nat_tests)

-- a number's text has no space
pub no_space : (n : ℕ) → n < 2 ^ 64 → All (λ b. eqb b 32 ≡ false) (decimal n)
no_space n fits k d within =
    rw (get_or_default_zero (decimal n) k d within) (not_space _ (digit_at (decimal n) k (decimal_is_IsNumeral n fits).0.1 within).0)

pub small : (node : ℕ) → IsCell node → node < 2 ^ 64
small node cell = omega arith

parts_from : (n : ℕ) (ns : List ℕ) → All IsCell (n ∷ ns) → parts_of (decimal n ++ spaced ns) ≡ map decimal (n ∷ ns)
unfolding spaced
parts_from n [] all =
    rw (append-nil (decimal n)) (slice_split_none (λ b. eqb b 32) (decimal n) (no_space n (small n (All-head IsCell n [] all))))
parts_from n (m ∷ ns) all =
    slice_split_at (λ b. eqb b 32) (decimal n) 32 (decimal m ++ spaced ns) (no_space n (small n (All-head IsCell n (m ∷ ns) all))) refl ∙
    ap (λ parts. decimal n ∷ parts) (parts_from m ns (All-tail IsCell n (m ∷ ns) all))

-- between the spaces of cells' text are the cells' own texts
pub parts_are : (ns : List ℕ) → AreCells ns → parts_of (numbers_text ns) ≡ map decimal ns
parts_are [] cells = absurd (omega arith)
parts_are (n ∷ ns) cells = parts_from n ns cells.1

joined : (n : ℕ) (ns : List ℕ) → join_with_byte 32 (map decimal (n ∷ ns)) ≡ decimal n ++ spaced ns
unfolding spaced
joined n [] = sym (append-nil (decimal n))
joined n (m ∷ ns) = ap (λ text. decimal n ++ (32 ∷ text)) (joined m ns)

-- a text with these parts has these numbers, at least one, with one space between two
pub from_parts : (ns text : List ℕ) → parts_of text ≡ map decimal ns → (1 ≤ length ns) × (text ≡ numbers_text ns)
from_parts [] text parts = absurd (omega (arith, length-slice_split (λ b. eqb b 32) text, ap length parts))
from_parts (n ∷ ns) text parts =
    (omega arith, sym (join_with_byte-slice_split 32 text) ∙ ap (join_with_byte 32) parts ∙ joined n ns)

-- cells with the same texts are the same
pub same_cells : (xs ys : List ℕ) → All IsCell xs → All IsCell ys → map decimal xs ≡ map decimal ys → xs ≡ ys
same_cells [] [] all others same = refl
same_cells [] (y ∷ ys) all others same = absurd (omega (arith, ap length same))
same_cells (x ∷ xs) [] all others same = absurd (omega (arith, ap length same))
same_cells (x ∷ xs) (y ∷ ys) all others same =
    let first : decimal x ≡ decimal y = cc in
    let rest : map decimal xs ≡ map decimal ys = cc in
    let head : x ≡ y = decimal_injective x y (small x (All-head IsCell x xs all)) (small y (All-head IsCell y ys others)) first in
    let tail : xs ≡ ys = same_cells xs ys (All-tail IsCell x xs all) (All-tail IsCell y ys others) rest in
    cc

of_nothing : (ns : List ℕ) → All IsCell ns → numbers_text ns ≡ [] → ns ≡ []
of_nothing [] all empty = refl
of_nothing (n ∷ ns) all empty =
    absurd (omega (arith, decimal_nonempty n (small n (All-head IsCell n ns all)), length-append (decimal n) (spaced ns), ap length empty))

pub same_texts : (xs ys : List ℕ) → All IsCell xs → All IsCell ys → numbers_text xs ≡ numbers_text ys → xs ≡ ys
same_texts [] ys all others same = sym (of_nothing ys others (sym same))
same_texts (x ∷ xs) [] all others same = of_nothing (x ∷ xs) all same
same_texts (x ∷ xs) (y ∷ ys) all others same =
    same_cells (x ∷ xs) (y ∷ ys) all others (sym (parts_from x xs all) ∙ ap parts_of same ∙ parts_from y ys others)

-- the part at this place of cells' text is the text of the cell at this place
pub part_at : (ns text part : List ℕ) (k : ℕ) → AreCells ns → text ≡ numbers_text ns → (k < length (parts_of text)) × (part ≡ get_or (parts_of text) k part) → (k < length ns) × (part ≡ decimal (get_or ns k 0))
part_at ns text part k cells is turn =
    let parts : parts_of text ≡ map decimal ns = ap parts_of is ∙ parts_are ns cells in
    let within : k < length ns = omega (arith, turn.0, ap length parts, length-map ns decimal) in
    (within, turn.1 ∙ ap (λ ps. get_or ps k part) parts ∙ get_or-map decimal ns k 0 part within)
