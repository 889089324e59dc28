-- What a row of an SCX says.
use Rattle.std.proofs.Common.{◌≡◌, ◌≢◌, ℕ, ◌<◌, ◌^◌, Bool, true, false, cond, eqb, List, [], ◌∷◌, ◌++◌, length, get_or, All, Contains, Bor, arith, refl, sym, ap, ◌∙◌, codes, decimal, rules, tests}
use Rattle.std.proofs.Math.Logic.{∥∥₁_elim}
use Rattle.std.proofs.lemmas.List.Elements.{All-nil, All-cons, All-contains, All-head, All-tail}
use Rattle.arena.specs.declared.word.Side.{Side}
use Rattle.std.proofs.lemmas.Fmt.{decimal_injective}
use Rattle.std.proofs.lemmas.List.Splits.{slice_split_at}
use Rattle.script.specs.Commands.{numbers_text, change_text, command_row, side_text, texts, IsCell, AreCells, IsCommand}
use Rattle.script.proofs.Spaced.{parts_of, no_space, small}
use Rattle.script.specs.Part.{is_subsequence}
use Rattle.script.specs.Update.{update_cells, update_finalize, update_field, update_value}
use Rattle.script.specs.declared.command.Command.{Command}
use Rattle.script.specs.declared.command.Command.TheVariants.{Scx, Set, Map}
use Rattle.ordered_map.specs.declared.request.Request.TheVariants.{Successor}
use Rattle.script.specs.declared.command.CellUpdate.{CellUpdate}

-- these texts are an update's cells, those finalized, and the change
pub record SaysUpdate (cells finalize change : List ℕ) (update : CellUpdate) : Type 0 where
  pub are : AreCells (update_cells update)
  pub fits : update_value update < 2 ^ 64
  pub inside : Contains (update_cells update) (update_field update).0
  pub cells_is : cells ≡ numbers_text (update_cells update)
  pub finalize_is : finalize ≡ numbers_text (update_finalize update)
  pub change_is : change ≡ change_text (update_field update) (update_value update)

-- a letter of a row's name
abbrev letter : ℕ → List (List ℕ) → ℕ
letter k row = get_or (get_or row 0 []) k 0

-- only a row of an update is a row of an SCX
pub no_update : (cells finalize change : List ℕ) → ((update : CellUpdate) → ¬ (SaysUpdate cells finalize change update)) → (command : Command) → IsCommand command → codes "scx" ∷ cells ∷ finalize ∷ change ∷ [] ≢ command_row command
no_update cells finalize change none (Scx update) valid row =
    ∥∥₁_elim update.inside (λ a b. absurd a) (λ (has : Contains (update_cells update) (update_field update).0).
    none update (record { are = valid.0; fits = valid.1; inside = has; cells_is = cc; finalize_is = cc; change_is = cc }))
-- two names begin as that of an SCX does
no_update cells finalize change none (Set field value) valid row = absurd (omega (arith, ap (letter 1) row))
no_update cells finalize change none (Map (Successor key)) valid row = absurd (omega (arith, ap (letter 1) row))
no_update cells finalize change none command valid row = absurd (omega (arith, ap (letter 0) row))

taken_or_left : (x y : ℕ) (part whole : List ℕ) (b : Bool) → (b ≡ true → x ≡ y) → IsCell y → (is_subsequence part whole ≡ true → All IsCell part) → (is_subsequence (x ∷ part) whole ≡ true → All IsCell (x ∷ part)) → cond b (is_subsequence part whole) (is_subsequence (x ∷ part) whole) ≡ true → All IsCell (x ∷ part)
taken_or_left x y part whole true same cell taken left is = All-cons IsCell x part (rw (same refl) cell) (taken is)
taken_or_left x y part whole false same cell taken left is = left is

-- a part of some cells has only cells
pub part_of_cells : (part whole : List ℕ) → is_subsequence part whole ≡ true → All IsCell whole → All IsCell part
part_of_cells [] whole is all = All-nil IsCell
part_of_cells (x ∷ part) [] is all = absurd (cc)
part_of_cells (x ∷ part) (y ∷ whole) is all =
    let rest = All-tail IsCell y whole all in
    taken_or_left x y part whole (eqb x y) (λ e. search (rules, tests)) (All-head IsCell y whole all)
    (λ taken. part_of_cells part whole taken rest) (λ left. part_of_cells (x ∷ part) whole left rest) is

pub finalized_are_cells : {cells finalize change : List ℕ} (update : CellUpdate) → SaysUpdate cells finalize change update → All IsCell (update_finalize update)
finalized_are_cells update says = part_of_cells (update_finalize update) (update_cells update) update.part says.are.1

pub field_is_of_cell : {cells finalize change : List ℕ} (update : CellUpdate) → SaysUpdate cells finalize change update → IsCell (update_field update).0
field_is_of_cell update says = All-contains IsCell (update_cells update) (update_field update).0 says.are.1 says.inside

-- the first part of a change's text is its cell's
first_part : (field : ℕ × Side) (value : ℕ) → IsCell field.0 → get_or (parts_of (change_text field value)) 0 [] ≡ decimal field.0
first_part field value cell =
    ap (λ parts. get_or parts 0 [])
    (slice_split_at (λ b. eqb b 32) (decimal field.0) 32 (side_text field.1 ++ (32 ∷ decimal value)) (no_space field.0 (small field.0 cell)) refl)

pub same_cell : (field other : ℕ × Side) (value last : ℕ) → IsCell field.0 → IsCell other.0 → change_text field value ≡ change_text other last → field.0 ≡ other.0
same_cell field other value last cell others same =
    decimal_injective field.0 other.0 (small field.0 cell) (small other.0 others)
    (sym (first_part field value cell) ∙ ap (λ text. get_or (parts_of text) 0 []) same ∙ first_part other last others)

-- three arguments, one by one
pub three_texts : (arguments : List (Bor (List ℕ))) (d : Bor (List ℕ)) → length arguments ≡ 3 → texts arguments ≡ (get_or arguments 0 d).now ∷ (get_or arguments 1 d).now ∷ (get_or arguments 2 d).now ∷ []
three_texts (a ∷ b ∷ e ∷ []) d h = refl
three_texts arguments d h = absurd (omega arith)

-- the texts of what was read are those of what was made of it
pub same_row : {a b e : List ℕ} (made cells some finalize : List ℕ) (into field : ℕ × Side) (put value : ℕ) → made ≡ cells → some ≡ finalize → into ≡ field → put ≡ value → a ≡ numbers_text cells → b ≡ numbers_text finalize → e ≡ change_text field value → a ∷ b ∷ e ∷ [] ≡ numbers_text made ∷ numbers_text some ∷ change_text into put ∷ []
same_row made cells some finalize into field put value of_cells of_finalize of_field of_value is_a is_b is_e =
    rw (of_cells, of_finalize, of_field, of_value, is_a, is_b, is_e) refl
