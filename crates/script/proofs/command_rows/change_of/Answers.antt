use Rattle.std.proofs.Common.{◌≡◌, ◌≢◌, ℕ, ◌<◌, List, ◌∷◌, ◌++◌, length, get_or, Option, Some, None, MatchOption, Bor, eqb, false, true, not, arith, refl, codes, decimal, lit<}
use Rattle.std.proofs.lemmas.Bool.Decides.{nat_tests}
use Rattle.std.proofs.lemmas.List.Sums.{AllPass-from_list_all}
use Rattle.std.proofs.lemmas.Str.Pattern.{IsSplitOnceResult, split_after}
use Rattle.arena.specs.declared.word.Side.{Side}
use Rattle.arena.specs.declared.word.Side.TheVariants.{Left, Right}
use Rattle.script.specs.Commands.{change_text, side_text, IsCell}
use Rattle.script.proofs.Spaced.{no_space, small}
use Rattle.script.proofs.command_rows.change_of.Goals as goal

not_32 : (b : ℕ) → eqb b 32 ≡ false → b ≢ 32
not_32 b test is = grind (arith, nat_tests)

other_than_32 : (b : ℕ) → not (eqb b 32) ≡ true → b ≢ 32
other_than_32 b test is = grind (arith, nat_tests)

side_spaceless : (side : Side) (i : ℕ) → i < length (side_text side) → get_or (side_text side) i 0 ≢ 32
side_spaceless Left i within = other_than_32 _ (AllPass-from_list_all (λ b. not (eqb b 32)) (codes "left") refl i 0 within)
side_spaceless Right i within = other_than_32 _ (AllPass-from_list_all (λ b. not (eqb b 32)) (codes "right") refl i 0 within)

-- the first space of a change comes after its cell
behind_cell : (text : List ℕ) (field : ℕ × Side) (value : ℕ) (r : Option (Bor (List ℕ) × Bor (List ℕ))) → IsSplitOnceResult 32 text r → IsCell field.0 → text ≡ change_text field value → MatchOption r ⊥ (λ x. (x.0.now ≡ decimal field.0) × (x.1.now ≡ side_text field.1 ++ (32 ∷ decimal value)))
behind_cell text field value r split cell is =
    split_after 32 text (decimal field.0) (side_text field.1 ++ (32 ∷ decimal value)) r split (lit< tt) is
    (λ i within. not_32 _ (no_space field.0 (small field.0 cell) i 0 within))

-- and the next one after its side
behind_side : (text : List ℕ) (side : Side) (value : ℕ) (r : Option (Bor (List ℕ) × Bor (List ℕ))) → IsSplitOnceResult 32 text r → text ≡ side_text side ++ (32 ∷ decimal value) → MatchOption r ⊥ (λ x. (x.0.now ≡ side_text side) × (x.1.now ≡ decimal value))
behind_side text side value r split is = split_after 32 text (side_text side) (decimal value) r split (lit< tt) is (side_spaceless side)

-- the three parts of a change that is cut at its spaces
cut : (text : List ℕ) (field : ℕ × Side) (value : ℕ) (cell rest side last : Bor (List ℕ)) → IsSplitOnceResult 32 text (Some (cell, rest)) → IsSplitOnceResult 32 rest.now (Some (side, last)) → IsCell field.0 → text ≡ change_text field value → (cell.now ≡ decimal field.0) × (side.now ≡ side_text field.1) × (last.now ≡ decimal value)
cut text field value cell rest side last split again valid is =
    let front = behind_cell text field value (Some (cell, rest)) split valid is in
    let back = behind_side rest.now field.1 value (Some (side, last)) again front.1 in
    (front.0, back.0, back.1)

pub returns-in_err-cell : goal.returns-in_err-cell
returns-in_err-cell c = rw c.from_residual.ensures (λ field value cell fits is.
    behind_cell c.args.text.now field value None c.in_err-cell.ensures.cases cell is)

pub returns-in_err-side : goal.returns-in_err-side
returns-in_err-side c = rw c.from_residual-in_err-side.ensures (λ field value cell fits is.
    let front = behind_cell c.args.text.now field value (Some (c.in_ok-cell.cell, c.in_ok-cell.rest)) c.in_ok-cell.ensures.cases cell is in
    behind_side c.in_ok-cell.rest.now field.1 value None c.in_err-side.ensures.cases front.1)

pub returns-in_err-cell_of : goal.returns-in_err-cell_of
returns-in_err-cell_of c = rw c.from_residual-in_err-cell_of.ensures (λ field value cell fits is.
    let parts = cut c.args.text.now field value c.in_ok-cell.cell c.in_ok-cell.rest c.in_ok-side.side c.in_ok-side.value c.in_ok-cell.ensures.cases c.in_ok-side.ensures.cases cell is in
    c.in_err-cell_of.ensures field.0 cell parts.0)

pub returns-in_err-side_of : goal.returns-in_err-side_of
returns-in_err-side_of c = rw c.from_residual-in_err-side_of.ensures (λ field value cell fits is.
    let parts = cut c.args.text.now field value c.in_ok-cell.cell c.in_ok-cell.rest c.in_ok-side.side c.in_ok-side.value c.in_ok-cell.ensures.cases c.in_ok-side.ensures.cases cell is in
    c.in_err-side_of.ensures field.1 parts.1)

pub returns-in_err-number_of : goal.returns-in_err-number_of
returns-in_err-number_of c = rw c.from_residual-in_err-number_of.ensures (λ field value cell fits is.
    let parts = cut c.args.text.now field value c.in_ok-cell.cell c.in_ok-cell.rest c.in_ok-side.side c.in_ok-side.value c.in_ok-cell.ensures.cases c.in_ok-side.ensures.cases cell is in
    c.in_err-number_of.ensures value fits parts.2)
