use Rattle.std.proofs.Common.{◌≡◌, ◌≢◌, ℕ, List, ◌∷◌, length, get_or, Bor, arith, sym, ap, ◌∙◌, codes}
use Rattle.std.proofs.lemmas.Bool.{false≢true}
use Rattle.script.specs.Cells.{cells_of, maybe_cells_of}
use Rattle.script.specs.Commands.{command_row, texts, IsCommand}
use Rattle.script.specs.Update.{update_cells, update_finalize, update_field, update_value}
use Rattle.script.specs.declared.command.Command.{Command}
use Rattle.script.specs.declared.command.CellUpdate.{CellUpdate}
use Rattle.script.proofs.Spaced.{same_texts}
use Rattle.script.proofs.Updates.{SaysUpdate, no_update, finalized_are_cells, field_is_of_cell, same_cell, three_texts, same_row}
use Rattle.script.proofs.command_rows.scx_of.Goals as goal

-- where no update has these texts, no command has this row
none_says : (arguments : List (Bor (List ℕ))) (d : Bor (List ℕ)) → length arguments ≡ 3 → ((update : CellUpdate) → ¬ (SaysUpdate (get_or arguments 0 d).now (get_or arguments 1 d).now (get_or arguments 2 d).now update)) → (command : Command) → IsCommand command → codes "scx" ∷ texts arguments ≢ command_row command
none_says arguments d h none command valid row =
    no_update _ _ _ none command valid (ap (λ rest. codes "scx" ∷ rest) (sym (three_texts arguments d h)) ∙ row)

pub returns-in_err-field : goal.returns-in_err-field
returns-in_err-field c = rw c.from_residual.ensures (none_says c.args.arguments _ (omega arith) (λ update says.
    c.in_err-field.ensures (update_field update) (update_value update) (field_is_of_cell update says) says.fits says.change_is))

pub returns-in_err-finalize_of : goal.returns-in_err-finalize_of
returns-in_err-finalize_of c = rw c.from_residual-in_err-finalize_of.ensures (none_says c.args.arguments _ (omega arith) (λ update says.
    c.in_err-finalize_of.ensures update.finalize (finalized_are_cells update says) says.finalize_is))

pub returns-in_err-update : goal.returns-in_err-update
returns-in_err-update c = rw c.from_residual-in_err-update.ensures (none_says c.args.arguments _ (omega arith) (λ update says.
    let cells = same_texts (cells_of c.in_ok-cells_of.field-0) (update_cells update) c.in_ok-cells_of.ensures.0.1 says.are.1 (sym c.in_ok-cells_of.ensures.1 ∙ says.cells_is) in
    let finalize = same_texts (maybe_cells_of c.in_ok-finalize_of.field-0) (update_finalize update) c.in_ok-finalize_of.ensures.0 (finalized_are_cells update says) (sym c.in_ok-finalize_of.ensures.1 ∙ says.finalize_is) in
    let cell = same_cell c.in_ok-field.field (update_field update) c.in_ok-field.value (update_value update) c.in_ok-field.ensures.0 (field_is_of_cell update says) (sym c.in_ok-field.ensures.2 ∙ says.change_is) in
    false≢true (c.in_err-update.ensures.valid.1 (rw (finalize, cells) update.part, rw (cells, cell) says.inside))))

pub returns : goal.returns
returns c =
    let made = c.in_ok-update.ensures in (
      (rw made.cells c.in_ok-cells_of.ensures.0, rw made.value c.in_ok-field.ensures.1),
      ap (λ rest. codes "scx" ∷ rest) (three_texts c.args.arguments _ (omega arith) ∙
          same_row _ _ _ _ _ _ _ _ made.cells made.finalize made.field made.value c.in_ok-cells_of.ensures.1 c.in_ok-finalize_of.ensures.1 c.in_ok-field.ensures.2),
    )
