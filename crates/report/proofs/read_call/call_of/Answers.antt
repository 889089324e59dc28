use Rattle.std.proofs.Common.{◌≡◌, ◌∙◌, [], ◌∷◌, Ok, None, ap, codes, decimal, get_or, arith, rules, sym}
use Rattle.std.specs.Result.{result_ok}
use Rattle.arena.specs.Opening.{is_map}
use Rattle.script.specs.Commands.{command_row}
use Rattle.texts.proofs.Lemmas.{same_number}
use Rattle.report.proofs.Fields.{blank}
use Rattle.report.proofs.Versions.{same_command}
use Rattle.report.proofs.CallFields.{call_fields_are, call_row_is, no_command}
use Rattle.report.proofs.read_call.call_of.Goals as goal

pub returns-in_err-number-clause-none : goal.returns-in_err-number-clause-none
returns-in_err-number-clause-none c = rw c.from_residual-in_err-number.ensures (λ call number ok fits is.
    c.in_err-number.ensures number fits (call_fields_are c.args.fields (codes "call") (decimal call.client.0) (decimal number) (command_row call.command) (omega arith) is).number_is)

pub returns-in_err-ok-clause-none : goal.returns-in_err-ok-clause-none
returns-in_err-ok-clause-none c = rw c.from_residual-in_err-ok.ensures (λ call number ok fits is.
    let failed : result_ok c.command_of.result ≡ None = search rules in
    no_command (is_map c.args.layout.mode) (get_or c.args.fields 3 blank).now ((get_or c.args.fields 4 blank).now ∷ (get_or c.args.fields 5 blank).now ∷ (get_or c.args.fields 6 blank).now ∷ []) c.command_of.result failed c.command_of.ensures.cause call.command ok.1 ok.2
    (call_fields_are c.args.fields (codes "call") (decimal call.client.0) (decimal number) (command_row call.command) (omega arith) is).command_is)

pub returns-in_err-command-clause-none : goal.returns-in_err-command-clause-none
returns-in_err-command-clause-none c = rw c.from_residual-in_err-command.ensures (λ call number ok fits is.
    let done : c.command_of.result ≡ Ok c.in_ok-ok.field-0 = search rules in
    let told = rw done at c.command_of.ensures.command in
    let row = (call_fields_are c.args.fields (codes "call") (decimal call.client.0) (decimal number) (command_row call.command) (omega arith) is).command_is in
    c.in_err-command.ensures (same_command c.args.version c.in_ok-ok.field-0 call.command (told.0 ∙ sym ok.1) told.1 ok.2 (sym told.2 ∙ row) ok.3))

pub returns-then-client-layout-clause-row : goal.returns-then-client-layout-clause-row
returns-then-client-layout-clause-row c =
    let done : c.command_of.result ≡ Ok c.in_ok-ok.field-0 = search rules in
    let told = rw done at c.command_of.ensures.command in
    call_row_is c.args.fields (codes "call") (decimal c.in_ok-client.client.0) (decimal c.in_ok-number.number) (command_row c.in_ok-command.command) (omega arith)
    (search rules) c.in_ok-client.ensures.some c.in_ok-number.ensures (told.2 ∙ ap (λ command. command_row command) (sym c.in_ok-command.ensures.0))

pub returns-else-client-layout-clause-none : goal.returns-else-client-layout-clause-none
returns-else-client-layout-clause-none c call number ok fits is =
    let told = (call_fields_are c.args.fields (codes "call") (decimal call.client.0) (decimal number) (command_row call.command) (omega arith) is).client_is in
    let same : c.in_ok-client.client.0 ≡ call.client.0 = same_number _ _ _ c.in_ok-client.ensures.some told (omega arith) (omega (arith, ok.0)) in
    omega (arith, ok.0, same, c.if-client-layout.false)
