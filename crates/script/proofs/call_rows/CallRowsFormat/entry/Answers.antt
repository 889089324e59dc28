use Rattle.std.proofs.Common.{◌≡◌, ◌∷◌, sym, ap, ◌∙◌, decimal, Result, Ok, Err, IfErr, IsErrAnd}
use Rattle.csv.specs.Records.{fields_of}
use Rattle.script.specs.declared.fault.ScriptCause.{ScriptCause}
use Rattle.script.proofs.Calls.{no_call}
use Rattle.script.proofs.Fields.{five_fields_are}
use Rattle.script.proofs.call_rows.CallRowsFormat.entry.Goals as goal

told : {T : Type 0} (r : Result T ScriptCause) (why : ScriptCause) (P : ScriptCause → Type 0) → IsErrAnd r (λ e. e ≡ why) → P why → IfErr r P
told (Ok t) why P is holds = absurd is
told (Err e) why P is holds = rw is holds

pub returns-in_err-command-clause-cause : goal.returns-in_err-command-clause-cause
returns-in_err-command-clause-cause c =
    let client = rw c.in_ok-client.ensures.ok_part at c.client_of.ensures.some in
    let none = rw (c.field-5.ensures, c.field-2.ensures, c.field-3.ensures, c.field-4.ensures) at c.in_err-command.ensures.cause in
    told _ c.in_err-command.field-0.0 _ c.from_residual-in_err-command.ensures.1
    (no_call c.args.self.now.layout (fields_of c.args.row.now) c.in_err-command.field-0.0 (c.in_ok-client.client.0, client.0, sym c.field.ensures ∙ client.1) none)

pub returns-clause-row : goal.returns-clause-row
returns-clause-row c h =
    let client = rw c.in_ok-client.ensures.ok_part at c.client_of.ensures.some in
    five_fields_are (fields_of c.args.row.now) (decimal c.in_ok-client.client.0) c.field-5.result.now c.field-2.result.now c.field-3.result.now c.field-4.result.now h
    (sym c.field.ensures ∙ client.1) (sym c.field-5.ensures) (sym c.field-2.ensures) (sym c.field-3.ensures) (sym c.field-4.ensures) ∙
    ap (λ rest. decimal c.in_ok-client.client.0 ∷ rest) c.in_ok-command.ensures.command.2
