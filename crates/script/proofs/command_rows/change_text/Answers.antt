use Rattle.std.proofs.Common.{◌++◌, arith, codes, decimal, refl, subst}
use Rattle.texts.specs.Sheets.{IsPlain}
use Rattle.texts.proofs.Lemmas.{plain_append, plain_number}
use Rattle.script.specs.Commands.{side_text}
use Rattle.script.proofs.command_rows.change_text.Goals as goal

pub returns-clause-plain : goal.returns-clause-plain
returns-clause-plain c =
    let side = side_text c.args.field.1 in
    let node : IsPlain (decimal c.args.field.0) = subst (λ n. IsPlain (decimal n)) c.node.ensures.node (plain_number c.node.result.0 (omega arith)) in
    let value = decimal c.args.value in
    let number : IsPlain (codes " " ++ value) = plain_append (codes " ") value refl (plain_number c.args.value (omega arith)) in
    plain_append (decimal c.args.field.0) (codes " " ++ (side ++ (codes " " ++ value))) node
    (plain_append (codes " ") (side ++ (codes " " ++ value)) refl (plain_append side (codes " " ++ value) c.side_name.ensures.plain number))
