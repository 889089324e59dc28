use Rattle.std.proofs.Common.{ℕ, Option, [], arith, decimal, subst, sym}
use Rattle.std.specs.Option.{option_map_or}
use Rattle.texts.specs.Sheets.{IsPlain}
use Rattle.texts.proofs.Lemmas.{plain_number}
use Rattle.script.proofs.command_rows.argument_text.Goals as goal

pub returns-in-Some-clause-plain : goal.returns-in-Some-clause-plain
returns-in-Some-clause-plain c =
    subst (λ (number : Option ℕ). IsPlain (option_map_or decimal number [])) (sym c.in-Some.is) (plain_number c.in-Some.number (omega arith))
