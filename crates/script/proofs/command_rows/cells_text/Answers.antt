use Rattle.std.proofs.Common.{arith, ◌≡◌, [], ◌++◌, codes, decimal, string_bytes, ◌∙◌, ap, get_or, refl, subst, sym, take}
use Rattle.std.proofs.lemmas.Grind.{get_or_default_zero}
use Rattle.texts.specs.Sheets.{IsPlain}
use Rattle.texts.proofs.Lemmas.{plain_append, plain_number}
use Rattle.script.specs.Commands.{numbers_text}
use Rattle.script.proofs.NumberTexts.{first_number, next_number}
use Rattle.script.proofs.command_rows.cells_text.Goals as goal
use Rattle.script.proofs.command_rows.cells_text.Goals.{then-place-gt0+in_ok-push, else-place-gt0}

pub loop-place-preserved : goal.loop-place-preserved
loop-place-preserved c =
    let inv = c.loop-place.invariant in
    let cells = c.args.cells.now in
    let place = c.loop-place.place in
    let cell = c.index-cells-place in
    let number = c.format.result.now in
    let is : c.node.result.0 ≡ get_or cells place 0 = c.node.ensures.node ∙ cell.is ∙ get_or_default_zero cells place cell.result (omega arith) in
    let said : number ≡ decimal (get_or cells place 0) = c.format.ensures.text ∙ ap decimal is in
    let digits : IsPlain (decimal (get_or cells place 0)) = subst (λ n. IsPlain (decimal n)) is (plain_number c.node.result.0 (omega arith)) in
    let pushed = c.in_ok-push_str.ensures.bytes in
    elim c.if-place-gt0.branch [
      | then-place-gt0+in_ok-push w ↦ record {
        text = rw (next_number cells place (omega arith) (omega arith), ← said, ← inv.text) (pushed ∙ ap (λ text. string_bytes text ++ number) w.text-is ∙ ap (λ text. text ++ number) (w.in_ok-push.ensures.bytes ∙ ap (λ more. string_bytes c.loop-place.text ++ more) (w.in_ok-push.ensures.ascii (omega arith))));
        plain = rw (next_number cells place (omega arith) (omega arith))
            (plain_append (numbers_text (take place cells) ++ codes " ") (decimal (get_or cells place 0)) (plain_append (numbers_text (take place cells)) (codes " ") inv.plain refl) digits);
      }
      | else-place-gt0 w ↦
          let none : place ≡ 0 = omega (arith, w.if-place-gt0.false) in
          let before : string_bytes c.if-place-gt0.text ≡ [] = ap string_bytes w.text-is ∙ inv.text ∙ ap (λ i. numbers_text (take i cells)) none in
          record {
            text = pushed ∙ ap (λ text. text ++ number) before ∙ said ∙ rw none (sym (first_number cells (omega arith)));
            plain = rw none (rw (first_number cells (omega arith)) (subst (λ i. IsPlain (decimal (get_or cells i 0))) none digits));
          }
    ]
