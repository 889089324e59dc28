use Rattle.std.proofs.Common.{◌≡◌, false, sym, ◌∙◌, eqb-true, rules}
use Rattle.histories.specs.Common.{Left, Right, value, log, is_final, child}
use Rattle.histories.proofs.Lemmas.{fields_are}
use Rattle.judge.specs.Histories.{seen_history}
use Rattle.audit.proofs.cells.is_snapshot.Goals as goal

pub returns-then-node_word-fields : goal.returns-then-node_word-fields
returns-then-node_word-fields c = λ t.
    let lay = c.args.judge.now.layout in
    let h = seen_history c.args.judge.now in
    let n = c.args.cell.0 in
    let left : value h (child n Left) ≡ c.args.fields.0.0 = search rules in
    let not_final : is_final (log lay h) n ≡ false = search rules in
    record {
      left_is = sym left ∙ fields_are lay h n Left c.laws_hold.ensures;
      right_is = sym (sym c.node_word-then-node_word-fields.ensures ∙ eqb-true _ _ t) ∙ fields_are lay h n Right c.laws_hold.ensures;
      not_final = not_final;
    }
