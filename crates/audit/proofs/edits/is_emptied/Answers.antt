use Rattle.std.proofs.Common.{◌≡◌, [], sym, ◌∙◌, ap, rules}
use Rattle.record.specs.Common.{edited, number_pairs}
use Rattle.audit.specs.Edits.{edit_begun}
use Rattle.audit.proofs.edits.is_emptied.Goals as goal

pub returns : goal.returns
returns c empty =
    let none : c.edited-left.result.items ≡ [] = search rules in
    ap (edited (edit_begun c.args.begun.now)) (sym c.held.ensures.pairs) ∙ sym c.edited-left.ensures ∙ ap number_pairs none
