use Rattle.std.proofs.Common.{◌≡◌, Some, None, inl, inr, sym, ◌∙◌, ap, rules}
use Rattle.record.specs.MapRecord.{number_pairs}
use Rattle.audit.proofs.ListEdits.{made, with_value}
use Rattle.audit.proofs.edits.edited.Goals.{then-eq, else-eq}
use Rattle.audit.proofs.edits.edited.Goals as goal

pub returns-in-Some : goal.returns-in-Some
returns-in-Some c =
    let some : c.args.begun.now.value ≡ Some c.in-Some.value = search rules in
    ap number_pairs (c.insert.ensures.items ∙ ap (λ o. with_value c.args.begun.now.key o c.loop-at.at c.if-eq.pairs.items) (sym some))
    ∙ made c.args.begun.now.key c.args.begun.now.value c.args.pairs.items c.if-eq.pairs.items c.loop-at.at c.loop-at.invariant.1 (search rules)
    (elim c.if-eq.branch [ then-eq w ↦ inl (search rules, search rules) | else-eq w ↦ inr (search rules, search rules) ])

pub returns-in_default : goal.returns-in_default
returns-in_default c =
    let none : c.args.begun.now.value ≡ None = search rules in
    ap (λ o. number_pairs (with_value c.args.begun.now.key o c.loop-at.at c.if-eq.pairs.items)) (sym none)
    ∙ made c.args.begun.now.key c.args.begun.now.value c.args.pairs.items c.if-eq.pairs.items c.loop-at.at c.loop-at.invariant.1 (search rules)
    (elim c.if-eq.branch [ then-eq w ↦ inl (search rules, search rules) | else-eq w ↦ inr (search rules, search rules) ])
