use Rattle.std.proofs.Common.{◌≡◌, ℕ, sym, ◌∙◌, subst}
use Rattle.histories.specs.Common.{value, IsMark, info}
use Rattle.judge.specs.Histories.{seen_history}
use Rattle.judge.proofs.Found.{mark_found}
use Rattle.judge.proofs.exchanges.is_some_mark.Goals as goal

pub returns-in-Node : goal.returns-in-Node
returns-in-Node c =
    let h = seen_history c.args.judge.now in
    let row = c.args.row.now in (
      λ t. let x = c.is_mark_for.ensures.0 t in (c.of_node-scx.result, x.0, x.1),
      λ x.
          let at : value h (info c.in-Node.node.0) ≡ x.0 = mark_found c.args.judge.now.layout h row x.0 x.1 c.in-Node.node.0 c.in-Node.field-1 c.laws_hold.ensures c.in-Node.is x.2 in
          c.is_mark_for.ensures.1 (x.1, subst (λ (s : ℕ). IsMark h row s x.1) (sym (c.of_node-scx.ensures ∙ at)) x.2),
    )
