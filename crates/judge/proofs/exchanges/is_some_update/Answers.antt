use Rattle.std.proofs.Common.{◌≡◌, ◌≢◌, ℕ, true, sym, ◌∙◌, subst, eqb-true}
use Rattle.histories.specs.Common.{value, IsUpdate, info}
use Rattle.judge.specs.Histories.{seen_history}
use Rattle.judge.proofs.Found.{never_both, update_found}
use Rattle.judge.proofs.exchanges.is_some_update.Goals.{then-is_update, else-is_update}
use Rattle.judge.proofs.exchanges.is_some_update.Goals as goal

pub returns-else-row : goal.returns-else-row
returns-else-row c =
    let h = seen_history c.args.judge.now in
    let row = c.args.row.now in
    let changed : row.before ≢ row.after = c.if-row.false in (
      λ t. absurd (changed (eqb-true row.before row.after t)),
      λ x.
          let at : value h (info c.in-Node.node.0) ≡ x.0 = update_found c.args.judge.now.layout h row x.0 c.in-Node.node.0 c.in-Node.field-1 c.laws_hold.ensures c.requires.kind c.requires.before c.in-Node.is changed x.1 in
          let t : c.is_update.result ≡ true = c.is_update.ensures.1 (subst (λ (s : ℕ). IsUpdate h row s) (sym (c.of_node.ensures ∙ at)) x.1) in
          absurd (elim c.if-is_update.branch [
            | then-is_update w ↦ never_both c.if-is_update.value (w.value-is ∙ t) c.if-is_update-2.false
            | else-is_update w ↦ never_both c.is_update.result t w.if-is_update.false
          ]),
    )
