use Rattle.std.proofs.Common.{◌≡◌, ℕ, ◌∷◌, sym, ◌∙◌, ap, subst}
use Rattle.histories.specs.Common.{value, Lawful, IsWin, log, entry, info}
use Rattle.judge.specs.Histories.{seen_history}
use Rattle.judge.proofs.Winners.{entering_row, entering_wins, entering_logs, quiet_logs, scx_enters_not, node_is}
use Rattle.judge.proofs.judge.Judge.winner.Goals as goal

pub returns-in-Node-clause-wins : goal.returns-in-Node-clause-wins
returns-in-Node-clause-wins c =
    let lay = c.args.self.now.layout in
    let h = seen_history c.args.self.now in
    let row = c.args.row.now in
    let lawful : Lawful lay h = rw (← c.self.view_is) c.self.invariant.lawful in
    let e = entering_row row (sym c.makes_entry.ensures ∙ c.if-makes_entry.true) in
    let same = node_is row.word e.0 c.in-Node.node.0 e.1 c.in-Node.field-1 e.2.word c.in-Node.is in
    let at : value h (info e.0) ≡ c.get.result = ap (λ m. value h (info m)) same ∙ sym c.get.ensures in
    subst (λ (s : ℕ). IsWin h row s) at (entering_wins lay h row e.0 e.1 lawful c.requires e.2)

pub returns-in-Node-clause-logged : goal.returns-in-Node-clause-logged
returns-in-Node-clause-logged c =
    let lay = c.args.self.now.layout in
    let h = seen_history c.args.self.now in
    let row = c.args.row.now in
    let e = entering_row row (sym c.makes_entry.ensures ∙ c.if-makes_entry.true) in
    let same = node_is row.word e.0 c.in-Node.node.0 e.1 c.in-Node.field-1 e.2.word c.in-Node.is in
    let at : value h (info e.0) ≡ c.get.result = ap (λ m. value h (info m)) same ∙ sym c.get.ensures in
    (e.0, e.1, e.2.word, entering_logs lay h row e.0 e.1 e.2 ∙ ap (λ s. entry lay h s e.0 e.1 row.after ∷ log lay h) at)

pub returns-in_default-clause-unlogged : goal.returns-in_default-clause-unlogged
returns-in_default-clause-unlogged c =
    let lay = c.args.self.now.layout in
    let h = seen_history c.args.self.now in
    let lawful : Lawful lay h = rw (← c.self.view_is) c.self.invariant.lawful in
    quiet_logs lay h c.args.row.now lawful c.requires (sym c.makes_entry.ensures ∙ c.if-makes_entry.false)

pub returns-in_default-2-clause-unlogged : goal.returns-in_default-2-clause-unlogged
returns-in_default-2-clause-unlogged c =
    let lay = c.args.self.now.layout in
    let h = seen_history c.args.self.now in
    let lawful : Lawful lay h = rw (← c.self.view_is) c.self.invariant.lawful in
    quiet_logs lay h c.args.row.now lawful c.requires (scx_enters_not c.args.row.now c.in_default.field-0 c.in_default.field-1 c.in_default.is)
