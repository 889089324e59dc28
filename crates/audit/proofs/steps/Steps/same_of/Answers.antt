use Rattle.std.proofs.Common.{◌≡◌, ℕ, List, Some, sym, ◌∙◌, ap, subst}
use Rattle.record.specs.Common.{CellList, Command, Vlx, cells_of}
use Rattle.judge.specs.Histories.{seen_history}
use Rattle.audit.specs.CellCalls.{AreSameAt}
use Rattle.audit.proofs.steps.Steps.same_of.Goals as goal

some_vlx : (a b : CellList) (command : Command) → command ≡ Vlx b → Some command ≡ Some (Vlx a) → b ≡ a
some_vlx a b command e f = cc

pub returns-in-Some-Vlx : goal.returns-in-Some-Vlx
returns-in-Some-Vlx c cells kept is snapshots =
    let same : c.in-Some-Vlx.cells ≡ cells = some_vlx cells c.in-Some-Vlx.cells c.in-Some-Vlx.field-0 c.in-Some-Vlx.field-0-is (sym c.in-Some-Vlx.is ∙ is) in
    subst (λ (l : List ℕ). AreSameAt c.args.self.now.judge.layout (seen_history c.args.self.now.judge) kept l c.same_cells.result) (c.as_slice.ensures.cells ∙ ap (λ (k : CellList). cells_of k) same) (c.same_cells.ensures kept snapshots)
