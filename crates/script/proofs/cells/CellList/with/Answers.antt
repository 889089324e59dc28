use Rattle.std.proofs.Common.{◌≢◌, [], ◌∷◌, ◌++◌, take, arith, rules, AllPairs, Contains}
use Rattle.std.proofs.lemmas.List.{take_more_set}
use Rattle.script.proofs.Differ.{differ_push}
use Rattle.script.proofs.cells.CellList.with.Goals as goal

pub invariant_of-result-clause-differ : goal.invariant_of-result-clause-differ
invariant_of-result-clause-differ c =
    let s = c.args.self in
    let cells = take s.count s.list in
    let other : ¬ (Contains cells c.args.cell) = search rules in
    let all : AllPairs (λ a b. a ≢ b) (cells ++ c.args.cell ∷ []) = differ_push cells c.args.cell s.differ other in
    rw (take_more_set s.list s.count c.args.cell (omega arith)) all
