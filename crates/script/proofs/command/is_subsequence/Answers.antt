use Rattle.std.proofs.Common.{◌≡◌, [], drop, sym, ◌∙◌}
use Rattle.std.proofs.Math.ListN.{drop_of_length-le}
use Rattle.script.proofs.Parts.{rest_of_nothing}
use Rattle.script.proofs.command.is_subsequence.Goals as goal

pub returns : goal.returns
returns c =
    let l = c.loop-cell in
    let none : drop l.cell-index c.args.whole.now ≡ [] = drop_of_length-le _ c.loop-cell-test.false in
    sym (rest_of_nothing c.args.part.now l.found l.invariant.0) ∙ sym (rw none at l.invariant.1)
