use Rattle.std.proofs.Common.{None, ◌∙◌, sym}
use Rattle.report.proofs.Versions.{same_part}
use Rattle.report.proofs.WordTexts.{cut_at_dot, no_part_of_node, no_part_of_scx, no_record}
use Rattle.report.proofs.word.word_of.Goals as goal

pub returns-in_err-name : goal.returns-in_err-name
returns-in_err-name c = rw c.from_residual.ensures (λ word fits is. cut_at_dot c.args.text.now word None c.in_err-name.ensures.cases c.args.version fits is)

pub returns-in_err-node_part_of-in-Some : goal.returns-in_err-node_part_of-in-Some
returns-in_err-node_part_of-in-Some c = rw c.from_residual-in_err-node_part_of-in-Some.ensures
    (no_part_of_node c.args.version c.args.text.now c.in_ok-name.name c.in_ok-name.part c.in_ok-name.ensures.cases c.in-Some.node.0 c.in-Some.ensures.some (λ p has. c.in_err-node_part_of-in-Some.ensures p))

pub returns-in_err-part-in-Some : goal.returns-in_err-part-in-Some
returns-in_err-part-in-Some c = rw c.from_residual-in_err-part-in-Some.ensures
    (no_part_of_node c.args.version c.args.text.now c.in_ok-name.name c.in_ok-name.part c.in_ok-name.ensures.cases c.in-Some.node.0 c.in-Some.ensures.some
    (λ p has is. c.in_err-part-in-Some.ensures (same_part c.args.version _ p (sym c.in_ok-node_part_of-in-Some.ensures ∙ is) has)))

pub returns-in_err-scx_of-in-None : goal.returns-in_err-scx_of-in-None
returns-in_err-scx_of-in-None c = rw c.from_residual-in_err-scx_of-in-None.ensures
    (no_record c.args.version c.args.text.now c.in_ok-name.name c.in_ok-name.part c.in_ok-name.ensures.cases c.in-None.ensures.none c.in_err-scx_of-in-None.ensures.none)

pub returns-in_err-scx_part_of-in-None : goal.returns-in_err-scx_part_of-in-None
returns-in_err-scx_part_of-in-None c = rw c.from_residual-in_err-scx_part_of-in-None.ensures
    (no_part_of_scx c.args.version c.args.text.now c.in_ok-name.name c.in_ok-name.part c.in_ok-name.ensures.cases c.in-None.ensures.none c.in_err-scx_part_of-in-None.ensures)
