use Rattle.report.proofs.WordTexts.{no_scx_part}
use Rattle.report.proofs.word.scx_part_of.Goals as goal

pub returns-in_default : goal.returns-in_default
returns-in_default c =
    let no = c.in_default in
    no_scx_part c.args.name.now no.not-call no.not-state no.not-allfrozen no.not-plan no.not-new no.not-old no.not-v0 no.not-v1 no.not-v2 no.not-v3 no.not-i0 no.not-i1 no.not-i2 no.not-i3
