use Rattle.std.proofs.Common.{◌∙◌, refl, sym}
use Rattle.histories.specs.Common.{head_of}
use Rattle.straight.proofs.StraightWalk.{to_open}
use Rattle.straight.proofs.walk.pass_open.Goals as goal

pub returns-clause-goes : goal.returns-clause-goes
returns-clause-goes g c = λ w turn x.
    let fork = sym c.is_leaf.ensures ∙ c.if-is_leaf.false in
    rw c.open_side.ensures (to_open w _ c.args.way c.args.goal c.args.trail turn c.args.at c.args.word (head_of c.args.word) c.requires.stands.place refl fork (c.requires.open fork) c.counts_above.result c.counts_above.ensures.yes x)
