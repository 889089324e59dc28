use Rattle.std.proofs.Common.{◌∙◌, refl, sym}
use Rattle.histories.specs.Common.{head_of, Left}
use Rattle.template.specs.Common.{End}
use Rattle.straight.proofs.StraightWalk.{to_known}
use Rattle.straight.proofs.last_walk.pass_last.Goals as goal

pub end_last-requires-clause-leaf : goal.end_last-requires-clause-leaf
end_last-requires-clause-leaf g c = sym c.is_leaf.ensures ∙ c.if-is_leaf.true

pub end_last-requires-clause-told : goal.end_last-requires-clause-told
end_last-requires-clause-told g c = c.requires.told

pub returns-then-is_leaf-clause-finds : goal.returns-then-is_leaf-clause-finds
returns-then-is_leaf-clause-finds g c = λ w turn x. c.end_last.ensures.finds w turn x

pub returns-clause-down : goal.returns-clause-down
returns-clause-down g c = λ w turn x.
    let fork = sym c.is_leaf.ensures ∙ c.if-is_leaf.false in
    to_known w _ c.args.way (End c.args.side) c.args.trail turn c.args.at c.args.word (head_of c.args.word) c.requires.stands.place refl Left fork refl (c.requires.left fork) x
