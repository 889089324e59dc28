use Rattle.std.proofs.Common.{subst}
use Rattle.template.specs.Walk.Known.{EndsAt}
use Rattle.template.proofs.WalkTurns.{turn_key, ends_at_fork}
use Rattle.template.proofs.walk.WalkRun.read_key.Goals as goal

pub returns-then-ends_at-clause-turn : goal.returns-then-ends_at-clause-turn
returns-then-ends_at-clause-turn c d h k e low fork at =
    let m = c.args.self.now in
    ends_at_fork d h m c.end.new.self c.end.result c.args.head c.args.key k e low fork at c.ranges.key.fits (subst (EndsAt m c.args.key) c.if-ends_at.true c.ends_at.ensures) c.end.ensures

pub returns-else-ends_at-clause-turn : goal.returns-else-ends_at-clause-turn
returns-else-ends_at-clause-turn c d h k e low fork at =
    let m = c.args.self.now in
    turn_key d h m c.load_child.new.self c.load_child.result c.args.head c.side.result c.args.key k e low fork at c.side.ensures (subst (EndsAt m c.args.key) c.if-ends_at.false c.ends_at.ensures) c.load_child.ensures
