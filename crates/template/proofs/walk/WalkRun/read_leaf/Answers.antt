use Rattle.std.proofs.Common.{None, refl, arith, subst}
use Rattle.template.specs.Walk.Known.{WalkEnds}
use Rattle.template.specs.declared.walk.WalkAt.TheVariants.{More}
use Rattle.template.specs.Walk.Known.{walk_step}
use Rattle.template.proofs.WalkTurns.{ends_above, waits_at}
use Rattle.template.proofs.walk.WalkRun.read_leaf.Goals as goal

pub returns-then-head-eq0-clause-turn : goal.returns-then-head-eq0-clause-turn
returns-then-head-eq0-clause-turn c d h k e =
    let m = c.args.self.now in
    waits_at d h m c.load_settled.new.self c.load_settled.result (More c.args.head) (walk_step m (More c.args.head)) k c.load_settled.ensures record { trail = k.trail; head = e; low = grind (arith, c.if-head-eq0.true); leaf = c.requires } (λ w. absurd) refl

pub returns-else-head-eq0-clause-turn : goal.returns-else-head-eq0-clause-turn
returns-else-head-eq0-clause-turn c d h k e =
    let m = c.args.self.now in
    ends_above d h m c.end.new.self c.end.result c.args.head k (subst (λ key. WalkEnds m c.end.new.self c.end.result c.args.head 0 key None) c.asked_key.ensures c.end.ensures) e (λ z. grind (arith, z, c.if-head-eq0.false)) c.requires
