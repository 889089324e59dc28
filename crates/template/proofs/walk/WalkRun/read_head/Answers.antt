use Rattle.std.proofs.Common.{refl, sym, ◌∙◌}
use Rattle.template.specs.declared.walk.WalkAt.TheVariants.{Key, Child}
use Rattle.template.specs.Walk.Known.{walk_step}
use Rattle.template.proofs.WalkTurns.{waits_at, level_is, fork_is, asked_low, unasked_turn, stays_unasked}
use Rattle.template.proofs.walk.WalkRun.read_head.Goals as goal

pub returns-then-asks_key-clause-turn : goal.returns-then-asks_key-clause-turn
returns-then-asks_key-clause-turn c d h k e =
    let m = c.args.self.now in
    waits_at d h m c.load_settled.new.self c.load_settled.result (Key c.args.head) (walk_step m (Key c.args.head)) k c.load_settled.ensures (k.trail, e, asked_low m.goal c.args.head (sym c.asks_key.ensures ∙ c.if-asks_key.true), c.if-head.false) (λ w. absurd) refl

pub returns-else-asks_key-clause-turn : goal.returns-else-asks_key-clause-turn
returns-else-asks_key-clause-turn c d h k e =
    let m = c.args.self.now in
    let turn = unasked_turn d h m c.args.head k e (sym c.asks_key.ensures ∙ c.if-asks_key.false) c.if-head.false in
    waits_at d h m c.load_child.new.self c.load_child.result (Child c.args.head.level c.open_side.result) (walk_step m (Child c.args.head.level c.open_side.result)) k c.load_child.ensures (k.trail, level_is d h m k c.args.head e, fork_is d h m k c.args.head e c.if-head.false, turn ∙ sym c.open_side.ensures) (λ w x. stays_unasked d h m c.args.head k e (sym c.asks_key.ensures ∙ c.if-asks_key.false) c.if-head.false w) refl
