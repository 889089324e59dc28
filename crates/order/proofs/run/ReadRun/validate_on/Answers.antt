use Rattle.std.proofs.Common.{◌≡◌, ap, ◌∙◌, Bor, List, refl}
use Rattle.arena.specs.declared.machine.Turn.TheVariants.{Done}
use Rattle.template.specs.Common.{Same, Changed, Snap}
use Rattle.order.proofs.Nearer.{below, less_vlx, to_tries}
use Rattle.order.proofs.Turns.{vlx_turn, vlx_nearer, validates_on, told, changed}
use Rattle.order.proofs.run.ReadRun.validate_on.Goals as goal

pub returns-in-Ask-clause-turn : goal.returns-in-Ask-clause-turn
returns-in-Ask-clause-turn g c d begin look h try goes x ready = validates_on g.R.Read.means c.args.self.now d begin look h goes x c.next-turn.new.self.asked c.next-turn.result c.in-Ask.step (vlx_turn g.R.Read.means c.args.self.now d begin look h _ _ c.args.asked _ c.args.got _ c.as_slice.ensures.value (ap (λ (b : Bor (List Snap)). b.now) c.next-turn.ensures.same) c.next-turn.ensures.turn goes ready) c.in-Ask.is try

pub returns-in-Ask-clause-nearer : goal.returns-in-Ask-clause-nearer
returns-in-Ask-clause-nearer g c nodes = less_vlx _ _ _ (vlx_nearer g.R.Read.means c.args.self.now _ _ c.args.asked c.next-turn.new.self.asked c.next-turn.result c.in-Ask.step c.as_slice.ensures.value (ap (λ (b : Bor (List Snap)). b.now) c.next-turn.ensures.same) c.in-Ask.is (c.next-turn.ensures.nearer nodes tt))

pub returns-in-Done-Same-clause-turn : goal.returns-in-Done-Same-clause-turn
returns-in-Done-Same-clause-turn g c d begin look h try goes x ready =
    let is_same : c.in-Done-Same.field-0 ≡ Same = rw c.in-Done-Same.is at c.in-Done-Same.field-0-is in
    told g.R.Read.means c.args.self.now d begin look h goes x c.next-turn.result c.next-turn.new.self.asked (record c.args.self.now { read = c.answer.new.self }) c.answer.result (vlx_turn g.R.Read.means c.args.self.now d begin look h _ _ c.args.asked _ c.args.got _ c.as_slice.ensures.value (ap (λ (b : Bor (List Snap)). b.now) c.next-turn.ensures.same) c.next-turn.ensures.turn goes ready) (c.in-Done-Same.is ∙ ap (λ a. Done a) is_same) try c.answer.ensures.same refl c.answer.ensures.told

pub returns-in-Done-Changed-clause-turn : goal.returns-in-Done-Changed-clause-turn
returns-in-Done-Changed-clause-turn g c d begin look h try goes x ready =
    let is_changed : c.in-Done-Changed.field-0 ≡ Changed c.in-Done-Changed.node c.in-Done-Changed.scx = rw c.in-Done-Changed.is at c.in-Done-Changed.field-0-is in
    let way = changed g.R.Read.means c.args.self.now d begin look h goes x c.next-turn.result c.next-turn.new.self.asked c.in-Done-Changed.node c.in-Done-Changed.scx (vlx_turn g.R.Read.means c.args.self.now d begin look h _ _ c.args.asked _ c.args.got _ c.as_slice.ensures.value (ap (λ (b : Bor (List Snap)). b.now) c.next-turn.ensures.same) c.next-turn.ensures.turn goes ready) (c.in-Done-Changed.is ∙ ap (λ a. Done a) is_changed) in
    c.lost.ensures.turn d begin h try goes (rw (← c.in-Done-Changed.node-is, ← c.in-Done-Changed.scx-is) at way)

pub returns-in-Done-Changed-clause-nearer : goal.returns-in-Done-Changed-clause-nearer
returns-in-Done-Changed-clause-nearer g c nodes = below c.lost.result _ _ _ (c.lost.ensures.nearer nodes) (to_tries _ _)

pub returns-in-Done-Changed-clause-tries : goal.returns-in-Done-Changed-clause-tries
returns-in-Done-Changed-clause-tries g c d look h goes x ready =
    let is_changed : c.in-Done-Changed.field-0 ≡ Changed c.in-Done-Changed.node c.in-Done-Changed.scx = rw c.in-Done-Changed.is at c.in-Done-Changed.field-0-is in
    let way = changed g.R.Read.means c.args.self.now d d.start look h goes x c.next-turn.result c.next-turn.new.self.asked c.in-Done-Changed.node c.in-Done-Changed.scx (vlx_turn g.R.Read.means c.args.self.now d d.start look h _ _ c.args.asked _ c.args.got _ c.as_slice.ensures.value (ap (λ (b : Bor (List Snap)). b.now) c.next-turn.ensures.same) c.next-turn.ensures.turn goes ready) (c.in-Done-Changed.is ∙ ap (λ a. Done a) is_changed) in
    c.lost.ensures.tries d h x.asks (rw (← c.in-Done-Changed.node-is, ← c.in-Done-Changed.scx-is) at way)
