use Rattle.std.proofs.Common.{ap, ◌∙◌}
use Rattle.histories.specs.Common.{Done, begun_at}
use Rattle.edits.proofs.Nearer.{below, to_tries, less_scx}
use Rattle.edits.proofs.Turns.{scx_asks, scx_done, scx_lost}
use Rattle.edits.proofs.update.UpdateRun+E+UpdateAt.scx_on.Goals as goal

pub returns-in-Ask-clause-nearer : goal.returns-in-Ask-clause-nearer
returns-in-Ask-clause-nearer g c nodes = less_scx _ _ _ (rw c.in-Ask.is at c.next.ensures.nearer nodes tt)

pub returns-in-Done-Lost-clause-nearer : goal.returns-in-Done-Lost-clause-nearer
returns-in-Done-Lost-clause-nearer g c nodes = below c.lost.result _ _ _ (c.lost.ensures.nearer nodes) (to_tries _ _)

pub returns-in-Done-Done-clause-nearer : goal.returns-in-Done-Done-clause-nearer
returns-in-Done-Done-clause-nearer g c nodes = tt

pub returns-in-Ask-clause-turn : goal.returns-in-Ask-clause-turn
returns-in-Ask-clause-turn g c d b begin h run try x ready = (b, try, tt, scx_asks g.E.Edit.means c.args.self.now c.args.scx c.next.new.self c.args.found begin (begun_at d b) h c.next.result c.in-Ask.step x c.next.ensures.same.0 c.next.ensures.same.1 c.next.ensures.same.2 c.in-Ask.is (c.next.ensures.turn (begun_at (begun_at d b) begin) h run ready))

pub returns-in-Done-Lost-clause-turn : goal.returns-in-Done-Lost-clause-turn
returns-in-Done-Lost-clause-turn g c d b begin h run try x ready =
    let t = scx_lost g.E.Edit.means c.args.self.now c.args.scx c.next.new.self c.args.found d b begin h c.next.result c.in-Done-Lost.node c.in-Done-Lost.scx try x c.next.ensures.same.0 c.next.ensures.same.1 (c.in-Done-Lost.is ∙ ap (λ a. Done a) c.in-Done-Lost.field-0-is) (c.next.ensures.turn (begun_at (begun_at d b) begin) h run ready) in
    c.lost.ensures.turn d h run t.0 (rw (← c.in-Done-Lost.node-is, ← c.in-Done-Lost.scx-is) at t.1)

pub returns-in-Done-Done-clause-turn : goal.returns-in-Done-Done-clause-turn
returns-in-Done-Done-clause-turn g c d b begin h run try x ready = rw c.at.ensures (scx_done g.E.Edit.means g.met.E.Edit.laws.at_found g.met.E.Edit.laws.at_end c.args.self.now c.args.scx c.next.new.self c.args.found d b begin h c.next.result try x c.next.ensures.same.0 c.next.ensures.same.1 c.next.ensures.same.2 (c.in-Done-Done.is ∙ ap (λ a. Done a) c.in-Done-Done.field-0-is) (c.next.ensures.turn (begun_at (begun_at d b) begin) h run ready))
