use Rattle.std.proofs.Common.{sym, subst}
use Rattle.edits.specs.Steps.{Spends}
use Rattle.edits.proofs.GoingOn.{goes_on, comes_nearer, has_spent, spends_on}
use Rattle.edits.proofs.Nearer.{below}
use Rattle.edits.proofs.update.UpdateRun+E+UpdateAt.go_on.Goals as goal

pub returns-in-Ok-clause-turn : goal.returns-in-Ok-clause-turn
returns-in-Ok-clause-turn g c d h run x = goes_on g.E.Edit.means c.args.self.now c.begin.new.self c.args.found c.in-Ok.next c.begin.result c.begin.ensures.place c.begin.ensures.asks d h (rw c.in-Ok.is at x)

pub returns-in-Ok-clause-nearer : goal.returns-in-Ok-clause-nearer
returns-in-Ok-clause-nearer g c nodes n x = comes_nearer g.E.Edit.means c.args.self.now c.begin.new.self c.args.found c.in-Ok.next c.begin.result c.begin.ensures.place c.begin.ensures.asks nodes n (rw c.in-Ok.is at x)

pub returns-in-Ok-clause-spends : goal.returns-in-Ok-clause-spends
returns-in-Ok-clause-spends g c share nodes scx x = has_spent g.E.Edit.means c.args.self.now c.begin.new.self c.args.found c.in-Ok.next c.begin.result c.begin.ensures.place c.begin.ensures.asks share nodes scx (rw c.in-Ok.is at x)

pub returns-in-Err-clause-turn : goal.returns-in-Err-clause-turn
returns-in-Err-clause-turn g c d h run x = c.stop.ensures.turn d h run (rw c.in-Err.is at x)

pub returns-in-Err-clause-nearer : goal.returns-in-Err-clause-nearer
returns-in-Err-clause-nearer g c nodes n x = below c.stop.result _ _ n (c.stop.ensures.nearer nodes) (rw c.in-Err.is at x)

pub returns-in-Err-clause-spends : goal.returns-in-Err-clause-spends
returns-in-Err-clause-spends g c share nodes scx x = spends_on g.E.Edit.means c.stop.result share c.args.self.now.share c.stop.new.self nodes scx c.args.self.now.tries (subst (λ ed. Spends (g.E.Edit.means.most_nodes ed) share c.args.self.now.share nodes c.args.self.now.tries scx c.args.self.now.tries) (sym c.stop.ensures.same.0) (rw c.in-Err.is at x)) c.stop.ensures.spends
