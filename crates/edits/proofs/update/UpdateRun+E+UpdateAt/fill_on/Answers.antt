use Rattle.std.proofs.Common.{sym, ◌∙◌}
use Rattle.arena.specs.Machines.{begun_at}
use Rattle.edits.proofs.Filling.{fills_next}
use Rattle.edits.proofs.GoingOn.{still_nearer, fill_goes_on, fill_nearer, fill_spends}
use Rattle.edits.proofs.Nearer.{to_next_fill, fewer_fills, past_fills}
use Rattle.edits.proofs.update.UpdateRun+E+UpdateAt.fill_on.Goals as goal

pub returns-in-Some-clause-nearer : goal.returns-in-Some-clause-nearer
returns-in-Some-clause-nearer g c nodes = fill_nearer g.E.Edit.means c.args.self.now c.fill.new.self c.args.found c.args.nth c.in-Some.next c.fill.result c.fill.ensures.place c.fill.ensures.asks nodes _ (to_next_fill _ _ _ _ (fewer_fills _ c.args.part c.in-Some.next (rw (sym c.piece-piece.ensures) (sym c.behind.ensures ∙ c.in-Some.is))))

pub returns-in-Some-clause-spends : goal.returns-in-Some-clause-spends
returns-in-Some-clause-spends g c left = fill_spends g.E.Edit.means c.args.self.now c.fill.new.self c.args.found c.args.nth c.in-Some.next c.fill.result c.fill.ensures.place c.fill.ensures.asks

pub returns-in-Some-clause-turn : goal.returns-in-Some-clause-turn
returns-in-Some-clause-turn g c d b h run try x = fill_goes_on g.E.Edit.means c.args.self.now c.fill.new.self c.args.found c.args.nth c.in-Some.next c.fill.result c.fill.ensures.place c.fill.ensures.asks d b h try
    (fills_next g.E.Edit.means c.args.self.now (begun_at d b) h c.args.found c.args.nth c.args.part x c.in-Some.next g.met.E.Edit.laws.fills (rw (sym c.piece-piece.ensures) (sym c.behind.ensures ∙ c.in-Some.is)))

pub returns-clause-nearer : goal.returns-clause-nearer
returns-clause-nearer g c nodes = c.go_on.ensures.nearer nodes _ (still_nearer g.E.Edit.means c.filled-next.new.self c.args.found c.filled-next.result nodes _ _ (c.filled-next.ensures.nearer nodes) (past_fills _ _ _))

pub returns-clause-spends : goal.returns-clause-spends
returns-clause-spends g c left = c.go_on.ensures.spends c.args.self.now.share _ _ (c.filled-next.ensures.spends left)

pub returns-clause-turn : goal.returns-clause-turn
returns-clause-turn g c d b h run try x = c.go_on.ensures.turn d h run (c.filled-next.ensures.turn d b h c.args.part run try x (rw (sym c.piece-piece.ensures) (sym c.behind.ensures ∙ c.in_default.is)))
