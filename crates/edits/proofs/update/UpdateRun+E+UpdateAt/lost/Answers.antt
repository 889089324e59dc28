use Rattle.std.proofs.Common.{◌≡◌, inr}
use Rattle.edits.proofs.Nearer.{below, try_less, one_back}
use Rattle.edits.proofs.Turns.{all_lost, asks_on, lost_tried, lost_way, next_may}
use Rattle.edits.proofs.update.UpdateRun+E+UpdateAt.lost.Goals as goal

pub returns-clause-gives_up : goal.returns-clause-gives_up
returns-clause-gives_up g c = asks_on (c.args.self.now.tries ≡ 0) c.begin_walk.result c.begin_walk.ensures.begins

pub returns-then-self-eq0-clause-gives_up : goal.returns-then-self-eq0-clause-gives_up
returns-then-self-eq0-clause-gives_up g c = c.if-self-eq0.true

pub returns-clause-nearer : goal.returns-clause-nearer
returns-clause-nearer g c nodes = below c.begin_walk.result _ _ _ (c.begin_walk.ensures.nearer nodes) (try_less _ _ c.if-self-eq0.false)

pub returns-clause-spends : goal.returns-clause-spends
returns-clause-spends g c = rw (one_back c.args.self.now.tries c.if-self-eq0.false) at c.begin_walk.ensures.spends

pub returns-clause-turn : goal.returns-clause-turn
returns-clause-turn g c d h run b x =
    let m = c.args.self.now in
    c.begin_walk.ensures.turn d h run b (next_may g.E.Edit.means m d h c.args.node.0 c.args.scx.0 c.if-self-eq0.false b x) (inr (c.args.node.0, c.args.scx.0, lost_way g.E.Edit.means m d h c.args.node.0 c.args.scx.0 x))

pub returns-then-self-eq0-clause-turn : goal.returns-then-self-eq0-clause-turn
returns-then-self-eq0-clause-turn g c d h run b x =
    let m = c.args.self.now in
    (b.rests, (c.if-self-eq0.true, all_lost g.E.Edit.means m d h c.args.node.0 c.args.scx.0 c.if-self-eq0.true x), lost_tried g.E.Edit.means m d h c.args.node.0 c.args.scx.0 x)
