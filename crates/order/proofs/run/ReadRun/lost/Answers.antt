use Rattle.std.proofs.Common.{refl}
use Rattle.order.proofs.Blaming.{all_lost, begins_again, gives_up, tried_here, try_contended}
use Rattle.order.proofs.Nearer.{below, try_less}
use Rattle.order.proofs.run.ReadRun.lost.Goals as goal

pub returns-clause-nearer : goal.returns-clause-nearer
returns-clause-nearer g c nodes = below c.begin.result _ _ _ (c.begin.ensures.nearer nodes) (try_less _ _ c.if-self-eq0.false)

pub returns-clause-turn : goal.returns-clause-turn
returns-clause-turn g c d begin h try goes way = c.begin.ensures.turn d begin h (begins_again d begin h _ _ _ _ _ try way goes.reads.since c.if-self-eq0.false refl) goes

pub returns-then-self-eq0-clause-turn : goal.returns-then-self-eq0-clause-turn
returns-then-self-eq0-clause-turn g c d begin h try goes way = (goes.reads.over, (try_contended d begin h _ _ _ _ try way, c.if-self-eq0.true, all_lost d begin h _ _ _ _ try c.if-self-eq0.true way), tried_here d h begin _ _ try)

pub returns-clause-tries : goal.returns-clause-tries
returns-clause-tries g c d h asks way = gives_up d h c.args.self.now.tries _ c.begin.result _ _ (c.begin.ensures.begins asks) c.if-self-eq0.false c.begin.ensures.tries way
