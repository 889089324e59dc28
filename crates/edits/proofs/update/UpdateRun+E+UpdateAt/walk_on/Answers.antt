use Rattle.template.proofs.Lemmas.{walk_past_root}
use Rattle.arena.specs.Machines.{begun_at}
use Rattle.edits.proofs.GoingOn.{still_nearer}
use Rattle.edits.proofs.Nearer.{walked, walked_on}
use Rattle.edits.proofs.Turns.{walks_on, walk_finds, walk_rests}
use Rattle.edits.proofs.update.UpdateRun+E+UpdateAt.walk_on.Goals as goal

pub returns-in-Done-clause-nearer : goal.returns-in-Done-clause-nearer
returns-in-Done-clause-nearer g c nodes fits = c.go_on.ensures.nearer nodes _ (still_nearer g.E.Edit.means c.test_share-next.new.self c.in-Done.found c.test_share-next.result nodes _ _ (c.test_share-next.ensures.nearer nodes) (walked (g.E.Edit.means.guard c.args.self.now.edit) c.args.walk.at _ _ _ _))

pub returns-in-Ask-clause-nearer : goal.returns-in-Ask-clause-nearer
returns-in-Ask-clause-nearer g c nodes fits = walked_on (g.E.Edit.means.guard c.args.self.now.edit) c.args.walk c.next.new.self _ nodes _ _ c.next.ensures.same.1 (rw c.in-Ask.is at c.next.ensures.nearer nodes fits)

pub returns-in-Ask-clause-turn : goal.returns-in-Ask-clause-turn
returns-in-Ask-clause-turn g c d b h v got run try first x told guarded =
    let past = walk_past_root c.args.walk (begun_at d b) h c.next.new.self v run told c.next.ensures.same.1 (λ nodes fits. rw c.in-Ask.is at c.next.ensures.nearer nodes (rw got fits)) in
    walks_on g.E.Edit.means c.args.self.now c.args.walk c.next.new.self d b h v c.next.result c.in-Ask.step try first x c.next.ensures.same past c.in-Ask.is (λ k told. c.next.ensures.turn (begun_at d k) h run (rw got told)) told guarded

pub returns-in-Done-clause-turn : goal.returns-in-Done-clause-turn
returns-in-Done-clause-turn g c d b h v got run try first x told guarded = c.go_on.ensures.turn d h run (c.test_share-next.ensures.turn d b h run try first
    (walk_rests g.E.Edit.means c.args.self.now c.args.walk (begun_at d b) h v x told) x.quiet x.none_filled
    (walk_finds g.E.Edit.means c.args.self.now c.args.walk c.next.new.self (begun_at d b) h c.next.result c.in-Done.found x c.next.ensures.same c.in-Done.is (begun_at d b) (c.next.ensures.turn (begun_at d b) h run (rw got told)))
    (λ is. let y = guarded is in (y.0, y.1, walk_finds g.E.Edit.means c.args.self.now c.args.walk c.next.new.self (begun_at d b) h c.next.result c.in-Done.found x c.next.ensures.same c.in-Done.is (begun_at (begun_at d b) y.0) (c.next.ensures.turn (begun_at (begun_at d b) y.0) h run (rw got y.2)))))

pub returns-in-Done-clause-spends : goal.returns-in-Done-clause-spends
returns-in-Done-clause-spends g c = c.go_on.ensures.spends c.args.self.now.share _ _ c.test_share-next.ensures.spends
