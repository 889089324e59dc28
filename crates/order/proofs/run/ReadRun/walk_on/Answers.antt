use Rattle.std.proofs.Common.{◌∙◌, ap}
use Rattle.arena.specs.Machines.{begun_at}
use Rattle.template.proofs.Lemmas.{walk_past_root}
use Rattle.order.proofs.Nearer.{below, less_walk, past_walk}
use Rattle.template.specs.Balance.{nodes_by}
use Rattle.template.specs.Common.{path_key}
use Rattle.order.proofs.Turning.{turned_so}
use Rattle.order.proofs.Turns.{walk_less, walk_finds, walk_waits}
use Rattle.order.proofs.run.ReadRun.walk_on.Goals as goal

pub returns-in-Ask-clause-nearer : goal.returns-in-Ask-clause-nearer
returns-in-Ask-clause-nearer g c nodes way fits = less_walk _ _ _ _ _ _ _ (walk_less c.args.self.now.trie nodes c.args.walk c.next.new.self c.args.got way c.next.ensures.same.1 (λ x. rw c.in-Ask.is at c.next.ensures.nearer nodes x) fits)

pub returns-in-Ask-clause-turn : goal.returns-in-Ask-clause-turn
returns-in-Ask-clause-turn g c d begin h key v got try goes goal way to last ready =
    let past = walk_past_root c.args.walk (begun_at d begin) h c.next.new.self v goes.reads.run.1 ready c.next.ensures.same.1 (λ nodes fits. rw c.in-Ask.is at c.next.ensures.nearer nodes (rw got fits)) in
    let waits = rw c.in-Ask.is at (c.next.ensures.turn (begun_at d begin) h goes.reads.run.1 (rw got ready)) in
    let turned = turned_so (begun_at d begin) h key c.next.new.self c.args.turns (ap path_key (c.next.ensures.same.0 ∙ goal)) last c.args.self.now.trie goes.mode goes.reads.run c.args.walk v goal ready c.last_turns-turns.result waits.known (rw (c.unwrap_or.ensures, got) at c.last_turns-turns.ensures) in
    walk_waits g.R.Read.means c.args.self.now c.args.walk c.next.new.self c.args.side d begin h try goes key goal to (c.next.ensures.same.1 ∙ way) c.next.ensures.same.0 c.last_turns-turns.result turned c.in-Ask.step past waits

pub returns-in-Done-clause-turn : goal.returns-in-Done-clause-turn
returns-in-Done-clause-turn g c d begin h key v got try goes goal way to last ready = c.walked.ensures.turn d begin h key try goes to last (walk_finds g.R.Read.means c.args.self.now c.args.walk c.next.new.self (begun_at d begin) h c.next.result _ key goal (c.next.ensures.same.1 ∙ way) c.next.ensures.same.0 c.in-Done.is (c.next.ensures.turn (begun_at d begin) h goes.reads.run.1 (rw got ready)))

pub returns-in-Done-clause-nearer : goal.returns-in-Done-clause-nearer
returns-in-Done-clause-nearer g c nodes way fits = below c.walked.result _ _ _ (c.walked.ensures.nearer (nodes_by c.args.self.now.trie nodes)) (past_walk _ _ _ _ _ _)
