use Rattle.std.proofs.Common.{◌<◌, Bool, sym, subst}
use Rattle.histories.specs.Common.{MatchTurn}
use Rattle.template.specs.Balance.{nodes_by}
use Rattle.order.specs.Steps.{read_left}
use Rattle.order.proofs.run.ReadRunMachineTree.next.Goals as goal

pub returns-clause-nearer : goal.returns-clause-nearer
returns-clause-nearer g c nodes fits = subst (λ (t : Bool). MatchTurn c.step.result (λ _. read_left g.R.Read.means c.step.new.self (nodes_by t nodes) < read_left g.R.Read.means c.args.self.now (nodes_by c.args.self.now.trie nodes)) (λ _. Unit {0})) (sym c.step.ensures.same.4) (c.step.ensures.nearer nodes fits)
