use Rattle.std.proofs.Common.{refl}
use Rattle.player.specs.ClientView.{machine_call}
use Rattle.player.proofs.Clients.{goes_on}
use Rattle.player.proofs.Begins.{asks_first, begins_so}
use Rattle.player.proofs.client.Client.run.Goals as goal

pub returns-in-Ask-clause-begins : goal.returns-in-Ask-clause-begins
returns-in-Ask-clause-begins c v sound x =
    let w = x.works in
    begins_so v c.args.self.now _ (goes_on v c.args.self.now c.args.run c.next.new.self c.args.then c.in-Ask.step w c.in-Ask.ensures.same (c.in-Ask.ensures.turn (machine_call v c.args.self.now w.is_pass w.start) v.past w.mode sound x.ready) x.few (λ taken i. c.in-Ask.ensures.nearer (machine_call v c.args.self.now w.is_pass w.start) v.past taken w.mode sound x.ready i))

pub returns-in-Done-clause-begins : goal.returns-in-Done-clause-begins
returns-in-Done-clause-begins c v sound x = absurd (c.in-Done.ensures.begins refl (asks_first x.works.command c.args.self.now.number c.args.run c.args.then x.works.run_of) (machine_call v c.args.self.now x.works.is_pass x.works.start) v.past x.ready)

pub returns-in-Done-clause-asks : goal.returns-in-Done-clause-asks
returns-in-Done-clause-asks c v sound x = absurd (c.in-Done.ensures.begins refl (asks_first x.works.command c.args.self.now.number c.args.run c.args.then x.works.run_of) (machine_call v c.args.self.now x.works.is_pass x.works.start) v.past x.ready)
