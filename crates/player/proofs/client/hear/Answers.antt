use Rattle.std.proofs.Common.{sym, ◌∙◌}
use Rattle.player.specs.ClientView.{machine_call}
use Rattle.player.proofs.Clients.{goes_on, hears_as, ends_there}
use Rattle.player.proofs.client.hear.Goals as goal

pub returns-in-Ask : goal.returns-in-Ask
returns-in-Ask c v d q sound is x =
    let p = c.in-Some.here in
    let y = hears_as v d q p c.args.found (sym c.in-Some.is ∙ is) x in
    let call = machine_call v d y.works.is_pass y.works.start in
    goes_on v d p.run c.next.new.self p.then c.in-Ask.step y.works c.in-Ask.ensures.same (c.in-Ask.ensures.turn call v.past y.works.mode sound y.ready) y.few (λ taken i. c.in-Ask.ensures.nearer call v.past taken y.works.mode sound y.ready i)

pub returns-in-Done : goal.returns-in-Done
returns-in-Done c v d q sound is x =
    let p = c.in-Some.here in
    let y = hears_as v d q p c.args.found (sym c.in-Some.is ∙ is) x in
    ends_there v d p c.next.new.self c.in-Done.ended c.args.found y c.in-Done.ensures.same (c.in-Done.ensures.turn (machine_call v d y.works.is_pass y.works.start) v.past y.works.mode sound y.ready)
