use Rattle.player.proofs.Begins.{next_is, mode_there, stood_refused, stood_begun, get_there}
use Rattle.player.proofs.client.Client.begin_next.Goals as goal

pub returns-in-Some-begin : goal.returns-in-Some-begin
returns-in-Some-begin c v began sound some mode e r unbegun =
    let there = get_there c.args.calls.now c.in-Some.at c.in-Some-get.call.now c.in-Some-get.ensures.lookup.0 c.in-Some-get.ensures.lookup.1 in
    stood_refused v c.args.turn c.args.self.now c.begin.new.self c.in-Some-begin.answer r
    (c.in-Some-begin.ensures v began sound some (mode_there v.layout.mode v.calls c.in-Some.at c.in-Some-get.call.now mode (rw e at there)) r (unbegun (λ d. cc)) (next_is v c.args.self.now c.args.calls.now c.in-Some.at c.in-Some-get.call.now r e c.in-Some.is there))

pub returns : goal.returns
returns c v began sound some mode e r unbegun =
    let there = get_there c.args.calls.now c.in-Some.at c.in-Some-get.call.now c.in-Some-get.ensures.lookup.0 c.in-Some-get.ensures.lookup.1 in
    stood_begun v c.args.turn c.args.self.now c.begin.new.self c.asked.result r
    (c.in_default-begin.ensures v began sound some (mode_there v.layout.mode v.calls c.in-Some.at c.in-Some-get.call.now mode (rw e at there)) r (unbegun (λ d. cc)) (next_is v c.args.self.now c.args.calls.now c.in-Some.at c.in-Some-get.call.now r e c.in-Some.is there)) c.asked.ensures
