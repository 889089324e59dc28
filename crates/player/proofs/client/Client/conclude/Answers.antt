use Rattle.player.proofs.Clients.{ended_as, answered_so, told_from}
use Rattle.player.proofs.client.Client.conclude.Goals as goal

pub returns : goal.returns
returns c v q sound is x =
    let p = c.in_ok-run.field-0 in
    let y = ended_as v c.args.self.now q p c.args.ended c.in_ok-run.ensures.value is x in
    told_from v c.args.self.now c.take_back.new.self c.after.new.self _ _ c.after.result c.take_back.ensures
    (c.after.ensures v p.run sound (answered_so v c.args.self.now p c.args.ended c.take.new.self c.take_back.new.self y c.in_ok-run.ensures.after c.take_back.ensures))
