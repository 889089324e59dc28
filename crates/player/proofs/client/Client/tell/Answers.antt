use Rattle.std.proofs.Common.{refl}
use Rattle.player.proofs.Clients.{told_from}
use Rattle.player.proofs.client.Client.tell.Goals as goal

pub returns-in_err-ended : goal.returns-in_err-ended
returns-in_err-ended c v q sound is x = rw c.from_residual.ensures (c.in_err-ended.ensures v c.args.self.now q sound is x)

pub returns : goal.returns
returns c v q sound is x =
    let ended = c.in_ok-ended.ensures v c.args.self.now q sound is x in
    told_from v c.args.self.now _ c.conclude.new.self c.hear.new.running c.args.self.now.share c.conclude.result refl (c.conclude.ensures v ended.0 sound ended.1 ended.2)
