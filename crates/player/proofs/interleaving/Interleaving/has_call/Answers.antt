use Rattle.std.proofs.Common.{◌∙◌}
use Rattle.player.proofs.Stands.{client_there, own_next}
use Rattle.player.proofs.interleaving.Interleaving.has_call.Goals as goal

pub returns : goal.returns
returns c lines played =
    let p = c.args.self.now in
    let d = c.index.result.now in
    c.has_call.ensures ∙ own_next p lines c.args.client.0 0 d d played (client_there p c.args.client.0 d c.requires.client c.index.ensures)
