use Rattle.std.proofs.Common.{refl}
use Rattle.player.proofs.Followed.{so_of_result}
use Rattle.player.proofs.player.Player.obey.Goals as goal

pub returns : goal.returns
returns c =
    let x = so_of_result c.obey.result c.args.self.now c.obey.new.player _ _ (c.obey.ensures.obeyed tt c.args.self.now refl) (c.obey.ensures.stopped tt c.args.self.now refl) in
    record { script = x.0; ordered = x.1; stopped = x.2 }
