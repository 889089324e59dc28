use Rattle.std.proofs.Common.{refl}
use Rattle.prims.proofs.PutTurns.{told_first, told_scx, put_turn_start, turn_scx}
use Rattle.prims.proofs.put.PutRunMachine.next.Goals as goal

pub returns-in-Start-clause-turn : goal.returns-in-Start-clause-turn
returns-in-Start-clause-turn g c d h run r = put_turn_start g.S.Shape.allows c.args.self.now d h (told_first g.S.Shape.allows c.args.self.now d h c.args.got c.in-Start.is r)

pub returns-in-Scx-clause-turn : goal.returns-in-Scx-clause-turn
returns-in-Scx-clause-turn g c d h run r =
    let t = told_scx g.S.Shape.allows c.args.self.now d h c.args.got c.in-Scx.is r in
    turn_scx g.S.Shape.allows d h run.lawful c.args.self.now record { value = c.args.self.now.value; scx = c.next-in-Scx.new.self; at = c.args.self.now.at } c.next-in-Scx.result c.in-Scx.is refl c.next-in-Scx.ensures.same.0 c.next-in-Scx.ensures.same.1 t.0 (c.next-in-Scx.ensures.turn d h run t.1)

pub returns-in-Fill-clause-nearer : goal.returns-in-Fill-clause-nearer
returns-in-Fill-clause-nearer g c nodes fits = rw c.in-Fill.is (c.next.ensures.nearer nodes fits)

pub returns-in-Scx-clause-nearer : goal.returns-in-Scx-clause-nearer
returns-in-Scx-clause-nearer g c nodes fits = rw c.in-Scx.is (c.next-in-Scx.ensures.nearer nodes fits)
