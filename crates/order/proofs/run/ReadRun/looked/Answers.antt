use Rattle.std.proofs.Common.{◌≡◌, [], ◌∷◌, ◌++◌}
use Rattle.order.proofs.Looking.{reads_on, stands_below}
use Rattle.order.proofs.Turns.{goes_on_reading, reading}
use Rattle.order.proofs.run.ReadRun.looked.Goals as goal

pub returns-in-Ok-clause-goes_on : goal.returns-in-Ok-clause-goes_on
returns-in-Ok-clause-goes_on g c d h goes x is =
    let items : c.push_onto.new.list.items ≡ c.args.self.now.snaps.items ++ c.args.snap ∷ [] = rw c.if-push_onto.true at c.push_onto.ensures in
    (goes_on_reading g.R.Read.means c.args.self.now d h goes _ c.push_onto.new.list (rw items (reads_on g.R.Read.means c.args.self.now.read c.args.self.now.snaps.items d h (reading g.R.Read.means c.args.self.now d h goes) c.args.snap is c.args.children c.args.level x c.looked.new.self c.looked.ensures.same)), rw items (stands_below g.R.Read.means c.args.self.now.read c.args.self.now.snaps.items d h (reading g.R.Read.means c.args.self.now d h goes) c.args.snap is c.args.children c.args.level x c.looked.new.self c.in-Ok.node (rw c.in-Ok.is at c.looked.ensures.goes_on) c.looked.ensures.same))

pub returns-in-Err-clause-goes_on : goal.returns-in-Err-clause-goes_on
returns-in-Err-clause-goes_on g c d h goes x is =
    let items : c.push_onto.new.list.items ≡ c.args.self.now.snaps.items ++ c.args.snap ∷ [] = rw c.if-push_onto.true at c.push_onto.ensures in
    (goes_on_reading g.R.Read.means c.args.self.now d h goes _ c.push_onto.new.list (rw items (reads_on g.R.Read.means c.args.self.now.read c.args.self.now.snaps.items d h (reading g.R.Read.means c.args.self.now d h goes) c.args.snap is c.args.children c.args.level x c.looked.new.self c.looked.ensures.same)), rw c.in-Err.is at c.looked.ensures.goes_on)
