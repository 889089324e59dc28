use Rattle.std.proofs.Common.{inl, refl}
use Rattle.histories.specs.Common.{begun_at, LoadSettled}
use Rattle.arena.specs.declared.step.Access.TheVariants as accesses
use Rattle.order.specs.Places.{RunComesNearer}
use Rattle.order.specs.declared.read.ReadNext.TheVariants.{Load, Look}
use Rattle.order.proofs.Blaming.{first_look}
use Rattle.order.proofs.Looking.{validates}
use Rattle.order.proofs.Nearer.{below, from_validate}
use Rattle.order.proofs.Turns.{reading, some_left, stands_there, stands_nearer}
use Rattle.order.proofs.run.ReadRun.stand.Goals as goal

pub returns-in-Load-clause-turn : goal.returns-in-Load-clause-turn
returns-in-Load-clause-turn g c d h x = stands_there g.R.Read.means c.args.self.now c.load.new.self d h c.load.result (Load c.in-Load.load) c.load.ensures.stands (rw c.word.ensures at c.load.ensures.asked) (rw c.in-Load.is at x)

pub returns-in-Load-clause-nearer : goal.returns-in-Load-clause-nearer
returns-in-Load-clause-nearer g c nodes n near =
    let x : RunComesNearer g.R.Read.means c.args.self.now nodes (Load c.in-Load.load) n = rw c.in-Load.is at near in
    stands_nearer g.R.Read.means c.args.self.now c.load.new.self c.load.result (Load c.in-Load.load) (record { kind = LoadSettled; word = c.word.result; access = accesses.Load }) nodes n c.load.ensures.stands c.load.ensures.asked (some_left g.R.Read.means c.args.self.now (Load c.in-Load.load) nodes n tt x) x

pub returns-in-Load-clause-tries : goal.returns-in-Load-clause-tries
returns-in-Load-clause-tries g c d h x = rw c.load.ensures.stands (inl refl)

pub returns-in-Look-clause-turn : goal.returns-in-Look-clause-turn
returns-in-Look-clause-turn g c d h x = stands_there g.R.Read.means c.args.self.now c.look.new.self d h c.look.result (Look c.in-Look.children c.in-Look.level c.in-Look.node) c.look.ensures.stands c.look.ensures.asked (rw c.in-Look.is at x)

pub returns-in-Look-clause-nearer : goal.returns-in-Look-clause-nearer
returns-in-Look-clause-nearer g c nodes n near =
    let x : RunComesNearer g.R.Read.means c.args.self.now nodes (Look c.in-Look.children c.in-Look.level c.in-Look.node) n = rw c.in-Look.is at near in
    stands_nearer g.R.Read.means c.args.self.now c.look.new.self c.look.result (Look c.in-Look.children c.in-Look.level c.in-Look.node) _ nodes n c.look.ensures.stands c.look.ensures.asked (some_left g.R.Read.means c.args.self.now (Look c.in-Look.children c.in-Look.level c.in-Look.node) nodes n tt x) x

pub returns-in-Look-clause-tries : goal.returns-in-Look-clause-tries
returns-in-Look-clause-tries g c d h x = rw c.look.ensures.stands (inl refl)

pub returns-in-Validate-clause-turn : goal.returns-in-Validate-clause-turn
returns-in-Validate-clause-turn g c d h x =
    let y = rw c.in-Validate.is at x in
    let goes = y.2.0 in
    c.validate_on.ensures.turn d y.0 h h y.1 goes (validates g.R.Read.means c.args.self.now.read c.args.self.now.snaps.items (begun_at d y.0) h (reading g.R.Read.means c.args.self.now (begun_at d y.0) h goes) y.2.1) (first_look (begun_at d y.0) h c.args.self.now.snaps.items goes.reads y.2.1.some)

pub returns-in-Validate-clause-nearer : goal.returns-in-Validate-clause-nearer
returns-in-Validate-clause-nearer g c nodes n near = let i = (rw c.in-Validate.is at near).1 in below c.validate_on.result _ _ _ (c.validate_on.ensures.nearer nodes) (from_validate _ _ _ i)

pub returns-in-Validate-clause-tries : goal.returns-in-Validate-clause-tries
returns-in-Validate-clause-tries g c d h x =
    let y = rw c.in-Validate.is at x in
    c.validate_on.ensures.tries d h h y.0 (validates g.R.Read.means c.args.self.now.read c.args.self.now.snaps.items d h (reading g.R.Read.means c.args.self.now d h y.0) y.1) (first_look d h c.args.self.now.snaps.items y.0.reads y.1.some)
