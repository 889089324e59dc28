use Rattle.std.proofs.Common.{◌≡◌, None, Some, subst}
use Rattle.histories.specs.Common.{First}
use Rattle.order.proofs.Nearby.{searches_for}
use Rattle.order.specs.Known.{IsSearchFor}
use Rattle.order.specs.declared.near.NearAt.TheVariants.{Key}
use Rattle.order.specs.declared.near.NearRun.{NearRun}
use Rattle.order.proofs.run.ReadRun.nearby.Goals as goal

pub returns-then-above-found-clause-knows : goal.returns-then-above-found-clause-knows
returns-then-above-found-clause-knows g c d h key side near is goes to last found =
    let this : NearRun = record { key = c.in_ok-key.key; side = c.in_ok-key.side; node = c.args.found.trail.node; more = c.args.found.more; at = Key First None } in
    let same : this ≡ near = (let z : Some this ≡ Some near = is in cc) in
    subst (IsSearchFor g.R.Read.means c.args.self.now.read d h) same (searches_for g.R.Read.means c.args.self.now d h goes key side c.args.turns c.args.found c.in_ok-key.key c.in_ok-key.side to last found c.if-found-eq0.true (rw c.to-above.ensures at c.if-above-found.true) (c.beside.ensures c.in_ok-key.key c.in_ok-key.side c.in_ok-key.was))
