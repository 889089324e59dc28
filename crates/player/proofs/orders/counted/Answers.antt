use Rattle.std.proofs.Common.{◌≡◌}
use Rattle.record.specs.Turns.{is_of}
use Rattle.player.proofs.Followed.{kinds_more, one_more}
use Rattle.player.proofs.SameKinds.{kind_is}
use Rattle.player.proofs.orders.counted.Goals as goal

pub returns-in-Step-clause-more : goal.returns-in-Step-clause-more
returns-in-Step-clause-more c = λ p later row told. rw c.in-Step.is (one_more p later _ row told.turn)

pub returns-in-Call-clause-more : goal.returns-in-Call-clause-more
returns-in-Call-clause-more c = λ p later row told. rw (c.in-Call.is, c.from.ensures) ((rw c.in-Call.is at told).replies)

pub returns-in-Until-clause-more : goal.returns-in-Until-clause-more
returns-in-Until-clause-more c = λ p later row told.
    let t = rw c.in-Until.is at told in
    let is : is_of c.in-Until.kind row ≡ c.eq.result = kind_is row c.in-Until.kind c.args.turned.kind c.eq.result t.kind c.eq.ensures in
    rw (c.in-Until.is, c.from-in-Until.ensures) (rw is at (kinds_more p later _ row t.turn c.in-Until.kind))
