use Rattle.std.proofs.Common.{◌+◌, ◌<◌, length, slice_set, refl, sym, ◌∙◌, ap, subst, arith}
use Rattle.arena.specs.declared.number.PassNo.{PassNo}
use Rattle.upkeep.specs.UpkeepPeriod.{HasLookedFirst, PollsOn}
use Rattle.tables.specs.declared.view.SeatedPass.{SeatedPass}
use Rattle.tables.proofs.Ruled.{same_pass}
use Rattle.upkeep.proofs.UpkeepPeriod.{passes_itself, takes_in}
use Rattle.upkeep.proofs.UpkeepSteps.{seat_as, seat_still}
use Rattle.upkeep.proofs.period.Period.take_in.Goals as goal

pub returns-then-next-number-clause-polls : goal.returns-then-next-number-clause-polls
returns-then-next-number-clause-polls g c =
    let one = c.requires.one in
    let k = c.args.next.0 in
    let now = c.args.self.now in
    seat_still g.S.Shape.allows (PollsOn k (k + 1) now now) one.0 c.args.seat.now.me.0 one.1
    (subst (λ n. PollsOn n (n + 1) now now one.0 one.0) (ap (λ (n : PassNo). n.0) one.2 ∙ sym c.if-next-number.true) (passes_itself one.0 now))

pub returns-clause-polls : goal.returns-clause-polls
returns-clause-polls g c =
    let one = c.requires.one in
    let k = c.args.next.0 in
    let waits = c.look.result in
    let new = record c.args.self.now { waits = slice_set c.args.self.now.waits k waits } in
    let inside : k < length c.args.self.now.waits = omega arith in
    seat_as g.S.Shape.allows (HasLookedFirst k waits) (PollsOn k (k + 1) c.args.self.now new) c.args.seat.now.me.0 c.look.new.seat.me.0
    (λ p q goes was x. takes_in g.S.Shape.allows p q goes k waits c.args.self.now new (λ e. c.if-next-number.false (e ∙ ap (λ (z : SeatedPass). z.number.0) (same_pass c.args.seat.now.me.0.passes one.0 p one.1 was) ∙ ap (λ (n : PassNo). n.0) one.2)) refl inside x)
    c.look.ensures.looked
