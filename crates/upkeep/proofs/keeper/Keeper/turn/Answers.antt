use Rattle.std.proofs.Common.{refl, sym, ◌∙◌, subst}
use Rattle.upkeep.specs.UpkeepBook.{HasTakenBelow, HasTurnedBook, slots_in}
use Rattle.upkeep.specs.declared.kind.RecordKind.{RecordKind}
use Rattle.upkeep.specs.declared.kind.RecordKind.TheVariants.{Node, Scx}
use Rattle.upkeep.proofs.UpkeepDeals.{left_on}
use Rattle.upkeep.proofs.UpkeepKeeper.{all_turned_on, kinds_apart, node_turn_of}
use Rattle.upkeep.proofs.UpkeepLooks.{at_now}
use Rattle.upkeep.proofs.UpkeepSteps.{rests_on}
use Rattle.upkeep.proofs.UpkeepTurn.{ended_on, from_pass}
use Rattle.upkeep.proofs.UpkeepTurns.{all_lost_as, rest_as, taken_on}
use Rattle.upkeep.proofs.keeper.Keeper.turn.Goals as goal

pub turn_all-requires-clause-pass : goal.turn_all-requires-clause-pass
turn_all-requires-clause-pass g c =
    let r = c.requires in
    let old = c.args.self.now in
    let taken : HasTakenBelow r.0 Node c.next.result.0.0 = subst (HasTakenBelow r.0 Node) (sym c.next.ensures.0) r.5.share.taken_nodes in
    (r.0, r.1, r.2, r.4, subst (λ (k : RecordKind). HasTakenBelow r.0 k c.next.result.0.0) (sym r.3.slots.node_kind) taken, r.3.slots.nodes, c.args.left.now, r.5, r.6.nodes)

pub turn_all-requires-2-clause-pass : goal.turn_all-requires-2-clause-pass
turn_all-requires-2-clause-pass g c =
    let allows = g.S.Shape.allows in
    let t = slots_in c.args.words.now in
    let r = c.requires in
    let old = c.args.self.now in
    let x = c.turn_all.ensures.turned in
    let so = HasTurnedBook t c.turn_all.new.own in
    let on = from_pass allows so c.args.seat.now.me.0 c.turn_all.new.seat.me.0 r.0 r.2.alone x in
    let taken : HasTakenBelow r.0 Scx c.next.result.1.0 = subst (HasTakenBelow r.0 Scx) (sym c.next.ensures.1) r.5.share.taken_scx in (
      x.later,
      r.1,
      at_now c.args.words.now c.args.layout.now allows so c.args.seat.now c.turn_all.new.seat r.0 r.2 c.turn_all.ensures.table x,
      ended_on allows r.0 x.later on.0 t r.1 on.1.rests r.4,
      taken_on allows r.0 x.later on.0 old.scxs.kind Scx c.next.result.1.0 r.3.slots.scx_kind taken,
      on.1.others old.scxs r.1 (λ e. kinds_apart c.turn_all.new.own.kind old.scxs.kind (c.turn_all.ensures.same.kind ∙ r.3.slots.node_kind) r.3.slots.scx_kind (sym e)) r.3.slots.scxs,
      c.args.left.now,
      left_on allows r.0 x.later c.args.left.now on.0 on.1.rests.away r.5,
      all_lost_as r.0 x.later on.0.layout on.0.number _ _ (rest_as r.0 x.later on.0.planting on.1.rests.rested) old.scxs r.6.scxs,
    )

pub returns-clause-turned : goal.returns-clause-turned
returns-clause-turned g c =
    let allows = g.S.Shape.allows in
    let t = slots_in c.args.words.now in
    let r = c.requires in
    let old = c.args.self.now in
    let nodes = c.turn_all.new.own in
    let scxs = c.turn_all-2.new.own in
    let x = c.turn_all.ensures.turned in
    let y = c.turn_all-2.ensures.turned in
    let on = from_pass allows (HasTurnedBook t nodes) c.args.seat.now.me.0 c.turn_all.new.seat.me.0 r.0 r.2.alone x in
    let next = from_pass allows (HasTurnedBook t scxs) c.turn_all.new.seat.me.0 c.turn_all-2.new.seat.me.0 x.later x.is y in record {
      pass = r.0;
      later = y.later;
      was = r.2.alone;
      is = y.is;
      goes_on = rests_on allows r.0 x.later y.later on.0 next.0;
      holds = all_turned_on allows t r.0 x.later y.later on.0 next.0 old record old { nodes = nodes; scxs = scxs; node_limit = c.limit-self.result; scx_limit = c.limit-self-2.result } refl c.turn_all.ensures.same.kind c.turn_all-2.ensures.same.kind r.1 r.3 on.1 next.1;
    }

pub turn_all-requires-clause-turn : goal.turn_all-requires-clause-turn
turn_all-requires-clause-turn g c = let r = c.requires in node_turn_of (slots_in c.args.words.now) r.0 r.1 c.args.self.now.nodes r.3.slots.node_kind r.3.slots.nodes

pub turn_all-requires-2-clause-turn : goal.turn_all-requires-2-clause-turn
turn_all-requires-2-clause-turn g c = let r = c.requires in node_turn_of (slots_in c.args.words.now) r.0 r.1 c.args.self.now.nodes r.3.slots.node_kind r.3.slots.nodes

pub returns-clause-lost : goal.returns-clause-lost
returns-clause-lost g c = let nodes = c.turn_all.ensures.same in let scxs = c.turn_all-2.ensures.same in
    record { node_kind = nodes.kind; scx_kind = scxs.kind; nodes = nodes.lost; scxs = scxs.lost }
