use Rattle.std.proofs.Common.{◌+◌, ◌*◌, arith}
use Rattle.tables.specs.LastingNotes.{memory_away}
use Rattle.tables.specs.Slotted.{slots_of_table}
use Rattle.upkeep.specs.UpkeepSteps.{RemembersLeaving}
use Rattle.upkeep.proofs.UpkeepSteps.{is_own_pass, own_place_allows, seat_from}
use Rattle.upkeep.proofs.counter.leave.Goals as goal

pub store_with-requires-clause-may : goal.store_with-requires-clause-may
store_with-requires-clause-may g c =
    let shared = c.args.words.now.table.shared in
    let last = c.requires.table.0 in
    let between = c.requires.between in
    own_place_allows g.S.Shape.allows (λ m rows. memory_away m) shared.table_id shared.key c.args.layout.now last shared.table_id.slots c.args.seat.now.id c.args.seat.now.me between.0 between.1 c.args.number between.2 c.rests_place-at.result (2 * between.0.memory.often + 1) (2 * c.args.often + 1) c.rests_place-at.ensures
    (let often = between.3 in omega arith)
    (c.rests_last.ensures.leaves (slots_of_table shared.key) shared.key.planting shared.table_id.slots c.args.seat.now.id c.args.seat.now.me between.0 between.1 (is_own_pass shared.table_id shared.key c.args.layout.now last between.0 c.args.number between.2 c.requires.inside) between.4)

pub returns-clause-leaves : goal.returns-clause-leaves
returns-clause-leaves g c = seat_from g.S.Shape.allows (λ m rows. memory_away m) RemembersLeaving c.args.seat.now.me.0 c.store_with.new.seat.me.0 c.store_with.ensures.learnt (λ p q goes e. e)
