use Rattle.std.proofs.Common.{◌≡◌}
use Rattle.forest.specs.LastingMeets.{AllLearn}
use Rattle.tables.specs.Slotted.{slots_of_table}
use Rattle.upkeep.proofs.UpkeepSteps.{lasting_allows}
use Rattle.forest.proofs.lasting_meet.learn_all.Goals as goal

pub load_with-requires-clause-inside : goal.load_with-requires-clause-inside
load_with-requires-clause-inside g c = c.args.words.now.some

pub load_with-requires-clause-may : goal.load_with-requires-clause-may
load_with-requires-clause-may g c =
    let allows = g.S.Shape.allows in
    let site = c.args.words.now.table.shared.key in
    let me = c.args.seat.now.me in
    lasting_allows allows site c.requires.lasts.0 c.requires.lasts.1 c.args.words.now.table.shared.table_id.slots c.args.seat.now.id me 0 (λ n. n) (λ n w. AllLearn allows me.0 w.0 × (w.1 ≡ me.1))
    (c.learns_last.ensures (slots_of_table site) site.planting c.args.words.now.table.shared.table_id.slots c.args.seat.now.id me 0)
