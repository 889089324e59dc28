use Rattle.std.proofs.Common.{[], refl}
use Rattle.tables.specs.Slotted.{in_turns}
use Rattle.upkeep.proofs.UpkeepFirst.{keeper_first}
use Rattle.upkeep.proofs.keeper.Keeper.new.Goals as goal

pub returns : goal.returns
returns c = λ p number memory.
    let nodes = c.in_ok-open_slots.ensures in
    let scxs = c.in_ok-open_slots-2.ensures in
    keeper_first (in_turns c.args.layout.now c.args.turns.now) c.args.number.0 p memory _ refl refl refl nodes.kind scxs.kind (nodes.book p [] number memory) (scxs.book p [] number memory) nodes.lost scxs.lost
