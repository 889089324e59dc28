use Rattle.std.proofs.Common.{length, refl}
use Rattle.std.proofs.lemmas.List.{length-set}
use Rattle.upkeep.specs.declared.book.SlotUse.TheVariants.{Free, Lost}
use Rattle.upkeep.proofs.UpkeepTurns.{lost_put}
use Rattle.upkeep.proofs.book.OwnSlots.take_from.Goals as goal

pub returns-clause-still : goal.returns-clause-still
returns-clause-still c =
    let own = c.args.self.now in
    record { kind = refl; first = refl; turn = refl; end = refl; count = length-set own.slots.items c.args.i record { name = c.args.name; known = Free }; lost = lost_put own c.args.i record { name = c.args.name; known = Free } (λ e. absurd cc) }
