use Rattle.std.proofs.Common.{refl}
use Rattle.std.proofs.lemmas.List.{length-set}
use Rattle.upkeep.specs.declared.book.SlotUse.TheVariants.{Lost}
use Rattle.upkeep.proofs.UpkeepLost.{loses_none, one_lost}
use Rattle.upkeep.proofs.book.OwnSlots.lose_one.Goals as goal

pub returns-in-Some : goal.returns-in-Some
returns-in-Some c =
    let own = c.args.self.now in
    let i = c.in-Some.i in record {
      kind = refl;
      first = refl;
      turn = refl;
      end = refl;
      dealt = refl;
      count = length-set own.slots.items i record { name = c.args.name; known = Lost };
      slots = one_lost own c.args.name i c.in-Some.ensures;
    }

pub returns-in_default : goal.returns-in_default
returns-in_default c = loses_none _ c.args.self.now
