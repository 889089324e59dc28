use Rattle.std.proofs.Common.{Some}
use Rattle.std.proofs.lemmas.List.Elements.{All-pop}
use Rattle.tables.specs.Passes.{IsOf}
use Rattle.forest.proofs.Crowds.{new_are_of}
use Rattle.dict_tests.proofs.sharing.beginnings.alone.Goals as goal

pub returns-in-Some : goal.returns-in-Some
returns-in-Some g c = (All-pop (IsOf c.in-Ok.forest) c.in-Ok.passes.items c.pop.new.self.items (Some c.in-Some.pass) c.in-Some.ensures.items (new_are_of _ _ (rw c.in-Ok.is at c.requires))).1
