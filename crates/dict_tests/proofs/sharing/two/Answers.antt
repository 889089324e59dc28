use Rattle.std.proofs.Common.{Some}
use Rattle.std.specs.List.{All}
use Rattle.std.proofs.lemmas.List.Elements.{All-pop}
use Rattle.tables.specs.Passes.{IsOf}
use Rattle.forest.proofs.Crowds.{new_are_of}
use Rattle.dict_tests.proofs.sharing.two.Given.{Over}
use Rattle.dict_tests.proofs.sharing.two.Goals as goal

-- what is left, and the one that was taken
second : (g : Over) (c : goal.After-drop-passes-2 g) → All (IsOf c.in-Ok.forest) c.pop.new.self.items × IsOf c.in-Ok.forest c.in_ok-second.second
second g c = All-pop (IsOf c.in-Ok.forest) c.in-Ok.passes.items c.pop.new.self.items (Some c.in_ok-second.second) c.in_ok-second.ensures.items (new_are_of _ _ c.in-Ok.ensures.passes)

pub returns-clause-first : goal.returns-clause-first
returns-clause-first g c = (All-pop (IsOf c.in-Ok.forest) c.pop.new.self.items c.pop-2.new.self.items (Some c.in_ok-first.first) c.in_ok-first.ensures.items (second g c).0).1

pub returns-clause-second : goal.returns-clause-second
returns-clause-second g c = (second g c).1
