use Rattle.std.proofs.Common.{Some}
use Rattle.std.specs.List.{All}
use Rattle.std.proofs.lemmas.List.Elements.{All-pop}
use Rattle.tables.specs.Passes.{IsOf}
use Rattle.forest.proofs.Crowds.{new_are_of}
use Rattle.library_tests.proofs.forest_tests.runs.two.Goals as goal

-- what is left, and the one that was taken
second : (c : goal.After-drop-passes-2) → All (IsOf c.in-Ok.forest) c.pop.new.self.items × IsOf c.in-Ok.forest c.in_ok-second.second
second c = All-pop (IsOf c.in-Ok.forest) c.in-Ok.passes.items c.pop.new.self.items (Some c.in_ok-second.second) c.in_ok-second.ensures.items (new_are_of _ _ c.in-Ok.ensures.passes)

pub returns-clause-first : goal.returns-clause-first
returns-clause-first c = (All-pop (IsOf c.in-Ok.forest) c.pop.new.self.items c.pop-2.new.self.items (Some c.in_ok-first.first) c.in_ok-first.ensures.items (second c).0).1

pub returns-clause-second : goal.returns-clause-second
returns-clause-second c = (second c).1
