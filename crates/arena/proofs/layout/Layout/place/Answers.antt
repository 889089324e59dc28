use Rattle.std.proofs.Common.{rules, ◌∙◌}
use Rattle.arena.proofs.Places.{places_apart}
use Rattle.arena.proofs.layout.Layout.place.Goals as goal

pub returns-clause-apart : goal.returns-clause-apart
returns-clause-apart c other inside e = places_apart c.args.self.now c.args.word other c.requires inside (e ∙ search (rules, c.place_from.ensures, c.start_of.ensures))
