use Rattle.std.proofs.Common.{◌≡◌, List, [], ◌∷◌, Some}
use Rattle.histories.specs.Common.{Row}
use Rattle.tables.specs.LastingNotes.{memory_polled}
use Rattle.tables.specs.LastingRule.{LearnsWith}
use Rattle.upkeep.specs.UpkeepPeriod.{last_poll, poll_of}
use Rattle.tables.specs.declared.view.SeatedPass.{SeatedPass}
use Rattle.upkeep.proofs.period.look_again.Given as goal

abbrev pub ghosts-load_with : goal.ghosts-load_with
ghosts-load_with g a = record { learns = λ v n w. (p : SeatedPass) × (v.passes ≡ p ∷ []) × (moment : List Row) × (last_poll a.about.0.0 p.memory.polls ≡ Some (poll_of a.about.0.0 moment (Some a.about.1))) × LearnsWith g.S.Shape.allows (λ rows. memory_polled p.memory (poll_of a.about.0.0 moment (Some a.about.1)) a.about.1 n) v w }
