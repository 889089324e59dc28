use Rattle.upkeep.specs.UpkeepDeals.{LearnsPast}
use Rattle.upkeep.proofs.names.pass_to.Given as goal

abbrev pub ghosts-load_with : goal.ghosts-load_with
ghosts-load_with g a = record { learns = λ v n w. LearnsPast g.S.Shape.allows a.about.kind a.about.slot a.about.count v w }
