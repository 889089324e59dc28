use Rattle.upkeep.specs.UpkeepScx.{LearnsPart}
use Rattle.upkeep.proofs.scx.load_part.Given as goal

abbrev pub ghosts-load_with : goal.ghosts-load_with
ghosts-load_with g a = record { learns = λ v n w. LearnsPart g.S.Shape.allows a.about.name a.about.part v n w }
