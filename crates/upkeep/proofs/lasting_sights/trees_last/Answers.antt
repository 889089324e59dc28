use Rattle.upkeep.proofs.LastingTrees.{tree_held, tree_shown}
use Rattle.upkeep.proofs.lasting_sights.trees_last.Goals as goal

pub returns-clause-held : goal.returns-clause-held
returns-clause-held g c = λ t planting s x n. tree_held g.S.Shape.allows t planting (λ h o rest i. c.unborn_stays_out.ensures.stays t.lay h o rest i) s x n

pub returns-clause-words : goal.returns-clause-words
returns-clause-words g c = λ t planting s x n part there. tree_shown g.S.Shape.allows t planting (λ h o rest i. c.unborn_stays_out.ensures.stays t.lay h o rest i) s x n there part
