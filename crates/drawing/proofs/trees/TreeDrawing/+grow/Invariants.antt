use Rattle.drawing.proofs.trees.TreeDrawing.+grow.Given as goal

abbrev pub decreases-grow : goal.decreases-grow
decreases-grow l = l.levels
