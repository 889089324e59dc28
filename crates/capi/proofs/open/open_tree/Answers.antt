use Rattle.std.proofs.Common.{◌∙◌}
use Rattle.capi.proofs.open.open_tree.Goals as goal

pub returns-in-Ok-hand_out_tree-clause-made : goal.returns-in-Ok-hand_out_tree-clause-made
returns-in-Ok-hand_out_tree-clause-made c = let new = c.in-Ok.ensures in let out = c.in-Ok-hand_out_tree.ensures in record { accepted = new.accepted; forest = c.in-Ok.opened.0; layout = new.layout; tries = new.tries; empty = new.empty; of_forest = out.of_forest; passes = c.in-Ok.opened.1.items; new = new.passes; held = out.held }

pub returns-in-Ok-hand_out_tree-clause-count : goal.returns-in-Ok-hand_out_tree-clause-count
returns-in-Ok-hand_out_tree-clause-count c = let new = c.in-Ok.ensures in c.in-Ok-hand_out_tree.ensures.count ∙ c.in-Ok.opened.1.ok.0 ∙ new.passes.count ∙ new.layout.passes
