use Rattle.std.proofs.Common.{◌∙◌}
use Rattle.capi.proofs.begin.begin_tree.Goals as goal

pub returns-in-Ok-hand_out_tree-clause-begun : goal.returns-in-Ok-hand_out_tree-clause-begun
returns-in-Ok-hand_out_tree-clause-begun c = let new = c.in-Ok.ensures in let out = c.in-Ok-hand_out_tree.ensures in record { accepted = new.accepted; forest = c.in-Ok.opened.0; layout = new.layout; tries = new.tries; begins = new.begins; of_forest = out.of_forest; passes = c.in-Ok.opened.1.items; new = new.passes; held = out.held }

pub returns-in-Ok-hand_out_tree-clause-count : goal.returns-in-Ok-hand_out_tree-clause-count
returns-in-Ok-hand_out_tree-clause-count c = let new = c.in-Ok.ensures in c.in-Ok-hand_out_tree.ensures.count ∙ c.in-Ok.opened.1.ok.0 ∙ new.passes.count ∙ new.layout.passes
