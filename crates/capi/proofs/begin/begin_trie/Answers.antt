use Rattle.std.proofs.Common.{◌∙◌}
use Rattle.forest.proofs.Crowds.{new_are_of}
use Rattle.capi.proofs.begin.begin_trie.Goals as goal

pub returns-in-Ok-hand_out_trie-clause-begun : goal.returns-in-Ok-hand_out_trie-clause-begun
returns-in-Ok-hand_out_trie-clause-begun c = let new = c.in-Ok.ensures in let out = c.in-Ok-hand_out_trie.ensures in record { accepted = new.accepted; forest = c.in-Ok.opened.0; layout = new.layout; tries = new.tries; begins = new.begins; of_forest = out.of_forest; passes = c.in-Ok.opened.1.items; new = new.passes; held = out.held }

pub returns-in-Ok-hand_out_trie-clause-count : goal.returns-in-Ok-hand_out_trie-clause-count
returns-in-Ok-hand_out_trie-clause-count c = let new = c.in-Ok.ensures in c.in-Ok-hand_out_trie.ensures.count ∙ c.in-Ok.opened.1.ok.0 ∙ new.passes.count ∙ new.layout.passes

pub hand_out_trie-requires-clause-passes : goal.hand_out_trie-requires-clause-passes
hand_out_trie-requires-clause-passes c = new_are_of c.in-Ok.opened.0 c.in-Ok.opened.1.items c.in-Ok.ensures.passes
