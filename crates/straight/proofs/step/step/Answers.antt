use Rattle.std.proofs.Common.{subst}
use Rattle.histories.specs.Common.{Layout, IsWord}
use Rattle.straight.proofs.Advances.{called_so, word_of}
use Rattle.straight.proofs.step.step.Goals as goal

pub start_of-start-requires-clause-word : goal.start_of-start-requires-clause-word
start_of-start-requires-clause-word g c = let w = c.requires.waits in let law = g.met.M.Machine in
    subst (λ (l : Layout). IsWord l c.args.step.word) w.3.0 (word_of g.S.Shape.allows w.0 record { call = c.args.hand.number; step = c.args.step } w.3.1 _ _ (λ h. law.lawful w.2 w.0 h c.args.step) (called_so w.4))
