use Rattle.std.proofs.Common.{Bool, List, map, sym, ◌∙◌, ap, subst}
use Rattle.capi.specs.declared.handle.HandleSlot.{HandleSlot}
use Rattle.capi.specs.Ends.{held_in, pass_in}
use Rattle.capi.specs.Left.{AreLeftIn}
use Rattle.capi.proofs.Ends.{some_so}
use Rattle.capi.proofs.end_lasting.end_lasting_trie.Goals as goal

pub returns-clause-left : goal.returns-clause-left
returns-clause-left c = some_so c.end_lasting.result _ _ _ (λ pairs left. record { passes = c.in_ok-forest.passes.items; are = ap (λ (ps : List HandleSlot). map pass_in (held_in ps)) (sym c.in_ok-places.ensures.took) ∙ c.in_ok-forest.ensures.are; layout = c.in_ok-forest.forest.layout; left = subst (λ (b : Bool). AreLeftIn b c.in_ok-forest.forest.layout c.in_ok-forest.passes.items pairs.items) (sym c.requires.lasting) left }) c.end_lasting.ensures
