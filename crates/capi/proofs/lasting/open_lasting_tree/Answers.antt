use Rattle.std.proofs.Common.{◌∙◌, ap, sym}
use Rattle.arena.specs.declared.layout.Layout.{Layout}
use Rattle.capi.proofs.lasting.open_lasting_tree.Goals as goal

pub returns-in-Ok-hand_out_lasting_tree-clause-made : goal.returns-in-Ok-hand_out_lasting_tree-clause-made
returns-in-Ok-hand_out_lasting_tree-clause-made c = let out = c.in-Ok-hand_out_lasting_tree.ensures in record { accepted = c.in-Ok.ensures.accepted; forest = c.in-Ok.opened.0; passes = c.in-Ok.opened.1.items; begins = c.in-Ok.ensures.begins; of_forest = out.of_forest; held = out.held }

pub returns-in-Ok-hand_out_lasting_tree-clause-count : goal.returns-in-Ok-hand_out_lasting_tree-clause-count
returns-in-Ok-hand_out_lasting_tree-clause-count c =
    let begins = c.in-Ok.ensures.begins in
    c.in-Ok-hand_out_lasting_tree.ensures.count ∙ c.in-Ok.opened.1.ok.0 ∙ begins.opens.new.count ∙ ap (λ (l : Layout). l.passes) begins.opens.layout ∙ begins.is_layout.passes

pub hand_out_lasting_tree-requires-clause-all : goal.hand_out_lasting_tree-requires-clause-all
hand_out_lasting_tree-requires-clause-all c =
    let begins = c.in-Ok.ensures.begins in
    sym (ap (λ (l : Layout). l.passes) begins.opens.layout ∙ begins.is_layout.passes)
