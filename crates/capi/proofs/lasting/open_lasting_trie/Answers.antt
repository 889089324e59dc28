use Rattle.std.proofs.Common.{◌∙◌, ap, sym}
use Rattle.arena.specs.declared.layout.Layout.{Layout}
use Rattle.capi.proofs.lasting.open_lasting_trie.Goals as goal

pub returns-in-Ok-hand_out_lasting_trie-clause-made : goal.returns-in-Ok-hand_out_lasting_trie-clause-made
returns-in-Ok-hand_out_lasting_trie-clause-made c = let out = c.in-Ok-hand_out_lasting_trie.ensures in record { accepted = c.in-Ok.ensures.accepted; forest = c.in-Ok.opened.0; passes = c.in-Ok.opened.1.items; begins = c.in-Ok.ensures.begins; of_forest = out.of_forest; held = out.held }

pub returns-in-Ok-hand_out_lasting_trie-clause-count : goal.returns-in-Ok-hand_out_lasting_trie-clause-count
returns-in-Ok-hand_out_lasting_trie-clause-count c =
    let begins = c.in-Ok.ensures.begins in
    c.in-Ok-hand_out_lasting_trie.ensures.count ∙ c.in-Ok.opened.1.ok.0 ∙ begins.opens.new.count ∙ ap (λ (l : Layout). l.passes) begins.opens.layout ∙ begins.is_layout.passes

pub hand_out_lasting_trie-requires-clause-all : goal.hand_out_lasting_trie-requires-clause-all
hand_out_lasting_trie-requires-clause-all c =
    let begins = c.in-Ok.ensures.begins in
    sym (ap (λ (l : Layout). l.passes) begins.opens.layout ∙ begins.is_layout.passes)
