use Rattle.std.proofs.Common.{◌≡◌, ◌%◌, sym, ◌∙◌, ap, subst}
use Rattle.histories.specs.Common.{Child, Node}
use Rattle.forest.specs.Remains.{SlotWords, by_slots, slot_value}
use Rattle.forest.proofs.lasting_close.Remains.by_slots.Goals as goal

pub returns-in-Node-default-Child : goal.returns-in-Node-default-Child
returns-in-Node-default-Child g c =
    let v = c.in-Node-default-Child in
    let now = c.args.self.now in
    let part : v.field-1 ≡ Child v.field-1-0 = rw v.is at v.field-1-is in
    let word : c.args.word ≡ Node v.field-0 (Child v.field-1-0) = v.is ∙ ap (Node v.field-0) part in
    let turn : c.power_of_two.result ≡ now.slots.node_turn = c.power_of_two.ensures ∙ ap (λ (s : SlotWords). s.slots.node_turn) c.self.view_is in
    subst (λ w. c.word.result % c.power_of_two.result ≡ by_slots now w) (sym word) (λ i. (c.word.ensures ∙ ap (slot_value now) word) i % turn i)
