use Rattle.std.proofs.Common.{sym, ◌∙◌, subst}
use Rattle.std.specs.List.{All}
use Rattle.dict.specs.Typed.{TypedAllows}
use Rattle.dict.specs.Words.{IsWordOf}
use Rattle.tables.specs.Passes.{Ground, IsOf}
use Rattle.forest.specs.Remains.{AreRemains, SlotWords}
use Rattle.tables.specs.Slotted.{in_turns}
use Rattle.forest.proofs.LastingEnds.{remains_site}
use Rattle.forest.proofs.lasting_close.Forest+Dict+K+V+Lasts+B.close_with.Goals as goal

pub returns-clause-remains : goal.returns-clause-remains
returns-clause-remains g c = λ passes of are_seated.
    let allows = TypedAllows (IsWordOf g.K.WordKey.is_valid g.K.WordKey.word_of) (IsWordOf g.V.WordValue.is_valid g.V.WordValue.word_of) in
    let words : SlotWords = record { slots = in_turns c.self.inside.plan.layout c.in-Some.turns; words = c.close.result.words.items } in
    let shared = c.self.inside.words.table.shared in
    subst (λ (f : Ground). AreRemains allows f.layout passes words) c.self.view_is
    (remains_site shared.table_id shared.key c.self.inside.plan.layout c.in-Some.turns c.self.invariant.0.layout (sym c.self.invariant.5 ∙ c.in-Some.is)
    (λ t planting. record { held = c.trees_last.ensures.held t planting; words = c.trees_last.ensures.words t planting })
    passes c.args.seat.id c.args.seat.me.0 c.close.result.words.items c.close.result.slots.items
    (subst (λ (f : Ground). All (IsOf f) passes) (sym c.self.view_is) of) are_seated c.close.ensures.values.2)
