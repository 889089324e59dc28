use Rattle.std.proofs.Common.{◌≡◌, true, false, refl, ◌∙◌}
use Rattle.arena.specs.Opening.{is_map}
use Rattle.arena.proofs.Openings.{opened, as_opening}
use Rattle.arena.proofs.plain.PlainWords.new.Goals as goal
use Rattle.arena.proofs.plain.PlainWords.new.Goals.{then-is_map, else-is_map}

pub plant-requires : goal.plant-requires
plant-requires c w inside = opened _ _ c.set.ensures c.in_ok-words.ensures.zeros w (rw c.set.ensures.layout at inside)

pub returns-clause-opening : goal.returns-clause-opening
returns-clause-opening c =
    let mode : is_map c.in_ok-words.words.layout.mode ≡ c.is_map.result = rw (c.in_ok-words.ensures.layout, c.is_map.ensures) refl in
    elim c.if-is_map.branch [
      | then-is_map t ↦ rw t.words-is (as_opening c.set.new.self t.plant.new.self true t.plant.ensures.layout (rw c.set.ensures.layout (mode ∙ t.if-is_map.true)) t.plant.ensures.opening)
      | else-is_map t ↦ rw t.words-is (as_opening c.in_ok-words.words c.set.new.self false c.set.ensures.layout (mode ∙ t.if-is_map.false) (opened _ _ c.set.ensures c.in_ok-words.ensures.zeros))
    ]
