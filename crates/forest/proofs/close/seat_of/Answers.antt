use Rattle.forest.specs.PassInvariant.{layout_in}
use Rattle.std.proofs.Common.{◌≡◌, ◌<◌, ◌∙◌, ap, subst}
use Rattle.arena.specs.declared.layout.Layout.{Layout}
use Rattle.tables.specs.TableRule.{seated_pass}
use Rattle.tables.specs.Traces.{known_of, planting_of, memory_of}
use Rattle.tables.specs.Passes.{PassView}
use Rattle.forest.proofs.Closes.{looked_from}
use Rattle.tables.proofs.Slotted.{names_are}
use Rattle.forest.proofs.close.seat_of.Goals as goal

pub look_alone-requires-clause-one : goal.look_alone-requires-clause-one
look_alone-requires-clause-one g c = let p = c.pass.inside in let lay : (layout_in p) ≡ c.args.layout.now = ap (λ (v : PassView). v.layout) c.pass.view_is ∙ c.requires.pass.1 ∙ names_are c.args.words.now.table.shared.key c.args.layout.now c.requires.table.layout c.requires.table.turns in
    (seated_pass p.number.0 (layout_in p) (planting_of p.seat.me.0.passes) (memory_of p.seat.me.0.passes) (known_of p.seat.me.0.passes), c.pass.invariant.0.seat.alone, lay, subst (λ (l : Layout). p.number.0 < l.passes) lay c.pass.invariant.0.is_pass)

pub returns-clause-pass : goal.returns-clause-pass
returns-clause-pass g c = rw (← c.pass.view_is) (looked_from c.pass.inside c.pass.invariant.0 c.look_alone.new.seat c.look_alone.ensures.looked.0 c.look_alone.ensures.table.1 c.look_alone.ensures.looked.1)
