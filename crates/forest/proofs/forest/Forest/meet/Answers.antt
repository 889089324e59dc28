use Rattle.std.proofs.Common.{◌∙◌, sym, ap}
use Rattle.arena.proofs.Lemmas.{ends_trans}
use Rattle.tables.specs.Passes.{PassView}
use Rattle.forest.proofs.UpkeepKept.{never_kept}
use Rattle.forest.proofs.Passes.{layout_of, called_pass}
use Rattle.forest.proofs.Meets.{have_met, met_left, looked_once}
use Rattle.tables.proofs.Slotted.{names_are, once_by}
use Rattle.forest.proofs.forest.Forest.meet.Goals as goal

pub meet-requires-clause-first : goal.meet-requires-clause-first
meet-requires-clause-first g c = let e = layout_of c.one.view_is c.self.view_is c.requires.one ∙ names_are c.self.inside.words.table.shared.key c.self.inside.plan.layout c.self.invariant.0.layout (once_by c.self.invariant.0 g.met.S.TableOnce.once) in record { pass = _; is = c.one.invariant.0.seat.alone; layout = e; is_pass = rw (← e) c.one.invariant.0.is_pass }

pub meet-requires-clause-second : goal.meet-requires-clause-second
meet-requires-clause-second g c = let e = layout_of c.other.view_is c.self.view_is c.requires.other ∙ names_are c.self.inside.words.table.shared.key c.self.inside.plan.layout c.self.invariant.0.layout (once_by c.self.invariant.0 g.met.S.TableOnce.once) in record { pass = _; is = c.other.invariant.0.seat.alone; layout = e; is_pass = rw (← e) c.other.invariant.0.is_pass }

pub invariant_of-one : goal.invariant_of-one
invariant_of-one g c = let m = have_met c.one.inside c.other.inside c.one.invariant.0 c.other.invariant.0 c.meet.new.one c.meet.new.other c.meet.ensures.met in
    (called_pass c.one.inside c.one.invariant.0 c.meet.new.one _ _ (c.meet.ensures.bare.0 ∙ sym c.one.invariant.0.bare) m.one, λ lasts. never_kept _ g.met.S.TableOnce.once lasts)

pub invariant_of-other : goal.invariant_of-other
invariant_of-other g c = let m = have_met c.one.inside c.other.inside c.one.invariant.0 c.other.invariant.0 c.meet.new.one c.meet.new.other c.meet.ensures.met in
    (called_pass c.other.inside c.other.invariant.0 c.meet.new.other _ _ (c.meet.ensures.bare.1 ∙ sym c.other.invariant.0.bare) m.other, λ lasts. never_kept _ g.met.S.TableOnce.once lasts)

pub returns-clause-apart : goal.returns-clause-apart
returns-clause-apart g c = let m = have_met c.one.inside c.other.inside c.one.invariant.0 c.other.invariant.0 c.meet.new.one c.meet.new.other c.meet.ensures.met in
    rw (← c.one.view_is, ← c.other.view_is) m.apart

pub returns-clause-look : goal.returns-clause-look
returns-clause-look g c = let m = have_met c.one.inside c.other.inside c.one.invariant.0 c.other.invariant.0 c.meet.new.one c.meet.new.other c.meet.ensures.met in (
  rw (← c.one.view_is) (looked_once c.one.inside c.one.invariant.0 c.meet.new.one _ c.meet.ensures.table.0 (c.meet.ensures.bare.0 ∙ sym c.one.invariant.0.bare) m.one m.one_step m.one_looks),
  rw (← c.other.view_is) (looked_once c.other.inside c.other.invariant.0 c.meet.new.other _ c.meet.ensures.table.1 (c.meet.ensures.bare.1 ∙ sym c.other.invariant.0.bare) m.other m.other_step m.other_looks),
)

pub returns-clause-know : goal.returns-clause-know
returns-clause-know g c = let m = have_met c.one.inside c.other.inside c.one.invariant.0 c.other.invariant.0 c.meet.new.one c.meet.new.other c.meet.ensures.met in (
  ends_trans _ _ _ m.one.answers m.goes_on,
  rw (← c.one.view_is) (ends_trans _ _ _ m.other.answers m.knew),
)

pub returns-clause-left : goal.returns-clause-left
returns-clause-left g c = let m = have_met c.one.inside c.other.inside c.one.invariant.0 c.other.invariant.0 c.meet.new.one c.meet.new.other c.meet.ensures.met in
    met_left c.one.inside c.other.inside c.one.invariant.0 c.other.invariant.0 c.meet.new.one c.meet.new.other (ap (λ (v : PassView). v.layout) c.one.view_is ∙ c.requires.one.1 ∙ sym (ap (λ (v : PassView). v.layout) c.other.view_is ∙ c.requires.other.1)) m
