use Rattle.std.proofs.Common.{List, get_or, length, sym, ◌∙◌, ap, arith}
use Rattle.linearization.specs.declared.places.Place.{Place}
use Rattle.linearization.proofs.Weights.{newest_none, newest_some, newest_within}
use Rattle.linearization.proofs.places.Places.value_at.Goals as goal

pub returns-in_err-at : goal.returns-in_err-at
returns-in_err-at c key newer older is at = c.from_residual.ensures ∙ sym (newest_none key older (sym at ∙ c.in_err-at.was))

pub returns-in_err-place : goal.returns-in_err-place
returns-in_err-place c key newer older is at =
    let within = newest_within key c.in_ok-at.field-0 c.args.self.now.list.items newer older is (sym at ∙ c.in_ok-at.was) in
    let past = c.in_err-place.ensures.lookup.3 in
    absurd (omega (arith, within, past, ap (λ (items : List Place). length items) c.deref.ensures.value))

pub returns : goal.returns
returns c key newer older is at =
    let place = c.in_ok-place.place.now in
    let here = c.in_ok-place.ensures.lookup.1 ∙ ap (λ items. get_or items c.in_ok-at.field-0 place) c.deref.ensures.value in
    ap (λ (q : Place). q.change.value) here ∙ sym (newest_some key c.in_ok-at.field-0 c.args.self.now.list.items newer older place is (sym at ∙ c.in_ok-at.was))
