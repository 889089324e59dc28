use Rattle.std.proofs.Common.{refl}
use Rattle.dict.specs.Laws.Begins.{dict_mode}
use Rattle.dict.specs.Laws.TypedMaps.{typed_run}
use Rattle.dict.specs.Words.{IsWordOf}
use Rattle.forest.specs.PassInvariant.{layout_in, seated_in}
use Rattle.forest.proofs.LastingMeets.{aware_keeps, both_left, called_one, called_other, know_both, know_same, only_learnt, run_other}
use Rattle.forest.proofs.Passes.{called_pass}
use Rattle.forest.proofs.lasting_meet.Forest+Dict+K+V+Lasts+B.meet.Goals as goal

pub learn_both-requires-clause-lasts : goal.learn_both-requires-clause-lasts
learn_both-requires-clause-lasts g c = let table = (c.self.invariant.6 refl).0 in (table.turns, table.comes_back)

pub learn_both-requires-clause-one : goal.learn_both-requires-clause-one
learn_both-requires-clause-one g c = (_, c.one.invariant.0.seat.alone)

pub learn_both-requires-clause-other : goal.learn_both-requires-clause-other
learn_both-requires-clause-other g c = (_, c.other.invariant.0.seat.alone)

pub invariant_of-one : goal.invariant_of-one
invariant_of-one g c = let x = c.learn_both.ensures.learnt in
    let k = know_both (seated_in c.one.inside) (seated_in c.other.inside) _ _ c.learn_both.new.one.me.0.passes c.learn_both.new.other.me.0.passes c.one.invariant.0.seat.alone c.other.invariant.0.seat.alone x.0 x.1 x.2 in
    let y = called_one c.one.inside c.other.inside c.one.invariant.0 c.other.invariant.0 c.learn_both.new.one c.learn_both.new.other k in (
      called_pass c.one.inside c.one.invariant.0 c.learn_both.new.one _ _ c.learn_both.ensures.seats.0.1 y,
      λ lasts. aware_keeps c.one.inside c.one.invariant.0 c.learn_both.new.one k.rows k.one k.run k.is_one c.unborn_stays_out.ensures.none (λ h run. (dict_mode (layout_in c.one.inside).mode (g.B.Balance.trie g.B.FixedBalance.the) c.one.invariant.0.is_mode, typed_run (IsWordOf g.K.WordKey.is_valid g.K.WordKey.word_of) (IsWordOf g.V.WordValue.is_valid g.V.WordValue.word_of) (layout_in c.one.inside) h run)) (c.one.invariant.1 lasts),
    )

pub invariant_of-other : goal.invariant_of-other
invariant_of-other g c = let x = c.learn_both.ensures.learnt in
    let k = know_both (seated_in c.one.inside) (seated_in c.other.inside) _ _ c.learn_both.new.one.me.0.passes c.learn_both.new.other.me.0.passes c.one.invariant.0.seat.alone c.other.invariant.0.seat.alone x.0 x.1 x.2 in
    let run = run_other c.one.inside c.other.inside c.one.invariant.0 c.other.invariant.0 c.learn_both.new.one c.learn_both.new.other k in
    let y = called_other c.one.inside c.other.inside c.one.invariant.0 c.other.invariant.0 c.learn_both.new.one c.learn_both.new.other k in (
      called_pass c.other.inside c.other.invariant.0 c.learn_both.new.other _ _ c.learn_both.ensures.seats.1.1 y,
      λ lasts. aware_keeps c.other.inside c.other.invariant.0 c.learn_both.new.other k.rows k.other run k.is_other c.unborn_stays_out.ensures.none (λ h run. (dict_mode (layout_in c.other.inside).mode (g.B.Balance.trie g.B.FixedBalance.the) c.other.invariant.0.is_mode, typed_run (IsWordOf g.K.WordKey.is_valid g.K.WordKey.word_of) (IsWordOf g.V.WordValue.is_valid g.V.WordValue.word_of) (layout_in c.other.inside) h run)) (c.other.invariant.1 lasts),
    )

pub returns-clause-apart : goal.returns-clause-apart
returns-clause-apart g c = let x = c.learn_both.ensures.learnt in
    let k = know_both (seated_in c.one.inside) (seated_in c.other.inside) _ _ c.learn_both.new.one.me.0.passes c.learn_both.new.other.me.0.passes c.one.invariant.0.seat.alone c.other.invariant.0.seat.alone x.0 x.1 x.2 in
    rw (← c.one.view_is, ← c.other.view_is) k.apart

pub returns-clause-learnt : goal.returns-clause-learnt
returns-clause-learnt g c = let x = c.learn_both.ensures.learnt in
    let k = know_both (seated_in c.one.inside) (seated_in c.other.inside) _ _ c.learn_both.new.one.me.0.passes c.learn_both.new.other.me.0.passes c.one.invariant.0.seat.alone c.other.invariant.0.seat.alone x.0 x.1 x.2 in
    let run = run_other c.one.inside c.other.inside c.one.invariant.0 c.other.invariant.0 c.learn_both.new.one c.learn_both.new.other k in (
      rw (← c.one.view_is) (only_learnt c.one.inside c.one.invariant.0 c.learn_both.new.one k.rows k.one k.run k.is_one c.learn_both.ensures.seats.0.0 c.learn_both.ensures.seats.0.1),
      rw (← c.other.view_is) (only_learnt c.other.inside c.other.invariant.0 c.learn_both.new.other k.rows k.other run k.is_other c.learn_both.ensures.seats.1.0 c.learn_both.ensures.seats.1.1),
    )

pub returns-clause-know : goal.returns-clause-know
returns-clause-know g c = let x = c.learn_both.ensures.learnt in
    let k = know_both (seated_in c.one.inside) (seated_in c.other.inside) _ _ c.learn_both.new.one.me.0.passes c.learn_both.new.other.me.0.passes c.one.invariant.0.seat.alone c.other.invariant.0.seat.alone x.0 x.1 x.2 in
    know_same c.one.inside c.other.inside c.one.invariant.0 c.other.invariant.0 c.learn_both.new.one c.learn_both.new.other k

pub returns-clause-left : goal.returns-clause-left
returns-clause-left g c = let x = c.learn_both.ensures.learnt in
    let k = know_both (seated_in c.one.inside) (seated_in c.other.inside) _ _ c.learn_both.new.one.me.0.passes c.learn_both.new.other.me.0.passes c.one.invariant.0.seat.alone c.other.invariant.0.seat.alone x.0 x.1 x.2 in
    both_left c.one.inside c.other.inside c.one.invariant.0 c.other.invariant.0 c.learn_both.new.one c.learn_both.new.other k
