use Rattle.std.proofs.Common.{refl, subst, sym}
use Rattle.histories.specs.Common.{Layout}
use Rattle.dict.specs.Laws.Begins.{dict_mode}
use Rattle.dict.specs.Laws.TypedMaps.{typed_run}
use Rattle.dict.specs.Words.{IsWordOf}
use Rattle.forest.specs.PassInvariant.{layout_in, seated_in}
use Rattle.tables.specs.Shares.{HasFewNames}
use Rattle.tables.specs.Slotted.{in_turns}
use Rattle.forest.specs.UpkeepKept.{KeepsRight}
use Rattle.forest.proofs.Rested.{at_lasting, rest_keeps, rest_pass, rest_says, rested_nothing, set_now}
use Rattle.forest.proofs.look_up.Forest+Dict+K+V+Lasts+B.next_leaf.Goals as goal

pub returns-in_default-clause-rested : goal.returns-in_default-clause-rested
returns-in_default-clause-rested g c = rw (← c.pass.view_is) (rested_nothing c.pass.invariant.0)

pub next_leaf-requires-clause-turns : goal.next_leaf-requires-clause-turns
next_leaf-requires-clause-turns g c = c.self.invariant.5

pub next_leaf-requires-clause-pass : goal.next_leaf-requires-clause-pass
next_leaf-requires-clause-pass g c =
    let p = c.pass.inside in
    let x = c.pass.invariant.0 in
    let of = rw (← c.pass.view_is, ← c.self.view_is) at c.requires.pass in (
      seated_in p,
      at_lasting c.self.inside.words c.self.inside.plan.layout (layout_in p) p.number.0 p.seat (c.self.invariant.6 refl).0 of.0 of.1 x.seat.alone x.is_pass,
      set_now x (dict_mode (layout_in p).mode (g.B.Balance.trie g.B.FixedBalance.the) x.is_mode) c.in-Some.own (subst (λ kept. KeepsRight kept (seated_in p)) c.in-Some.is (c.pass.invariant.1 refl)),
      λ h run. (dict_mode (layout_in p).mode (g.B.Balance.trie g.B.FixedBalance.the) x.is_mode, typed_run (IsWordOf g.K.WordKey.is_valid g.K.WordKey.word_of) (IsWordOf g.V.WordValue.is_valid g.V.WordValue.word_of) (layout_in p) h run),
    )

pub invariant_of-pass-2 : goal.invariant_of-pass-2
invariant_of-pass-2 g c =
    let p = c.pass.inside in
    let x = c.pass.invariant.0 in
    let of = rw (← c.pass.view_is, ← c.self.view_is) at c.requires.pass in
    let many = subst (λ (l : Layout). ¬ HasFewNames l) (sym of.1) (c.self.invariant.6 refl).1 in
    let kept = c.next_leaf.new.self in
    let t = in_turns kept.layout kept.turns in (
      rest_pass x many t p.share kept.keeper c.next_leaf.new.seat c.next_leaf.ensures.table c.next_leaf.ensures.rests,
      λ lasts. rest_keeps x many t p.share kept.keeper c.next_leaf.new.seat c.next_leaf.ensures.table c.next_leaf.ensures.rests,
    )

pub returns-clause-rested : goal.returns-clause-rested
returns-clause-rested g c =
    let p = c.pass.inside in
    let x = c.pass.invariant.0 in
    let of = rw (← c.pass.view_is, ← c.self.view_is) at c.requires.pass in
    let many = subst (λ (l : Layout). ¬ HasFewNames l) (sym of.1) (c.self.invariant.6 refl).1 in
    let kept = c.next_leaf.new.self in
    rw (← c.pass.view_is) (rest_says x many (in_turns kept.layout kept.turns) p.share kept.keeper c.next_leaf.new.seat c.next_leaf.ensures.table c.next_leaf.ensures.rests)

pub returns-clause-share : goal.returns-clause-share
returns-clause-share g c = rw (← c.pass.view_is) refl
