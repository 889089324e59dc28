use Rattle.std.proofs.Common.{refl, subst, sym}
use Rattle.histories.specs.Common.{Layout}
use Rattle.dict.specs.Laws.Begins.{dict_mode}
use Rattle.dict.specs.Laws.TypedMaps.{typed_run}
use Rattle.dict.specs.Words.{IsWordOf}
use Rattle.forest.specs.PassInvariant.{layout_in, seated_in}
use Rattle.tables.specs.Shares.{HasFewNames}
use Rattle.forest.specs.UpkeepKept.{HasGoneAway}
use Rattle.forest.proofs.Rested.{at_lasting, between_now, gone_away, gone_says, gone_steps}
use Rattle.forest.proofs.UpkeepKept.{comes_back}
use Rattle.forest.proofs.away.Forest+Dict+K+V+Lasts+B.away.Goals as goal

pub leave-requires : goal.leave-requires
leave-requires g c =
    let p = c.pass.inside in
    let x = c.pass.invariant.0 in
    let of = rw (← c.pass.view_is, ← c.self.view_is) at c.requires.pass in (
      seated_in p,
      at_lasting c.self.inside.words c.self.inside.plan.layout (layout_in p) p.number.0 p.seat (c.self.invariant.6 refl).0 of.0 of.1 x.seat.alone x.is_pass,
      refl,
      (between_now x).over,
      x.seat.since,
      comes_back p.kept (seated_in p) x.seat.there (c.pass.invariant.1 refl),
      x.sound,
      λ h run. (dict_mode (layout_in p).mode (g.B.Balance.trie g.B.FixedBalance.the) x.is_mode, typed_run (IsWordOf g.K.WordKey.is_valid g.K.WordKey.word_of) (IsWordOf g.V.WordValue.is_valid g.V.WordValue.word_of) (layout_in p) h run),
    )

pub invariant_of-result : goal.invariant_of-result
invariant_of-result g c =
    let p = c.pass.inside in
    let x = c.pass.invariant.0 in
    let of = rw (← c.pass.view_is, ← c.self.view_is) at c.requires.pass in
    let map = dict_mode (layout_in p).mode (g.B.Balance.trie g.B.FixedBalance.the) x.is_mode in
    let many = subst (λ (l : Layout). ¬ HasFewNames l) (sym of.1) (c.self.invariant.6 refl).1 in
    let y = gone_away x map many (HasGoneAway p.kept) c.leave.new.seat c.leave.ensures.table x.seat.alone c.leave.ensures.left p.kept (λ z. z) in
    record { pass = y.0; comes_back = y.1 }

pub returns-clause-rested : goal.returns-clause-rested
returns-clause-rested g c =
    let p = c.pass.inside in
    let x = c.pass.invariant.0 in
    let of = rw (← c.pass.view_is, ← c.self.view_is) at c.requires.pass in
    let map = dict_mode (layout_in p).mode (g.B.Balance.trie g.B.FixedBalance.the) x.is_mode in
    let many = subst (λ (l : Layout). ¬ HasFewNames l) (sym of.1) (c.self.invariant.6 refl).1 in
    rw (← c.pass.view_is) (gone_says x map many (HasGoneAway p.kept) c.leave.new.seat c.leave.ensures.table x.seat.alone c.leave.ensures.left)

pub returns-clause-steps : goal.returns-clause-steps
returns-clause-steps g c =
    let p = c.pass.inside in
    let x = c.pass.invariant.0 in
    let of = rw (← c.pass.view_is, ← c.self.view_is) at c.requires.pass in
    let map = dict_mode (layout_in p).mode (g.B.Balance.trie g.B.FixedBalance.the) x.is_mode in
    let many = subst (λ (l : Layout). ¬ HasFewNames l) (sym of.1) (c.self.invariant.6 refl).1 in
    rw (← c.pass.view_is) (gone_steps x map many (HasGoneAway p.kept) c.leave.new.seat c.leave.ensures.table x.seat.alone c.leave.ensures.left)
