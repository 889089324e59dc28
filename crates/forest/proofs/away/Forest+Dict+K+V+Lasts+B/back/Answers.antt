use Rattle.std.proofs.Common.{refl, subst, sym}
use Rattle.histories.specs.Common.{Layout}
use Rattle.dict.specs.Laws.Begins.{dict_mode}
use Rattle.dict.specs.Laws.TypedMaps.{typed_run}
use Rattle.dict.specs.Words.{IsWordOf}
use Rattle.forest.specs.AwayInvariant.{away_layout}
use Rattle.forest.specs.PassInvariant.{seated_at}
use Rattle.tables.specs.Shares.{HasFewNames}
use Rattle.forest.specs.UpkeepKept.{HasComeBack}
use Rattle.forest.proofs.Rested.{at_lasting, between_now, come_back, gone_says, gone_steps}
use Rattle.forest.proofs.away.Forest+Dict+K+V+Lasts+B.back.Goals as goal

pub come_back-kept-requires : goal.come_back-kept-requires
come_back-kept-requires g c =
    let a = c.away.inside in
    let x = c.away.invariant.pass in
    let of = rw (← c.away.view_is, ← c.self.view_is) at c.requires.away in (
      seated_at (away_layout a) a.number.0 a.seat,
      at_lasting c.self.inside.words c.self.inside.plan.layout (away_layout a) a.number.0 a.seat (c.self.invariant.6 refl).0 of.0 of.1 x.seat.alone x.is_pass,
      refl,
      (between_now x).over,
      x.seat.since,
      c.away.invariant.comes_back,
      x.sound,
      λ h run. (dict_mode (away_layout a).mode (g.B.Balance.trie g.B.FixedBalance.the) x.is_mode, typed_run (IsWordOf g.K.WordKey.is_valid g.K.WordKey.word_of) (IsWordOf g.V.WordValue.is_valid g.V.WordValue.word_of) (away_layout a) h run),
    )

pub invariant_of-result : goal.invariant_of-result
invariant_of-result g c =
    let a = c.away.inside in
    let x = c.away.invariant.pass in
    let of = rw (← c.away.view_is, ← c.self.view_is) at c.requires.away in
    let map = dict_mode (away_layout a).mode (g.B.Balance.trie g.B.FixedBalance.the) x.is_mode in
    let many = subst (λ (l : Layout). ¬ HasFewNames l) (sym of.1) (c.self.invariant.6 refl).1 in
    let kept = c.come_back-kept.result in
    let y = come_back x map many (HasComeBack kept) c.come_back-kept.new.seat c.come_back-kept.ensures.table x.seat.alone c.come_back-kept.ensures.back kept (λ z. z) in
    (y.0, λ lasts. y.1)

pub returns-clause-rested : goal.returns-clause-rested
returns-clause-rested g c =
    let a = c.away.inside in
    let x = c.away.invariant.pass in
    let of = rw (← c.away.view_is, ← c.self.view_is) at c.requires.away in
    let map = dict_mode (away_layout a).mode (g.B.Balance.trie g.B.FixedBalance.the) x.is_mode in
    let many = subst (λ (l : Layout). ¬ HasFewNames l) (sym of.1) (c.self.invariant.6 refl).1 in
    rw (← c.away.view_is) (gone_says x map many (HasComeBack c.come_back-kept.result) c.come_back-kept.new.seat c.come_back-kept.ensures.table x.seat.alone c.come_back-kept.ensures.back)

pub returns-clause-steps : goal.returns-clause-steps
returns-clause-steps g c =
    let a = c.away.inside in
    let x = c.away.invariant.pass in
    let of = rw (← c.away.view_is, ← c.self.view_is) at c.requires.away in
    let map = dict_mode (away_layout a).mode (g.B.Balance.trie g.B.FixedBalance.the) x.is_mode in
    let many = subst (λ (l : Layout). ¬ HasFewNames l) (sym of.1) (c.self.invariant.6 refl).1 in
    rw (← c.away.view_is) (gone_steps x map many (HasComeBack c.come_back-kept.result) c.come_back-kept.new.seat c.come_back-kept.ensures.table x.seat.alone c.come_back-kept.ensures.back)
