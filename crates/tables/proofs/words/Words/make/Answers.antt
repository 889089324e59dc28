use Rattle.std.proofs.Common.{◌≡◌, ◌∙◌, ℕ, List, Bool, true, false, ap, cond, eqb, refl, subst, sym}
use Rattle.histories.specs.Common.{History, Layout}
use prog.Atomic.{either}
use Rattle.tables.specs.LastingRule.{MayStepOn}
use Rattle.tables.specs.TableRule.{Made}
use Rattle.tables.specs.Traces.{kept_of}
use Rattle.tables.specs.declared.rule.CallStep.{CallStep}
use Rattle.tables.specs.declared.view.SeatedPass.{SeatedPass}
use Rattle.tables.proofs.Ruled.{ruled_moves, same_pass}
use Rattle.tables.proofs.words.Words.make.Goals as goal

pub load-requires : goal.load-requires
load-requires g c = let site = c.args.self.now.table.shared.key in let may = c.requires.may in (
  c.requires.table,
  c.requires.place.inside,
  rw (← c.requires.said) (ruled_moves g.S.Shape.allows g.S.Shape.mode _ _ c.args.seat.now.me c.args.said.now c.args.at _ (λ n. n) (λ n. n) (λ n. rw c.in-Load.is refl) (λ n. rw c.in-Load.is refl) may.0 may.1 may.2 site c.requires.last c.requires.place
      (λ map. let on = c.requires.in_map map in subst (MayStepOn g.S.Shape.allows c.args.said.now) (same_pass _ may.0 on.0 may.1 on.1) on.2)),
)

pub store-requires : goal.store-requires
store-requires g c = let site = c.args.self.now.table.shared.key in let may = c.requires.may in (
  c.requires.table,
  c.requires.place.inside,
  rw (← c.requires.said) (ruled_moves g.S.Shape.allows g.S.Shape.mode _ _ c.args.seat.now.me c.args.said.now c.args.at _ (λ _. c.in-Store.new) (λ _. c.in-Store.new) (λ n. rw c.in-Store.is refl) (λ n. rw c.in-Store.is tt) may.0 may.1 may.2 site c.requires.last c.requires.place
      (λ map. let on = c.requires.in_map map in subst (MayStepOn g.S.Shape.allows c.args.said.now) (same_pass _ may.0 on.0 may.1 on.1) on.2)),
)

either_is : (b : Bool) (v w : ℕ) → either b v w ≡ cond b v w
either_is true v w = refl
either_is false v w = refl

pub compare_exchange-requires : goal.compare_exchange-requires
compare_exchange-requires g c = let site = c.args.self.now.table.shared.key in let may = c.requires.may in (
  c.requires.table,
  c.requires.place.inside,
  rw (← c.requires.said) (ruled_moves g.S.Shape.allows g.S.Shape.mode _ _ c.args.seat.now.me c.args.said.now c.args.at _ (λ n. either (eqb n c.in-Exchange.expected) c.in-Exchange.new n) (λ n. n) (λ n. rw c.in-Exchange.is (either_is (eqb n c.in-Exchange.expected) c.in-Exchange.new n)) (λ n. rw c.in-Exchange.is refl) may.0 may.1 may.2 site c.requires.last c.requires.place
      (λ map. let on = c.requires.in_map map in subst (MayStepOn g.S.Shape.allows c.args.said.now) (same_pass _ may.0 on.0 may.1 on.1) on.2)),
)

-- a step changes nothing that the pass remembers
all_kept : {allows : Layout → History → ℕ → Type 0} {said : CallStep} {ps qs : List SeatedPass} {n : ℕ} → Made allows said ps n qs → kept_of qs ≡ kept_of ps
all_kept m = ap kept_of m.is ∙ sym (ap kept_of m.was)

pub returns-in-Load-clause-table : goal.returns-in-Load-clause-table
returns-in-Load-clause-table g c = let m : Made g.S.Shape.allows g.J.Says.said c.args.seat.now.me.0.passes c.load.result c.load.new.seat.me.0.passes = c.load.ensures.2.0 in (c.load.ensures.0, c.load.ensures.2.1, all_kept m)

pub returns-in-Store-clause-table : goal.returns-in-Store-clause-table
returns-in-Store-clause-table g c = let m : Made g.S.Shape.allows g.J.Says.said c.args.seat.now.me.0.passes c.in-Store.new c.store.new.seat.me.0.passes = c.store.ensures.2.0 in (c.store.ensures.0, c.store.ensures.2.1, all_kept m)

pub returns-in-Exchange-clause-table : goal.returns-in-Exchange-clause-table
returns-in-Exchange-clause-table g c = let m : Made g.S.Shape.allows g.J.Says.said c.args.seat.now.me.0.passes c.compare_exchange.result c.compare_exchange.new.seat.me.0.passes = c.compare_exchange.ensures.2.0 in (c.compare_exchange.ensures.0, c.compare_exchange.ensures.2.1, all_kept m)
