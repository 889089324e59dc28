use Rattle.std.proofs.Common.{◌^◌, ◌<◌, ◌∙◌, ℕ, refl, sym, ap, subst}
use Rattle.ordered_map.specs.declared.reply.Reply.TheVariants.{Value}
use Rattle.template.specs.Common.{Key, Get}
use Rattle.dict.specs.declared.dict.DictRun.{DictRun}
use Rattle.template.specs.Balance.{leaf_way}
use Rattle.template.specs.Walk.Places.{root_trail, way_at}
use Rattle.template.specs.declared.walk.WalkAt.TheVariants.{Start}
use Rattle.template.specs.declared.walk.WalkRun.{WalkRun}
use Rattle.tables.specs.Passes.{taken_of}
use Rattle.forest.specs.PassInvariant.{pass_view}
use Rattle.forest.specs.StraightGet.{getting}
use Rattle.forest.proofs.Passes.{layout_of, call_of}
use Rattle.forest.proofs.StraightGet.{get_over, get_walks, walker}
use Rattle.straight.proofs.StraightWalk.{leaf_steps}
use Rattle.forest.proofs.CallStays.{call_keeps_out}
use Rattle.forest.proofs.Entered.{ended_keeps}
use Rattle.forest.proofs.WholeCalls.{ended as call_over, IsOver, whole_call, whole_pass}
use Rattle.forest.proofs.dictionary.Forest+Dict+K+V+B.get.Given.{Over}
use Rattle.forest.proofs.dictionary.Forest+Dict+K+V+B.get.Goals.{After-value_of}
use Rattle.forest.proofs.dictionary.Forest+Dict+K+V+B.get.Goals as goal

pub to_goal-requires-clause-waits : goal.to_goal-requires-clause-waits
to_goal-requires-clause-waits g c =
    let named = ap taken_of c.pass.view_is ∙ sym c.taken-number.ensures in
    let lay = layout_of c.pass.view_is c.self.view_is c.requires.pass in
    let small = subst (λ (n : ℕ). n < 2 ^ 64) (sym c.word.ensures) (g.met.K.WordKey.fits c.args.key.now c.valid.ensures) in (
      walker g.K.WordKey.is_valid g.K.WordKey.word_of g.V.WordValue.is_valid g.V.WordValue.word_of c.pass.inside.share c.self.inside.tries c.word.result c.leaf_way-way.result (call_of c.pass.inside c.pass.invariant.0 (taken_of (pass_view c.pass.inside))) _ c.taken-number.result lay named,
      get_walks g.K.WordKey.is_valid g.K.WordKey.word_of g.V.WordValue.is_valid g.V.WordValue.word_of (g.B.Balance.trie g.B.FixedBalance.the) c.pass.inside c.pass.invariant.0 c.self.inside.tries c.word.result c.taken-number.result c.leaf_way-way.result _ lay named (c.leaf_way-way.ensures ∙ ap leaf_way c.in_trie.ensures) small,
    )

-- the machine with its walk there
abbrev at : (g : Over) (c : After-value_of g) → WalkRun → DictRun g.row.K.Denot g.row.V.Denot
at g c = getting c.pass.inside.share c.self.inside.tries c.word.result

-- how it has ended
over : (g : Over) (c : After-value_of g) → (last : WalkRun) × IsOver g.K.WordKey.is_valid g.K.WordKey.word_of g.V.WordValue.is_valid g.V.WordValue.word_of (g.B.Balance.trie g.B.FixedBalance.the) c.pass.inside c.pass.invariant.0 c.to_goal.new.seat (at g c (way_at c.leaf_way-way.result (Key c.word.result) root_trail Start)) (at g c last) (Value c.value_of.result)
over g c = get_over g.K.WordKey.is_valid g.K.WordKey.word_of g.V.WordValue.is_valid g.V.WordValue.word_of (g.B.Balance.trie g.B.FixedBalance.the) c.pass.inside c.pass.invariant.0 c.to_goal.new.seat c.self.inside.tries c.word.result c.taken-number.result c.leaf_way-way.result _
    (layout_of c.pass.view_is c.self.view_is c.requires.pass) (ap taken_of c.pass.view_is ∙ sym c.taken-number.ensures) (c.leaf_way-way.ensures ∙ ap leaf_way c.in_trie.ensures) (subst (λ (n : ℕ). n < 2 ^ 64) (sym c.word.ensures) (g.met.K.WordKey.fits c.args.key.now c.valid.ensures))
    c.to_goal.result.1 c.to_goal.result.0 c.value_of.result c.value_of.ensures.valid c.value_of.ensures.number c.to_goal.ensures.finds

pub invariant_of-pass : goal.invariant_of-pass
invariant_of-pass g c =
    let e = over g c in (
      whole_pass g.K.WordKey.is_valid g.K.WordKey.word_of g.V.WordValue.is_valid g.V.WordValue.word_of (g.B.Balance.trie g.B.FixedBalance.the) c.pass.inside c.pass.invariant.0 c.to_goal.new.seat _ (at g c e.0) (Value c.value_of.result) e.1 refl c.pass.inside.share c.pass.inside.blamed refl refl c.to_goal.ensures.table.1,
      λ lasts. ended_keeps c.pass.inside c.pass.invariant.0 c.to_goal.new.seat _ _ c.pass.inside.share c.pass.inside.blamed (call_over g.K.WordKey.is_valid g.K.WordKey.word_of g.V.WordValue.is_valid g.V.WordValue.word_of (g.B.Balance.trie g.B.FixedBalance.the) c.pass.inside c.pass.invariant.0 c.to_goal.new.seat _ (at g c e.0) (Value c.value_of.result) e.1) c.to_goal.ensures.table.2 (call_keeps_out g.K.WordKey.is_valid g.K.WordKey.word_of g.V.WordValue.is_valid g.V.WordValue.word_of (g.B.Balance.trie g.B.FixedBalance.the) c.pass.inside c.pass.invariant.0 c.to_goal.new.seat _ (at g c e.0) (Value c.value_of.result) e.1 c.pass.inside.share c.pass.inside.blamed) (c.pass.invariant.1 lasts),
    )

pub returns : goal.returns
returns g c =
    let e = over g c in
    rw (← c.pass.view_is, ← c.self.view_is)
    (whole_call g.K.WordKey.is_valid g.K.WordKey.word_of g.V.WordValue.is_valid g.V.WordValue.word_of (g.B.Balance.trie g.B.FixedBalance.the) c.pass.inside c.pass.invariant.0 c.to_goal.new.seat _ (at g c e.0) (Value c.value_of.result) e.1 refl c.pass.inside.share c.pass.inside.blamed refl refl
    _ (rw (← c.pass.view_is, ← c.self.view_is) at c.requires.pass) (Get (g.K.WordKey.word_of c.args.key.now)) (ap Get c.word.ensures) refl c.to_goal.ensures.table.0 (leaf_steps (g.B.Balance.trie g.B.FixedBalance.the) c.leaf_way-way.result _ _ _ (c.leaf_way-way.ensures ∙ ap leaf_way c.in_trie.ensures) c.to_goal.ensures.steps) (λ none. absurd (none tt)))

pub to_goal-requires-clause-first : goal.to_goal-requires-clause-first
to_goal-requires-clause-first g c = λ more. refl
