use Rattle.std.proofs.Common.{◌≡◌, ◌∙◌, Bool, Option, None, Some, true, false, is_some, ap, refl, subst, sym}
use Rattle.histories.specs.Common.{Extends, Layout}
use Rattle.ordered_map.specs.declared.reply.Reply.TheVariants.{Value}
use Rattle.planting.specs.Plantings.{PlantingView}
use Rattle.template.specs.Common.{Get, Key}
use Rattle.dict.specs.Laws.Begins.{dict_mode}
use Rattle.dict.specs.Laws.TypedMaps.{typed_run}
use Rattle.dict.specs.Typed.{TypedAllows}
use Rattle.dict.specs.Words.{IsWordOf}
use Rattle.dict.specs.declared.dict.DictRun.{DictRun}
use Rattle.template.specs.Balance.{leaf_way, map_mode}
use Rattle.template.specs.Walk.Places.{root_trail, way_at}
use Rattle.template.specs.declared.walk.WalkAt.TheVariants.{Start}
use Rattle.template.specs.declared.walk.WalkRun.{WalkRun}
use Rattle.ordered_map.specs.Paths.{IsAnswerAt}
use Rattle.tables.specs.Passes.{Ground, ground, taken_of}
use Rattle.forest.specs.LookUps.{HasRestedIn}
use Rattle.tables.specs.Shares.{HasFewNames}
use Rattle.tables.specs.Slotted.{in_turns, names_of_table}
use Rattle.tables.specs.TableRule.{history_of}
use Rattle.tables.specs.Traces.{run_at}
use Rattle.tables.specs.declared.memory.PassMemory.{PassMemory}
use Rattle.forest.specs.Dictionary.{HasCalledIn}
use Rattle.forest.specs.PassInvariant.{IsPass, layout_in, pass_view, seated_in}
use Rattle.forest.specs.StraightGet.{getting}
use Rattle.forest.specs.UpkeepKept.{KeepsRight}
use Rattle.forest.proofs.LookUps.{got, got_none, only_rests, rests_then}
use Rattle.forest.proofs.Passes.{layout_of, call_of}
use Rattle.forest.proofs.Rested.{at_lasting, rest_keeps, rest_pass, rest_says, set_now}
use Rattle.forest.proofs.StraightGet.{get_over, get_walks, walker}
use Rattle.straight.proofs.StraightWalk.{leaf_steps}
use Rattle.forest.proofs.CallStays.{call_keeps_out}
use Rattle.forest.proofs.Entered.{ended_keeps}
use Rattle.forest.proofs.WholeCalls.{ended as call_over, IsOver, whole_call, whole_pass}
use Rattle.forest.proofs.look_up.Forest+Dict+K+V+Lasts+B.look_up.Given.{Over}
use Rattle.forest.proofs.look_up.Forest+Dict+K+V+Lasts+B.look_up.Goals.{After-value_of}
use Rattle.forest.proofs.look_up.Forest+Dict+K+V+Lasts+B.look_up.Goals as goal

pub to_goal-requires-clause-first : goal.to_goal-requires-clause-first
to_goal-requires-clause-first g c = λ more. refl

pub to_goal-requires-clause-waits : goal.to_goal-requires-clause-waits
to_goal-requires-clause-waits g c =
    let named = ap taken_of c.pass.view_is ∙ sym c.taken-number.ensures in
    let lay = layout_of c.pass.view_is c.self.view_is c.requires.pass in (
      walker g.K.WordKey.is_valid g.K.WordKey.word_of g.V.WordValue.is_valid g.V.WordValue.word_of c.pass.inside.share c.self.inside.tries c.key_of.result c.leaf_way-way.result (call_of c.pass.inside c.pass.invariant.0 (taken_of (pass_view c.pass.inside))) _ c.taken-number.result lay named,
      get_walks g.K.WordKey.is_valid g.K.WordKey.word_of g.V.WordValue.is_valid g.V.WordValue.word_of (g.B.Balance.trie g.B.FixedBalance.the) c.pass.inside c.pass.invariant.0 c.self.inside.tries c.key_of.result c.taken-number.result c.leaf_way-way.result _ lay named (c.leaf_way-way.ensures ∙ ap leaf_way c.in_trie.ensures) c.key_of.ensures.small,
    )

-- the machine with its walk there
abbrev at : (g : Over) (c : After-value_of g) → WalkRun → DictRun g.row.K.Denot g.row.V.Denot
at g c = getting c.pass.inside.share c.self.inside.tries c.key_of.result

-- how it has ended
over : (g : Over) (c : After-value_of g) → (last : WalkRun) × IsOver g.K.WordKey.is_valid g.K.WordKey.word_of g.V.WordValue.is_valid g.V.WordValue.word_of (g.B.Balance.trie g.B.FixedBalance.the) c.pass.inside c.pass.invariant.0 c.to_goal.new.seat (at g c (way_at c.leaf_way-way.result (Key c.key_of.result) root_trail Start)) (at g c last) (Value c.value_of.result)
over g c = get_over g.K.WordKey.is_valid g.K.WordKey.word_of g.V.WordValue.is_valid g.V.WordValue.word_of (g.B.Balance.trie g.B.FixedBalance.the) c.pass.inside c.pass.invariant.0 c.to_goal.new.seat c.self.inside.tries c.key_of.result c.taken-number.result c.leaf_way-way.result _
    (layout_of c.pass.view_is c.self.view_is c.requires.pass) (ap taken_of c.pass.view_is ∙ sym c.taken-number.ensures) (c.leaf_way-way.ensures ∙ ap leaf_way c.in_trie.ensures) c.key_of.ensures.small
    c.to_goal.result.1 c.to_goal.result.0 c.value_of.result c.value_of.ensures.valid c.value_of.ensures.number c.to_goal.ensures.finds

-- it is a pass again
is_pass : (g : Over) (c : After-value_of g) → IsPass (TypedAllows (IsWordOf g.K.WordKey.is_valid g.K.WordKey.word_of) (IsWordOf g.V.WordValue.is_valid g.V.WordValue.word_of)) (map_mode (g.B.Balance.trie g.B.FixedBalance.the)) (record c.pass.inside { seat = c.to_goal.new.seat })
is_pass g c = let e = over g c in
    whole_pass g.K.WordKey.is_valid g.K.WordKey.word_of g.V.WordValue.is_valid g.V.WordValue.word_of (g.B.Balance.trie g.B.FixedBalance.the) c.pass.inside c.pass.invariant.0 c.to_goal.new.seat _ (at g c e.0) (Value c.value_of.result) e.1 refl c.pass.inside.share c.pass.inside.blamed refl refl c.to_goal.ensures.table.1

-- and what it keeps is right
keeps : (g : Over) (c : After-value_of g) → KeepsRight c.pass.inside.kept (seated_in (record c.pass.inside { seat = c.to_goal.new.seat }))
keeps g c = let e = over g c in
    ended_keeps c.pass.inside c.pass.invariant.0 c.to_goal.new.seat _ _ c.pass.inside.share c.pass.inside.blamed (call_over g.K.WordKey.is_valid g.K.WordKey.word_of g.V.WordValue.is_valid g.V.WordValue.word_of (g.B.Balance.trie g.B.FixedBalance.the) c.pass.inside c.pass.invariant.0 c.to_goal.new.seat _ (at g c e.0) (Value c.value_of.result) e.1) c.to_goal.ensures.table.2 (call_keeps_out g.K.WordKey.is_valid g.K.WordKey.word_of g.V.WordValue.is_valid g.V.WordValue.word_of (g.B.Balance.trie g.B.FixedBalance.the) c.pass.inside c.pass.invariant.0 c.to_goal.new.seat _ (at g c e.0) (Value c.value_of.result) e.1 c.pass.inside.share c.pass.inside.blamed) (c.pass.invariant.1 refl)

-- it has made a get
called : (g : Over) (c : After-value_of g) → (f : Ground) × HasCalledIn (g.B.Balance.trie g.B.FixedBalance.the) g.K.WordKey.is_valid g.K.WordKey.word_of g.V.WordValue.is_valid g.V.WordValue.word_of f (pass_view c.pass.inside) (pass_view (record c.pass.inside { seat = c.to_goal.new.seat })) (Get c.key_of.result) (Value c.value_of.result)
called g c = let e = over g c in let of = rw (← c.pass.view_is, ← c.self.view_is) at c.requires.pass in let words = c.self.inside.words in (
  ground words.table.shared.table_id (names_of_table words.table.shared.key) words.table.shared.key.planting c.self.inside.tries,
  whole_call g.K.WordKey.is_valid g.K.WordKey.word_of g.V.WordValue.is_valid g.V.WordValue.word_of (g.B.Balance.trie g.B.FixedBalance.the) c.pass.inside c.pass.invariant.0 c.to_goal.new.seat _ (at g c e.0) (Value c.value_of.result) e.1 refl c.pass.inside.share c.pass.inside.blamed refl refl
      _ of (Get c.key_of.result) refl refl c.to_goal.ensures.table.0 (leaf_steps (g.B.Balance.trie g.B.FixedBalance.the) c.leaf_way-way.result _ _ _ (c.leaf_way-way.ensures ∙ ap leaf_way c.in_trie.ensures) c.to_goal.ensures.steps) (λ none. absurd (none tt)),
)

-- so it has rested
has_got : (g : Over) (c : After-value_of g) → HasRestedIn true (TypedAllows (IsWordOf g.K.WordKey.is_valid g.K.WordKey.word_of) (IsWordOf g.V.WordValue.is_valid g.V.WordValue.word_of)) (pass_view c.pass.inside) (pass_view (record c.pass.inside { seat = c.to_goal.new.seat }))
has_got g c = let x = called g c in got g.K.WordKey.is_valid g.K.WordKey.word_of g.V.WordValue.is_valid g.V.WordValue.word_of (g.B.Balance.trie g.B.FixedBalance.the) x.0 (pass_view c.pass.inside) (pass_view (record c.pass.inside { seat = c.to_goal.new.seat })) c.key_of.result c.value_of.result x.1

pub invariant_of-pass : goal.invariant_of-pass
invariant_of-pass g c = let d = (goal.at.invariant_of-pass g c).After-value_of in (is_pass g d, λ lasts. keeps g d)

pub returns-then-is_some-clause-rested : goal.returns-then-is_some-clause-rested
returns-then-is_some-clause-rested g c = rw (← c.pass.view_is) (has_got g (goal.at.returns-then-is_some-clause-rested g c).After-value_of)

pub returns-then-is_some-clause-share : goal.returns-then-is_some-clause-share
returns-then-is_some-clause-share g c = rw (← c.pass.view_is) refl

pub note_leaf-requires-clause-turns : goal.note_leaf-requires-clause-turns
note_leaf-requires-clause-turns g c = c.self.invariant.5

pub note_leaf-requires-clause-pass : goal.note_leaf-requires-clause-pass
note_leaf-requires-clause-pass g c =
    let p = c.pass.inside in
    let q = record p { seat = c.to_goal.new.seat } in
    let x = c.pass.invariant.0 in
    let d = (goal.at.note_leaf-requires-clause-pass g c).After-value_of in
    let y = is_pass g d in
    let called = called g d in
    let of = rw (← c.pass.view_is, ← c.self.view_is) at c.requires.pass in (
      seated_in q,
      at_lasting c.self.inside.words c.self.inside.plan.layout (layout_in p) p.number.0 q.seat (c.self.invariant.6 refl).0 (c.to_goal.ensures.table.0 ∙ of.0) of.1 y.seat.alone y.is_pass,
      set_now y (dict_mode (layout_in p).mode (g.B.Balance.trie g.B.FixedBalance.the) x.is_mode) c.in-Some.own (subst (λ kept. KeepsRight kept (seated_in q)) c.in-Some.is (keeps g d)),
      (λ h run. (dict_mode (layout_in p).mode (g.B.Balance.trie g.B.FixedBalance.the) x.is_mode, typed_run (IsWordOf g.K.WordKey.is_valid g.K.WordKey.word_of) (IsWordOf g.V.WordValue.is_valid g.V.WordValue.word_of) (layout_in p) h run)),
      run_at p.seat.me.0.passes,
      subst (λ (k : PlantingView × PassMemory). Extends (run_at p.seat.me.0.passes) (history_of k.0 k.1.rested)) (sym c.to_goal.ensures.table.2) x.seat.since,
      subst (λ n. IsAnswerAt (layout_in p) (run_at q.seat.me.0.passes) (run_at p.seat.me.0.passes) n None) c.key_of.ensures.is
          (got_none g.K.WordKey.is_valid g.K.WordKey.word_of g.V.WordValue.is_valid g.V.WordValue.word_of (g.B.Balance.trie g.B.FixedBalance.the) called.0 (pass_view p) (pass_view q) c.key_of.result c.value_of.result called.1 (none_if c.value_of.result c.is_some.result c.is_some.ensures c.if-is_some.false)),
    )
  where
    none_if : {A : Type 0} (v : Option A) (b : Bool) → b ≡ is_some v → b ≡ false → v ≡ None
    none_if None b e f = refl
    none_if (Some x) b e f = absurd (let z : true ≡ false = sym e ∙ f in cc)

pub invariant_of-pass-in_default : goal.invariant_of-pass-in_default
invariant_of-pass-in_default g c = let d = (goal.at.invariant_of-pass-in_default g c).After-value_of in (is_pass g d, λ lasts. keeps g d)

-- as it was noted that the leaf is out
pub invariant_of-pass-2 : goal.invariant_of-pass-2
invariant_of-pass-2 g c =
    let y = is_pass g (goal.at.invariant_of-pass-2 g c).After-value_of in
    let of = rw (← c.pass.view_is, ← c.self.view_is) at c.requires.pass in
    let many = subst (λ (l : Layout). ¬ HasFewNames l) (sym of.1) (c.self.invariant.6 refl).1 in
    let kept = c.note_leaf.new.self in
    let t = in_turns kept.layout kept.turns in (
      rest_pass y many t c.pass.inside.share kept.keeper c.note_leaf.new.seat c.note_leaf.ensures.table c.note_leaf.ensures.rests,
      λ lasts. rest_keeps y many t c.pass.inside.share kept.keeper c.note_leaf.new.seat c.note_leaf.ensures.table c.note_leaf.ensures.rests,
    )

pub returns-clause-rested : goal.returns-clause-rested
returns-clause-rested g c =
    let p = c.pass.inside in
    let q = record p { seat = c.to_goal.new.seat } in
    let d = (goal.at.returns-clause-rested g c).After-value_of in
    let y = is_pass g d in
    let of = rw (← c.pass.view_is, ← c.self.view_is) at c.requires.pass in
    let many = subst (λ (l : Layout). ¬ HasFewNames l) (sym of.1) (c.self.invariant.6 refl).1 in
    let kept = c.note_leaf.new.self in
    let noted = rest_says y many (in_turns kept.layout kept.turns) p.share kept.keeper c.note_leaf.new.seat c.note_leaf.ensures.table c.note_leaf.ensures.rests in
    rw (← c.pass.view_is) (rests_then true (TypedAllows (IsWordOf g.K.WordKey.is_valid g.K.WordKey.word_of) (IsWordOf g.V.WordValue.is_valid g.V.WordValue.word_of)) (pass_view p) (pass_view q) (pass_view (record q { seat = c.note_leaf.new.seat })) refl (has_got g d) (only_rests true (TypedAllows (IsWordOf g.K.WordKey.is_valid g.K.WordKey.word_of) (IsWordOf g.V.WordValue.is_valid g.V.WordValue.word_of)) (pass_view q) (pass_view (record q { seat = c.note_leaf.new.seat })) noted))

pub returns-clause-share : goal.returns-clause-share
returns-clause-share g c = rw (← c.pass.view_is) refl

pub returns-in_default-clause-rested : goal.returns-in_default-clause-rested
returns-in_default-clause-rested g c = rw (← c.pass.view_is) (has_got g (goal.at.returns-in_default-clause-rested g c).After-value_of)

pub returns-in_default-clause-share : goal.returns-in_default-clause-share
returns-in_default-clause-share g c = rw (← c.pass.view_is) refl
