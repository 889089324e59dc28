use Rattle.std.proofs.Common.{◌≡◌, ◌∙◌, ◌≤◌, None, refl, sym, ap, subst, arith}
use Rattle.template.specs.Balance.{nodes_by}
use Rattle.histories.specs.Common.{Layout, MatchTurn}
use Rattle.dict.specs.Calls.{call_in, AsksForPairs}
use Rattle.dict.specs.DictKnown.{DictIsReady, DictWaits, DictAnswers}
use Rattle.dict.specs.Laws.Dict.{dict_told}
use Rattle.ordered_map.specs.CallRules.{most_steps}
use Rattle.dict.specs.Steps.{map_left}
use Rattle.dict.specs.Typed.{TypedAllows}
use Rattle.dict.specs.Words.{IsWordOf}
use Rattle.tables.specs.Passes.{PassView, Ground, taken_of}
use Rattle.forest.specs.PassInvariant.{pass_view, layout_in}
use Rattle.tables.specs.Traces.{CallBegins, shared_nodes, weight}
use Rattle.straight.proofs.Advances.{few_taken, weighs}
use Rattle.tables.specs.CallSteps.{HasDictLeft}
use Rattle.straight.specs.StraightCalls.{IsSameDictCall}
use Rattle.forest.proofs.DictCalls.{request_starts}
use Rattle.forest.proofs.OpenBegins.{begins_keeps, begins_open}
use Rattle.forest.proofs.OpenSteps.{DictStands}
use Rattle.forest.proofs.Passes.{call_of, layout_of}
use Rattle.straight.proofs.Places.{stands}
use Rattle.forest.proofs.open.Forest+Dict+K+V+B.open.Given.{Over}
use Rattle.forest.proofs.open.Forest+Dict+K+V+B.open.Goals as goal

-- the number of the call
named : (g : Over) (c : goal.After-next-turn g) → c.taken-call.result ≡ taken_of (pass_view c.pass.inside)
named g c = c.taken-call.ensures ∙ sym (ap taken_of c.pass.view_is)

-- the machine begins the call
starts : (g : Over) (c : goal.After-next-turn g) → CallBegins (TypedAllows (IsWordOf g.K.WordKey.is_valid g.K.WordKey.word_of) (IsWordOf g.V.WordValue.is_valid g.V.WordValue.word_of)) (DictIsReady (IsWordOf g.K.WordKey.is_valid g.K.WordKey.word_of) (IsWordOf g.V.WordValue.is_valid g.V.WordValue.word_of)) HasDictLeft (call_of c.pass.inside c.pass.invariant.0 (taken_of (pass_view c.pass.inside))) c.pass.inside.seat.me.0.passes c.new-run.result
starts g c =
    let made = c.new-run.ensures in
    request_starts g.K.WordKey.is_valid g.K.WordKey.word_of g.V.WordValue.is_valid g.V.WordValue.word_of c.pass.inside c.pass.invariant.0 c.new-run.result c.args.request c.self.inside.tries c.taken-call.result (sym (named g c)) made.call (made.trie ∙ c.in_trie.ensures) made.typed made.tries (made.fresh c.self.invariant.3) c.requires.few made.share

-- its first turn has been made
first_turn : (g : Over) (c : goal.After-next-turn g) → DictStands g.K.WordKey.is_valid g.K.WordKey.word_of g.V.WordValue.is_valid g.V.WordValue.word_of (call_of c.pass.inside c.pass.invariant.0 (taken_of (pass_view c.pass.inside))) c.pass.inside.seat.me.0.passes c.new-run.result c.next-turn.new.self c.next-turn.result
first_turn g c = stands (TypedAllows (IsWordOf g.K.WordKey.is_valid g.K.WordKey.word_of) (IsWordOf g.V.WordValue.is_valid g.V.WordValue.word_of)) (DictIsReady (IsWordOf g.K.WordKey.is_valid g.K.WordKey.word_of) (IsWordOf g.V.WordValue.is_valid g.V.WordValue.word_of)) (DictWaits (IsWordOf g.K.WordKey.is_valid g.K.WordKey.word_of) (IsWordOf g.V.WordValue.is_valid g.V.WordValue.word_of)) (IsSameDictCall g.K.WordKey.is_valid g.K.WordKey.word_of g.V.WordValue.is_valid g.V.WordValue.word_of) HasDictLeft (call_of c.pass.inside c.pass.invariant.0 (taken_of (pass_view c.pass.inside))) _ c.new-run.result c.next-turn.new.self c.next-turn.result (DictAnswers g.K.WordKey.is_valid g.K.WordKey.word_of g.V.WordValue.is_valid g.V.WordValue.word_of) c.next-turn.ensures.same (λ h run is. c.next-turn.ensures.turn (call_of c.pass.inside c.pass.invariant.0 (taken_of (pass_view c.pass.inside))) h run is) (starts g c)

-- it may make no more steps than such a call
few_steps : (g : Over) (c : goal.After-next-turn g) → weight c.next-turn.result (map_left c.next-turn.new.self.run (shared_nodes (layout_in c.pass.inside))) ≤ most_steps (call_in c.next-turn.new.self.run) c.next-turn.new.self.tries (nodes_by (g.B.Balance.trie g.B.FixedBalance.the) (shared_nodes (layout_in c.pass.inside)))
few_steps g c =
    let made = c.new-run.ensures in
    let lay : Layout = (layout_in c.pass.inside) in
    let begun = starts g c in
    let near = c.next-turn.ensures.nearer (shared_nodes lay) (dict_told (IsWordOf g.K.WordKey.is_valid g.K.WordKey.word_of) (IsWordOf g.V.WordValue.is_valid g.V.WordValue.word_of) c.new-run.result (call_of c.pass.inside c.pass.invariant.0 (taken_of (pass_view c.pass.inside))) _ None (shared_nodes lay) begun.sound begun.so.1 (few_taken (TypedAllows (IsWordOf g.K.WordKey.is_valid g.K.WordKey.word_of) (IsWordOf g.V.WordValue.is_valid g.V.WordValue.word_of)) lay (call_of c.pass.inside c.pass.invariant.0 (taken_of (pass_view c.pass.inside))) _ refl begun.sound)) in
    let less : weight c.next-turn.result (map_left c.next-turn.new.self.run (shared_nodes lay)) ≤ map_left c.new-run.result.run (shared_nodes lay) = weighs c.next-turn.result _ _ near in
    let most : map_left c.new-run.result.run (shared_nodes lay) ≤ most_steps (call_in c.new-run.result.run) c.new-run.result.tries (nodes_by (g.B.Balance.trie g.B.FixedBalance.the) (shared_nodes lay)) = rw made.tries (subst (λ t. map_left c.new-run.result.run (shared_nodes lay) ≤ most_steps (call_in c.new-run.result.run) c.self.inside.tries (nodes_by t (shared_nodes lay))) c.in_trie.ensures (made.steps (shared_nodes lay) c.self.invariant.3)) in
    rw (c.next-turn.ensures.same.0, c.next-turn.ensures.same.1) (omega (arith, less, most))

-- one that asks for pairs has not answered
asks : (g : Over) (c : goal.After-next-turn g) → AsksForPairs (call_in c.next-turn.new.self.run) → MatchTurn c.next-turn.result (λ _. Unit {0}) (λ _. ⊥)
asks g c some = c.next-turn.ensures.begins refl (subst AsksForPairs c.next-turn.ensures.same.0 some) (call_of c.pass.inside c.pass.invariant.0 (taken_of (pass_view c.pass.inside))) _ (starts g c).so.1

pub invariant_of-result : goal.invariant_of-result
invariant_of-result g c = (begins_open g.K.WordKey.is_valid g.K.WordKey.word_of g.V.WordValue.is_valid g.V.WordValue.word_of (g.B.Balance.trie g.B.FixedBalance.the) c.pass.inside c.pass.invariant.0 c.new-run.result c.next-turn.new.self c.next-turn.result c.taken-call.result c.next.result.0 (named g c) c.new-run.ensures.share (first_turn g c) (few_steps g c) (asks g c) c.of-began.result (c.of-began.ensures ∙ sym c.pass.view_is), λ lasts. begins_keeps g.K.WordKey.is_valid g.K.WordKey.word_of g.V.WordValue.is_valid g.V.WordValue.word_of (g.B.Balance.trie g.B.FixedBalance.the) c.pass.inside c.pass.invariant.0 c.next-turn.new.self c.next-turn.result c.taken-call.result c.next.result.0 c.of-began.result c.next.ensures.0 (c.of-began.ensures ∙ sym c.pass.view_is) (c.pass.invariant.1 lasts))

pub returns-clause-left : goal.returns-clause-left
returns-clause-left g c =
    let most = most_steps (call_in c.next-turn.new.self.run) c.next-turn.new.self.tries (nodes_by (g.B.Balance.trie g.B.FixedBalance.the) (shared_nodes c.args.self.now.layout)) in
    subst (λ (v : PassView). weight c.next-turn.result (map_left c.next-turn.new.self.run (shared_nodes v.layout)) ≤ most) (sym (c.of-began.ensures ∙ sym c.pass.view_is))
    (subst (λ (l : Layout). weight c.next-turn.result (map_left c.next-turn.new.self.run (shared_nodes (layout_in c.pass.inside))) ≤ most_steps (call_in c.next-turn.new.self.run) c.next-turn.new.self.tries (nodes_by (g.B.Balance.trie g.B.FixedBalance.the) (shared_nodes l))) (layout_of c.pass.view_is c.self.view_is c.requires.pass ∙ ap (λ (f : Ground). f.layout) c.self.view_is) (few_steps g c))
