use Rattle.std.proofs.Common.{◌≡◌, ◌+◌, ◌≤◌, ◌∙◌, ap, refl, subst}
use Rattle.ordered_map.specs.CallRules.{most_steps}
use Rattle.template.specs.Balance.{nodes_by}
use Rattle.arena.specs.Machines.{Call}
use Rattle.edits.specs.Steps.{try_left}
use Rattle.edits.specs.declared.update.UpdateRun.{UpdateRun}
use Rattle.tables.specs.Traces.{seat_steps, shared_nodes}
use Rattle.dict.specs.Calls.{edit_call}
use Rattle.dict.specs.Laws.Kinds.{edit_steps}
use Rattle.tree.specs.KeyEdit.Means.{key_means}
use Rattle.tree.specs.declared.key_edit.KeyEdit.{KeyEdit}
use Rattle.dict.specs.WordReplies.{edit_reply}
use Rattle.dict.specs.declared.dict.DictRun.{DictRun}
use Rattle.straight.specs.StraightCalls.{IsFreshCall, SeatCallBegins}
use Rattle.straight.specs.StraightUpdate.{UpdaterBegins, new_update}
use Rattle.straight.specs.Hands.{names}
use Rattle.straight.proofs.StraightCalls.{editor, edit_begins, edit_ended, edit_fresh, edit_machine, replies, tries_steps}
use Rattle.straight.proofs.calls.make.Given.{Over}
use Rattle.straight.proofs.calls.make.Goals.{After-goal-goal}
use Rattle.straight.proofs.calls.make.Goals as goal

-- the update that has not begun
abbrev update : (g : Over) (c : After-goal-goal g) → UpdateRun (KeyEdit g.row.G.Denot g.row.R.Denot) (Unit {0})
update g c = new_update c.args.edit c.args.share c.args.tries c.args.hand.number

-- and the machine
abbrev first : (g : Over) (c : After-goal-goal g) → DictRun g.row.K.Denot g.row.V.Denot
first g c = edit_machine g.G.EditGoal.goal g.G.EditGoal.trie g.R.EditRule.rule c.args.tries (update g c)

is_fresh : (g : Over) (c : After-goal-goal g) → IsFreshCall (g.B.Balance.trie g.B.FixedBalance.the) (edit_call g.G.EditGoal.goal g.R.EditRule.rule c.args.edit) c.args.share c.args.tries c.args.hand.number (first g c)
is_fresh g c = edit_fresh g.G.EditGoal.goal g.G.EditGoal.trie g.R.EditRule.rule c.args.share c.args.tries c.args.hand.number c.requires.small.0 (update g c) c.args.edit refl refl refl refl refl c.requires.small.1 (g.B.Balance.trie g.B.FixedBalance.the) c.requires.in_trie

may_begin : (g : Over) (c : After-goal-goal g) (k : Call) (lay : k.layout ≡ (names c.args.hand)) (number : k.number ≡ c.args.hand.number) → SeatCallBegins g.K.WordKey.is_valid g.K.WordKey.word_of g.V.WordValue.is_valid g.V.WordValue.word_of (g.B.Balance.trie g.B.FixedBalance.the) k c.args.seat.now.me.0.passes (edit_call g.G.EditGoal.goal g.R.EditRule.rule c.args.edit) c.args.share c.args.tries c.args.hand.number → UpdaterBegins (editor g.K.WordKey.is_valid g.K.WordKey.word_of g.V.WordValue.is_valid g.V.WordValue.word_of (first g c) k (names c.args.hand) c.args.hand.number lay number g.G.EditGoal.goal g.G.EditGoal.trie g.R.EditRule.rule) c.args.seat.now.me.0.passes (update g c)
may_begin g c k lay number x = edit_begins g.K.WordKey.is_valid g.K.WordKey.word_of g.V.WordValue.is_valid g.V.WordValue.word_of (first g c) k (names c.args.hand) c.args.hand.number lay number g.G.EditGoal.goal g.G.EditGoal.trie g.R.EditRule.rule _ (update g c) refl (x (first g c) (is_fresh g c))

pub make-updated-requires-clause-begins : goal.make-updated-requires-clause-begins
make-updated-requires-clause-begins g c = let r = c.requires.begins in let k = (goal.at.make-updated-requires-clause-begins g c).After-goal-goal in (editor g.K.WordKey.is_valid g.K.WordKey.word_of g.V.WordValue.is_valid g.V.WordValue.word_of (first g k) r.0 (names c.args.hand) c.args.hand.number r.1.0 r.1.1 g.G.EditGoal.goal g.G.EditGoal.trie g.R.EditRule.rule, may_begin g k r.0 r.1.0 r.1.1 r.2)

pub returns-clause-steps : goal.returns-clause-steps
returns-clause-steps g c =
    let nodes = shared_nodes (names c.args.hand) in
    let call = edit_call g.G.EditGoal.goal g.R.EditRule.rule c.args.edit in
    let all = edit_steps g.G.EditGoal.goal g.G.EditGoal.trie g.R.EditRule.rule c.args.edit c.args.tries nodes in
    subst (λ n. seat_steps c.make-updated.new.seat.me.0.passes ≤ seat_steps c.args.seat.now.me.0.passes + n) (all ∙ ap (λ t. most_steps call c.args.tries (nodes_by t nodes)) c.requires.in_trie)
    (tries_steps _ _ _ c.args.tries (try_left (key_means g.G.EditGoal.goal g.G.EditGoal.trie g.R.EditRule.rule) c.args.edit nodes) c.requires.small.0 refl c.make-updated.ensures.steps)

pub returns-clause-ends : goal.returns-clause-ends
returns-clause-ends g c = λ call fits x.
    let k = (goal.at.returns-clause-ends g c).After-goal-goal in
    let left = c.make-updated.ensures.to (editor g.K.WordKey.is_valid g.K.WordKey.word_of g.V.WordValue.is_valid g.V.WordValue.word_of (first g k) call (names c.args.hand) c.args.hand.number fits.0 fits.1 g.G.EditGoal.goal g.G.EditGoal.trie g.R.EditRule.rule) (may_begin g k call fits.0 fits.1 x) in
    let last = edit_machine g.G.EditGoal.goal g.G.EditGoal.trie g.R.EditRule.rule c.args.tries left.0 in
    record {
      first = first g k;
      last = last;
      fresh = is_fresh g k;
      is_left = left.1;
      ends = replies g.K.WordKey.is_valid g.K.WordKey.word_of g.V.WordValue.is_valid g.V.WordValue.word_of call _ (first g k) last (edit_reply c.goal-goal.result c.make-updated.result.0) c.of_update.result c.of_update.ensures
          (edit_ended g.K.WordKey.is_valid g.K.WordKey.word_of g.V.WordValue.is_valid g.V.WordValue.word_of (first g k) call (names c.args.hand) c.args.hand.number fits.0 fits.1 g.G.EditGoal.goal g.G.EditGoal.trie g.R.EditRule.rule _ left.0 c.make-updated.result.0 c.args.edit c.goal-goal.result (is_fresh g k).is_call c.goal-goal.ensures left.2);
    }
