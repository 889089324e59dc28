use Rattle.std.proofs.Common.{◌≡◌, ◌≤◌, ◌<◌, ◌∙◌, ℕ, sym, ap, arith, subst}
use Rattle.histories.specs.Common.{Remaining}
use Rattle.dict.specs.Calls.{share_of}
use Rattle.resting.specs.Dead.{IsUnborn}
use Rattle.dict.specs.Calls.{edit_call}
use Rattle.tables.specs.Passes.{taken_of}
use Rattle.forest.specs.PassInvariant.{layout_in, pass_view, seated_in}
use Rattle.tables.specs.Traces.{run_at}
use Rattle.upkeep.specs.UpkeepLost.{IsLostReply}
use Rattle.straight.specs.StraightCalls.{IsFreshCall, CallHasEnded, SeatCallBegins}
use Rattle.forest.proofs.DictCalls.{call_starts}
use Rattle.forest.proofs.Passes.{layout_of, call_of}
use Rattle.forest.proofs.CallStays.{call_keeps_out, call_lost}
use Rattle.forest.proofs.Entered.{ended_keeps}
use Rattle.forest.proofs.WholeCalls.{ended as call_over, of_first, whole_call, whole_pass}
use Rattle.forest.proofs.dictionary.Forest+Dict+K+V+B.edit.Given.{Over}
use Rattle.forest.proofs.dictionary.Forest+Dict+K+V+B.edit.Goals.{After-note_lost, After-replace-share}
use Rattle.forest.proofs.dictionary.Forest+Dict+K+V+B.edit.Goals as goal

-- a machine of the edit may begin the call
begins : (g : Over) (c : After-replace-share g) → SeatCallBegins g.K.WordKey.is_valid g.K.WordKey.word_of g.V.WordValue.is_valid g.V.WordValue.word_of (g.B.Balance.trie g.B.FixedBalance.the) (call_of c.pass.inside c.pass.invariant.0 (taken_of (pass_view c.pass.inside))) c.pass.inside.seat.me.0.passes (edit_call g.G.EditGoal.goal g.R.EditRule.rule c.args.edit) c.replace-share.result c.self.inside.tries c.taken-number.result
begins g c = λ first fresh. call_starts g.K.WordKey.is_valid g.K.WordKey.word_of g.V.WordValue.is_valid g.V.WordValue.word_of c.pass.inside c.pass.invariant.0 first (edit_call g.G.EditGoal.goal g.R.EditRule.rule c.args.edit) c.self.inside.tries c.taken-number.result (ap taken_of c.pass.view_is ∙ sym c.taken-number.ensures) c.requires.typed tt (subst (λ share. IsFreshCall (g.B.Balance.trie g.B.FixedBalance.the) (edit_call g.G.EditGoal.goal g.R.EditRule.rule c.args.edit) share c.self.inside.tries c.taken-number.result first) c.replace-share.ensures.value fresh)

pub make-told-requires-clause-begins : goal.make-told-requires-clause-begins
make-told-requires-clause-begins g c = (
  call_of c.pass.inside c.pass.invariant.0 (taken_of (pass_view c.pass.inside)),
  (layout_of c.pass.view_is c.self.view_is c.requires.pass, ap taken_of c.pass.view_is ∙ sym c.taken-number.ensures),
  begins g (goal.at.make-told-requires-clause-begins g c).After-replace-share,
)

-- how it has ended
call_ended : (g : Over) (c : After-note_lost g) → CallHasEnded g.K.WordKey.is_valid g.K.WordKey.word_of g.V.WordValue.is_valid g.V.WordValue.word_of (g.B.Balance.trie g.B.FixedBalance.the) (call_of c.pass.inside c.pass.invariant.0 (taken_of (pass_view c.pass.inside))) c.make-told.new.seat.me.0.passes (edit_call g.G.EditGoal.goal g.R.EditRule.rule c.args.edit) c.replace-share.result c.self.inside.tries c.taken-number.result c.make-told.result.1 c.make-told.result.0
call_ended g c = c.make-told.ensures.ends (call_of c.pass.inside c.pass.invariant.0 (taken_of (pass_view c.pass.inside))) (layout_of c.pass.view_is c.self.view_is c.requires.pass, ap taken_of c.pass.view_is ∙ sym c.taken-number.ensures) (begins g (goal.at.returns g c).After-replace-share)

-- and what it has taken is out, if it was lost
in_vain : (g : Over) (c : After-note_lost g) → IsLostReply c.make-told.result.0 → (n : ℕ) → c.next.result.0.0 ≤ n → n < c.next-2.result.0.0 → IsUnborn (layout_in c.pass.inside) c.pass.inside.number.0 (run_at c.make-told.new.seat.me.0.passes) n
in_vain g c is n from to =
    let e = call_ended g c in
    call_lost g.K.WordKey.is_valid g.K.WordKey.word_of g.V.WordValue.is_valid g.V.WordValue.word_of (g.B.Balance.trie g.B.FixedBalance.the) c.pass.inside c.pass.invariant.0 c.make-told.new.seat e.first e.last c.make-told.result.0 e.ends c.unborn_stays_out.ensures.none is n
    (let a = c.next.ensures.0 in omega (arith, a, from))
    (let b = c.next-2.ensures.0 in let d : (share_of e.last.run).next_node ≡ c.make-told.result.1.next_node = ap (λ (l : Remaining). l.next_node) e.is_left in omega (arith, b, d, to))

pub invariant_of-pass : goal.invariant_of-pass
invariant_of-pass g c =
    let e = call_ended g c in (
      whole_pass g.K.WordKey.is_valid g.K.WordKey.word_of g.V.WordValue.is_valid g.V.WordValue.word_of (g.B.Balance.trie g.B.FixedBalance.the) c.pass.inside c.pass.invariant.0 c.make-told.new.seat e.first e.last c.make-told.result.0 e.ends (e.fresh.has_share ∙ c.replace-share.ensures.value) c.make-told.result.1 c.note_reply.new.self e.is_left c.note_reply.ensures c.make-told.ensures.table.1,
      λ lasts. c.note_lost.ensures (seated_in (record c.pass.inside { share = c.make-told.result.1; seat = c.make-told.new.seat; blamed = c.note_reply.new.self })) (in_vain g c) (ended_keeps c.pass.inside c.pass.invariant.0 c.make-told.new.seat _ _ c.make-told.result.1 c.note_reply.new.self (call_over g.K.WordKey.is_valid g.K.WordKey.word_of g.V.WordValue.is_valid g.V.WordValue.word_of (g.B.Balance.trie g.B.FixedBalance.the) c.pass.inside c.pass.invariant.0 c.make-told.new.seat e.first e.last c.make-told.result.0 e.ends) c.make-told.ensures.table.2 (call_keeps_out g.K.WordKey.is_valid g.K.WordKey.word_of g.V.WordValue.is_valid g.V.WordValue.word_of (g.B.Balance.trie g.B.FixedBalance.the) c.pass.inside c.pass.invariant.0 c.make-told.new.seat e.first e.last c.make-told.result.0 e.ends c.make-told.result.1 c.note_reply.new.self) (c.pass.invariant.1 lasts)),
    )

pub returns : goal.returns
returns g c =
    let e = call_ended g c in
    let same = of_first g.K.WordKey.is_valid g.K.WordKey.word_of g.V.WordValue.is_valid g.V.WordValue.word_of (g.B.Balance.trie g.B.FixedBalance.the) c.pass.inside c.pass.invariant.0 c.make-told.new.seat e.first e.last c.make-told.result.0 e.ends in
    rw (← c.pass.view_is, ← c.self.view_is)
    (whole_call g.K.WordKey.is_valid g.K.WordKey.word_of g.V.WordValue.is_valid g.V.WordValue.word_of (g.B.Balance.trie g.B.FixedBalance.the) c.pass.inside c.pass.invariant.0 c.make-told.new.seat e.first e.last c.make-told.result.0 e.ends (e.fresh.has_share ∙ c.replace-share.ensures.value) c.make-told.result.1 c.note_reply.new.self e.is_left c.note_reply.ensures
    _ (rw (← c.pass.view_is, ← c.self.view_is) at c.requires.pass) _ (same.0 ∙ e.fresh.is_call) (same.1 ∙ e.fresh.has_tries) c.make-told.ensures.table.0 c.make-told.ensures.steps
    (λ none. absurd (none tt)))

pub make-told-requires-clause-in_trie : goal.make-told-requires-clause-in_trie
make-told-requires-clause-in_trie g c = ap g.B.Balance.trie c.the.ensures
