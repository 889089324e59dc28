use Rattle.std.proofs.Common.{◌∙◌, ℕ, sym, ap}
use Rattle.atomic_table.specs.declared.shared.Seat.{Seat}
use Rattle.ordered_map.specs.Requests.{as_map_call}
use Rattle.tables.specs.Passes.{taken_of}
use Rattle.forest.specs.PassInvariant.{pass_view}
use Rattle.straight.specs.StraightCalls.{CallHasEnded}
use Rattle.tables.specs.Traces.{known_of, planting_of}
use Rattle.tables.specs.declared.view.SeatView.{SeatView}
use Rattle.forest.proofs.DictCalls.{read_starts}
use Rattle.forest.proofs.Passes.{layout_of, call_of}
use Rattle.forest.proofs.CallStays.{call_keeps_out}
use Rattle.forest.proofs.Entered.{ended_keeps}
use Rattle.forest.proofs.WholeCalls.{ended as call_over, of_first, whole_call, whole_pass}
use Rattle.forest.proofs.dictionary.Forest+Dict+K+V+B.read.Given.{Over}
use Rattle.forest.proofs.dictionary.Forest+Dict+K+V+B.read.Goals.{After-note_reply}
use Rattle.forest.proofs.dictionary.Forest+Dict+K+V+B.read.Goals as goal

pub read-reply-requires-clause-begins : goal.read-reply-requires-clause-begins
read-reply-requires-clause-begins g c = (
  call_of c.pass.inside c.pass.invariant.0 (taken_of (pass_view c.pass.inside)),
  c.pass.inside.share,
  (layout_of c.pass.view_is c.self.view_is c.requires.pass, ap taken_of c.pass.view_is ∙ sym c.taken-number.ensures),
  read_starts g.K.WordKey.is_valid g.K.WordKey.word_of g.V.WordValue.is_valid g.V.WordValue.word_of c.pass.inside c.pass.invariant.0 c.args.request c.self.inside.tries c.taken-number.result (ap taken_of c.pass.view_is ∙ sym c.taken-number.ensures) c.requires.ordered c.requires.few,
)

-- how it has ended
call_ended : (g : Over) (c : After-note_reply g) → CallHasEnded g.K.WordKey.is_valid g.K.WordKey.word_of g.V.WordValue.is_valid g.V.WordValue.word_of (g.B.Balance.trie g.B.FixedBalance.the) (call_of c.pass.inside c.pass.invariant.0 (taken_of (pass_view c.pass.inside))) c.read-reply.new.seat.me.0.passes (as_map_call g.K.WordKey.word_of g.V.WordValue.word_of c.args.request) c.pass.inside.share c.self.inside.tries c.taken-number.result c.pass.inside.share c.read-reply.result
call_ended g c = c.read-reply.ensures.ends (call_of c.pass.inside c.pass.invariant.0 (taken_of (pass_view c.pass.inside))) c.pass.inside.share (layout_of c.pass.view_is c.self.view_is c.requires.pass, ap taken_of c.pass.view_is ∙ sym c.taken-number.ensures) (read_starts g.K.WordKey.is_valid g.K.WordKey.word_of g.V.WordValue.is_valid g.V.WordValue.word_of c.pass.inside c.pass.invariant.0 c.args.request c.self.inside.tries c.taken-number.result (ap taken_of c.pass.view_is ∙ sym c.taken-number.ensures) c.requires.ordered c.requires.few)

pub invariant_of-pass : goal.invariant_of-pass
invariant_of-pass g c =
    let e = call_ended g c in (
      whole_pass g.K.WordKey.is_valid g.K.WordKey.word_of g.V.WordValue.is_valid g.V.WordValue.word_of (g.B.Balance.trie g.B.FixedBalance.the) c.pass.inside c.pass.invariant.0 c.read-reply.new.seat e.first e.last c.read-reply.result e.ends e.fresh.has_share c.pass.inside.share c.note_reply.new.self e.is_left c.note_reply.ensures c.read-reply.ensures.table.1,
      λ lasts. ended_keeps c.pass.inside c.pass.invariant.0 c.read-reply.new.seat _ _ c.pass.inside.share c.note_reply.new.self (call_over g.K.WordKey.is_valid g.K.WordKey.word_of g.V.WordValue.is_valid g.V.WordValue.word_of (g.B.Balance.trie g.B.FixedBalance.the) c.pass.inside c.pass.invariant.0 c.read-reply.new.seat e.first e.last c.read-reply.result e.ends) c.read-reply.ensures.table.2 (call_keeps_out g.K.WordKey.is_valid g.K.WordKey.word_of g.V.WordValue.is_valid g.V.WordValue.word_of (g.B.Balance.trie g.B.FixedBalance.the) c.pass.inside c.pass.invariant.0 c.read-reply.new.seat e.first e.last c.read-reply.result e.ends c.pass.inside.share c.note_reply.new.self) (c.pass.invariant.1 lasts),
    )

pub returns : goal.returns
returns g c =
    let e = call_ended g c in
    let same = of_first g.K.WordKey.is_valid g.K.WordKey.word_of g.V.WordValue.is_valid g.V.WordValue.word_of (g.B.Balance.trie g.B.FixedBalance.the) c.pass.inside c.pass.invariant.0 c.read-reply.new.seat e.first e.last c.read-reply.result e.ends in
    rw (← c.pass.view_is, ← c.self.view_is)
    (whole_call g.K.WordKey.is_valid g.K.WordKey.word_of g.V.WordValue.is_valid g.V.WordValue.word_of (g.B.Balance.trie g.B.FixedBalance.the) c.pass.inside c.pass.invariant.0 c.read-reply.new.seat e.first e.last c.read-reply.result e.ends e.fresh.has_share c.pass.inside.share c.note_reply.new.self e.is_left c.note_reply.ensures
    _ (rw (← c.pass.view_is, ← c.self.view_is) at c.requires.pass) _ (same.0 ∙ e.fresh.is_call) (same.1 ∙ e.fresh.has_tries) c.read-reply.ensures.table.0 c.read-reply.ensures.steps
    (λ none. let same = c.read-reply.ensures.nothing none in (ap (λ (k : Seat ℕ SeatView). planting_of k.me.0.passes) same, ap (λ (k : Seat ℕ SeatView). known_of k.me.0.passes) same)))
