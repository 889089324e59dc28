use Rattle.std.proofs.Common.{◌≡◌, ℕ, ◌∙◌, sym}
use Rattle.arena.specs.Share.{Remaining}
use Rattle.ordered_map.specs.OrderedMap.{Range}
use Rattle.ordered_map.specs.Requests.{as_map_call}
use Rattle.straight.specs.StraightCalls.{IsFreshCall}
use Rattle.straight.specs.Hands.{names}
use Rattle.straight.proofs.StraightCalls.{made_begins, made_by, made_ended, ranges, read_fresh, read_machine}
use Rattle.straight.proofs.calls.read.Given.{Over}
use Rattle.straight.proofs.calls.read.Goals.{After-range_run-run}
use Rattle.straight.proofs.calls.read.Goals as goal

-- the keys of a range
range_of : (low high most l h m : ℕ) → l ≡ low → h ≡ high → m ≡ most → Range l h m ≡ Range low high most
range_of low high most l h m is_low is_high is_most i = Range (is_low i) (is_high i) (is_most i)

-- the machine of a range has not begun
visits : (g : Over) (c : After-range_run-run g) (share : Remaining) → IsFreshCall {K = g.row.K.Denot} {V = g.row.V.Denot} (g.B.Balance.trie g.B.FixedBalance.the) (as_map_call g.K.WordKey.word_of g.V.WordValue.word_of c.args.request) share c.args.tries c.args.hand.number (read_machine ranges c.args.tries share c.range_run-run.result)
visits g c share = rw c.in-Range.is (read_fresh ranges share c.args.tries c.args.hand.number (Range (g.K.WordKey.word_of c.in-Range.low) (g.K.WordKey.word_of c.in-Range.high) c.in-Range.most) c.requires.ordered.0 c.range_run-run.result
    (range_of _ _ _ _ _ _ (c.range_run-run.ensures.low ∙ c.word.ensures) (c.range_run-run.ensures.high ∙ c.word-in-Range.ensures) c.range_run-run.ensures.most) (g.B.Balance.trie g.B.FixedBalance.the) (rw (sym c.in_trie.ensures) c.range_run-run.ensures.fresh) (λ few. (g.met.K.WordKey.fits c.in-Range.high c.valid.ensures, few)))

pub call-told-requires-clause-begins : goal.call-told-requires-clause-begins
call-told-requires-clause-begins g c =
    let r = c.requires.begins in
    let fresh = visits g (goal.at.call-told-requires-clause-begins g c).After-range_run-run r.1 in
    (made_by g.K.WordKey.is_valid g.K.WordKey.word_of g.V.WordValue.is_valid g.V.WordValue.word_of ranges r.0 (names c.args.hand) c.args.hand.number r.2 c.args.tries _ r.1 c.range_run-run.result (g.B.Balance.trie g.B.FixedBalance.the) fresh, made_begins g.K.WordKey.is_valid g.K.WordKey.word_of g.V.WordValue.is_valid g.V.WordValue.word_of ranges r.0 (names c.args.hand) c.args.hand.number r.2 c.args.tries _ r.1 c.range_run-run.result (g.B.Balance.trie g.B.FixedBalance.the) fresh _ r.3)

pub returns-in-Range-clause-ends : goal.returns-in-Range-clause-ends
returns-in-Range-clause-ends g c = λ call share fits x.
    let fresh = visits g (goal.at.returns-in-Range-clause-ends g c).After-range_run-run share in
    made_ended g.K.WordKey.is_valid g.K.WordKey.word_of g.V.WordValue.is_valid g.V.WordValue.word_of ranges call (names c.args.hand) c.args.hand.number fits c.args.tries _ share c.range_run-run.result (g.B.Balance.trie g.B.FixedBalance.the) fresh _ c.call-told.new.run c.call-told.result c.told_range.result c.told_range.ensures
    (c.call-told.ensures.leads.to (made_by g.K.WordKey.is_valid g.K.WordKey.word_of g.V.WordValue.is_valid g.V.WordValue.word_of ranges call (names c.args.hand) c.args.hand.number fits c.args.tries _ share c.range_run-run.result (g.B.Balance.trie g.B.FixedBalance.the) fresh) (made_begins g.K.WordKey.is_valid g.K.WordKey.word_of g.V.WordValue.is_valid g.V.WordValue.word_of ranges call (names c.args.hand) c.args.hand.number fits c.args.tries _ share c.range_run-run.result (g.B.Balance.trie g.B.FixedBalance.the) fresh _ x))

pub neighbour-requires-clause-begins : goal.neighbour-requires-clause-begins
neighbour-requires-clause-begins g c = rw c.in-Successor.is at c.requires.begins

pub neighbour-requires-in-Predecessor-clause-begins : goal.neighbour-requires-in-Predecessor-clause-begins
neighbour-requires-in-Predecessor-clause-begins g c = rw c.in-Predecessor.is at c.requires.begins
