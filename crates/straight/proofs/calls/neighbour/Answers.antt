use Rattle.std.proofs.Common.{◌∙◌, sym, ap}
use Rattle.arena.specs.Share.{Remaining}
use Rattle.ordered_map.specs.OrderedMap.{Neighbour}
use Rattle.straight.specs.StraightCalls.{IsFreshCall}
use Rattle.straight.specs.Hands.{names}
use Rattle.straight.proofs.StraightCalls.{made_begins, made_by, made_ended, neighbours, read_fresh, read_machine, relisted}
use Rattle.straight.proofs.calls.neighbour.Given.{Over}
use Rattle.straight.proofs.calls.neighbour.Goals.{After-exchange}
use Rattle.straight.proofs.calls.neighbour.Goals as goal

-- its machine has not begun
searches : (g : Over) (c : After-exchange g) (share : Remaining) → IsFreshCall {K = g.row.K.Denot} {V = g.row.V.Denot} (g.B.Balance.trie g.B.FixedBalance.the) (Neighbour c.args.side (g.K.WordKey.word_of c.args.key)) share c.args.tries c.args.hand.number (read_machine neighbours c.args.tries share c.exchange.new.run)
searches g c share = read_fresh neighbours share c.args.tries c.args.hand.number (Neighbour c.args.side (g.K.WordKey.word_of c.args.key)) c.requires.tries c.exchange.new.run (ap (λ r. neighbours.kind.means.call r.read) c.exchange.ensures.same ∙ (λ i. Neighbour (c.run-run.ensures.side i) ((c.run-run.ensures.key ∙ c.word.ensures) i))) (g.B.Balance.trie g.B.FixedBalance.the) (relisted c.run-run.result _ _ _ c.exchange.ensures.same c.exchange.ensures.empty (rw (sym c.in_trie.ensures) c.run-run.ensures.fresh)) (λ few. g.met.K.WordKey.fits c.args.key c.valid.ensures)

pub call-told-requires-clause-begins : goal.call-told-requires-clause-begins
call-told-requires-clause-begins g c =
    let r = c.requires.begins in
    let fresh = searches g (goal.at.call-told-requires-clause-begins g c).After-exchange r.1 in
    (made_by g.K.WordKey.is_valid g.K.WordKey.word_of g.V.WordValue.is_valid g.V.WordValue.word_of neighbours r.0 (names c.args.hand) c.args.hand.number r.2 c.args.tries _ r.1 c.exchange.new.run (g.B.Balance.trie g.B.FixedBalance.the) fresh, made_begins g.K.WordKey.is_valid g.K.WordKey.word_of g.V.WordValue.is_valid g.V.WordValue.word_of neighbours r.0 (names c.args.hand) c.args.hand.number r.2 c.args.tries _ r.1 c.exchange.new.run (g.B.Balance.trie g.B.FixedBalance.the) fresh _ r.3)

pub returns-clause-ends : goal.returns-clause-ends
returns-clause-ends g c = λ call share fits x.
    let fresh = searches g (goal.at.returns-clause-ends g c).After-exchange share in
    made_ended g.K.WordKey.is_valid g.K.WordKey.word_of g.V.WordValue.is_valid g.V.WordValue.word_of neighbours call (names c.args.hand) c.args.hand.number fits c.args.tries _ share c.exchange.new.run (g.B.Balance.trie g.B.FixedBalance.the) fresh _ c.call-told.new.run c.call-told.result c.of_neighbour.result c.of_neighbour.ensures
    (c.call-told.ensures.leads.to (made_by g.K.WordKey.is_valid g.K.WordKey.word_of g.V.WordValue.is_valid g.V.WordValue.word_of neighbours call (names c.args.hand) c.args.hand.number fits c.args.tries _ share c.exchange.new.run (g.B.Balance.trie g.B.FixedBalance.the) fresh) (made_begins g.K.WordKey.is_valid g.K.WordKey.word_of g.V.WordValue.is_valid g.V.WordValue.word_of neighbours call (names c.args.hand) c.args.hand.number fits c.args.tries _ share c.exchange.new.run (g.B.Balance.trie g.B.FixedBalance.the) fresh _ x))
