use Rattle.std.proofs.Common.{arith}
use Rattle.std.proofs.lemmas.Option.{IfSome_then}
use Rattle.straight.specs.Hands.{hand_calls}
use Rattle.straight.specs.StraightReads.{Reader, ReaderHasWalked, ReaderSearches}
use Rattle.straight.proofs.StraightReads.{walked_looks, walked_searches}
use Rattle.straight.proofs.ordered_read.in_leaf.Given.{Over}
use Rattle.straight.proofs.ordered_read.in_leaf.Goals.{After-search}
use Rattle.straight.proofs.ordered_read.in_leaf.Goals as goal

-- whichever call it is, it searches the leaf
searches : (g : Over) (c : After-search g) (r : Reader (hand_calls g.S.Shape g.M.Machine g.M.CallMachine.left_dealt c.args.hand) g.R.Read.means) → ReaderHasWalked r c.args.seat.now.me.0.passes c.args.run.now c.args.side c.args.turns c.args.found → ReaderSearches r c.args.seat.now.me.0.passes c.args.run.now c.in_ok-near.near c.children.result c.to.result
searches g c r x = rw (c.children.ensures, c.to.ensures) (walked_searches r c.args.run.now c.args.side c.args.turns c.args.found _ x c.in_ok-near.near (λ d h key of. c.nearby.ensures.knows d h key of c.in_ok-near.near c.in_ok-near.was))

pub search-requires-clause-waits : goal.search-requires-clause-waits
search-requires-clause-waits g c = let w = c.requires.walked in (w.0, rw (c.children.ensures, c.to.ensures) (walked_searches w.0 c.args.run.now c.args.side c.args.turns c.args.found _ w.1 c.in_ok-near.near (λ d h key of. c.nearby.ensures.knows d h key of c.in_ok-near.near c.in_ok-near.was)))

pub returns-then-not-in_trie-clause-nothing : goal.returns-then-not-in_trie-clause-nothing
returns-then-not-in_trie-clause-nothing g c = λ none r x. walked_looks r c.args.run.now c.args.side c.args.turns c.args.found _ x

pub returns-in_err-near-clause-nothing : goal.returns-in_err-near-clause-nothing
returns-in_err-near-clause-nothing g c = λ none r x. walked_looks r c.args.run.now c.args.side c.args.turns c.args.found _ x

pub returns-clause-found : goal.returns-clause-found
returns-clause-found g c = IfSome_then c.search.result c.search.ensures.found (λ answer ends r x. ends r (searches g (goal.at.returns-clause-found g c).After-search r x))

pub returns-clause-nothing : goal.returns-clause-nothing
returns-clause-nothing g c = λ none r x. rw (c.children.ensures, c.to.ensures) at (c.search.ensures.nothing none r (searches g (goal.at.returns-clause-nothing g c).After-search r x))
