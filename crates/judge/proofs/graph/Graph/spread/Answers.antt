use Rattle.std.proofs.Common.{ℕ, [], ◌∷◌, ◌++◌, List, None, subst, arith}
use Rattle.judge.specs.Graph.{IsSpreading, links_of}
use Rattle.judge.proofs.Spreading.{spread_pop, fresh_last}
use Rattle.judge.proofs.graph.Graph.spread.Goals.{In-Some}
use Rattle.judge.proofs.graph.Graph.spread.Goals as goal

-- what was taken out was the last
spreads : (c : In-Some) → IsSpreading c.loop-from.self.reached.items c.loop-from.self.newest.items c.loop-from.self.links.items (c.pop.new.self.items ++ c.in-Some.from ∷ []) (links_of c.loop-from.self) 0 None
spreads c = subst (λ (f : List ℕ). IsSpreading c.loop-from.self.reached.items c.loop-from.self.newest.items c.loop-from.self.links.items f (links_of c.loop-from.self) 0 None) c.in-Some.ensures.items c.loop-from.invariant.spreads

pub follow-requires-clause-inside : goal.follow-requires-clause-inside
follow-requires-clause-inside c =
    let w = (spreads (goal.at.follow-requires-clause-inside c).In-Some).waiting c.in-Some.from (fresh_last c.pop.new.self.items c.in-Some.from) in
    omega (w.0, c.loop-from.invariant.sizes, arith)

pub follow-requires-clause-spreads : goal.follow-requires-clause-spreads
follow-requires-clause-spreads c = spread_pop _ _ _ _ _ c.in-Some.from (spreads (goal.at.follow-requires-clause-spreads c).In-Some)
