use Rattle.std.proofs.Common.{◌≡◌, ℕ, ◌<◌, Option, Some, None, reverse, refl, sym, subst, arith}
use Rattle.linearization.specs.Links.{latest}
use Rattle.linearization.proofs.Chains.{IsLookedFor, IsHere, look_starts, look_here, look_within, look_ends, look_on, here_older, here_nearer, here_map, found_map}
use Rattle.linearization.proofs.places.Places.value_from.Goals.{In-Some, After-index-place}
use Rattle.linearization.proofs.places.Places.value_from.Goals as goal

-- the search is at a place
stands : (c : In-Some) (key : ℕ) → c.args.newest ≡ latest key (reverse c.args.self.now.list.items) → IsLookedFor key None c.args.turn c.args.turn c.args.turn (Some c.in-Some.i) (reverse c.args.self.now.list.items)
stands c key e = subst (λ (o : Option ℕ). IsLookedFor key None c.args.turn c.args.turn c.args.turn o (reverse c.args.self.now.list.items)) c.in-Some.is (c.loop-at.invariant key e)

here : (c : After-index-place) (key : ℕ) → c.args.newest ≡ latest key (reverse c.args.self.now.list.items) → IsHere key None c.args.turn c.args.turn c.args.turn c.in-Some.i c.index-place.result.now (reverse c.args.self.now.list.items)
here c key e = look_here key None c.args.turn c.args.turn c.args.turn c.in-Some.i c.args.self.now.list.items c.index-place.result.now (sym c.index-place.ensures) (stands (goal.at.After-index-place c).In-Some key e)

pub loop-at-init : goal.loop-at-init
loop-at-init c key e = look_starts key None c.args.turn c.args.turn c.args.newest (reverse c.args.self.now.list.items) (omega arith) e

pub index-place-requires : goal.index-place-requires
index-place-requires c =
    let i = look_within c.requires.0 None c.args.turn c.args.turn c.args.turn c.in-Some.i c.args.self.now.list.items (stands c c.requires.0 c.requires.1) in
    let n = c.args.self.now.list.ok.0 in
    omega (i, n, arith)

pub returns-then-place-turn : goal.returns-then-place-turn
returns-then-place-turn c key calls lines e a = here_map key None c.args.turn c.args.turn c.args.turn c.in-Some.i c.index-place.result.now (reverse c.args.self.now.list.items) calls lines a (here (goal.at.returns-then-place-turn c).After-index-place key e) c.if-place-turn.true

pub loop-at-smaller : goal.loop-at-smaller
loop-at-smaller c = rw c.in-Some.is (here_nearer c.requires.0 None c.args.turn c.args.turn c.args.turn c.in-Some.i c.index-place.result.now (reverse c.args.self.now.list.items) c.args.self.now.linked (here (goal.at.loop-at-smaller c).After-index-place c.requires.0 c.requires.1))

pub loop-at-preserved : goal.loop-at-preserved
loop-at-preserved c key e =
    let late : c.args.turn < c.index-place.result.now.change.turn = let l = c.if-place-turn.false in omega (l, arith) in
    look_on key c.args.turn c.index-place.result.now.change.turn c.index-place.result.now.before (reverse c.args.self.now.list.items) late (here_older key None c.args.turn c.args.turn c.args.turn c.in-Some.i c.index-place.result.now (reverse c.args.self.now.list.items) c.args.self.now.linked (here (goal.at.loop-at-preserved c).After-index-place key e) (λ i. absurd (omega (i, late, arith))) late)

pub returns : goal.returns
returns c key calls lines e a =
    let all = reverse c.args.self.now.list.items in
    let x = subst (λ (o : Option ℕ). IsLookedFor key None c.args.turn c.args.turn c.args.turn o all) c.in_default.is (c.loop-at.invariant key e) in
    sym (found_map key None c.args.turn c.args.turn c.args.turn all calls lines a (look_ends key None c.args.turn c.args.turn c.args.turn all refl x)).holds
