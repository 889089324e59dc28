use Rattle.std.proofs.Common.{◌≡◌, ◌≢◌, ℕ, ◌≤◌, get_or, Option, Some, true, rules, reverse, refl, sym, ◌∙◌, subst, arith, is_some}
use Rattle.linearization.specs.declared.places.Place.{Place}
use Rattle.linearization.proofs.Chains.{IsLookedFor, IsHere, look_here, look_within, look_fails, here_ends, here_older, here_nearer, here_map, nowhere_map, some_value, no_some}
use Rattle.linearization.proofs.places.Places.had_some.Goals.{In-Some, else-place-turn-via-then-place-turn+else-is_some, else-place-turn-via-else-place-turn}
use Rattle.linearization.proofs.places.Places.had_some.Goals as goal

-- the search is at a place
stands : (c : In-Some) → (v : ℕ) → IsLookedFor c.args.key (Some v) c.args.first c.args.last c.loop-at.turn (Some c.in-Some.i) (reverse c.args.self.now.list.items)
stands c v = subst (λ (o : Option ℕ). IsLookedFor c.args.key (Some v) c.args.first c.args.last c.loop-at.turn o (reverse c.args.self.now.list.items)) c.in-Some.is (c.loop-at.invariant v)

here : (c : In-Some) (place : Place) → place ≡ get_or c.args.self.now.list.items c.in-Some.i place → (v : ℕ) → IsHere c.args.key (Some v) c.args.first c.args.last c.loop-at.turn c.in-Some.i place (reverse c.args.self.now.list.items)
here c place is v = look_here c.args.key (Some v) c.args.first c.args.last c.loop-at.turn c.in-Some.i c.args.self.now.list.items place (sym is) (stands c v)

pub index-requires : goal.index-requires
index-requires c =
    let i = look_within c.args.key (Some 0) c.args.first c.args.last c.loop-at.turn c.in-Some.i c.args.self.now.list.items (stands c 0) in
    let n = c.args.self.now.list.ok.0 in
    omega (i, n, arith)

pub returns-then-is_some-clause-found : goal.returns-then-is_some-clause-found
returns-then-is_some-clause-found c calls lines a _ =
    let x = here (goal.at.returns-then-is_some-clause-found c).In-Some c.index.result.now c.index.ensures 0 in
    let some : is_some c.index.result.now.change.value ≡ true = search (rules, c.is_some.ensures, c.if-is_some.true) in
    let v = some_value c.index.result.now.change.value some in
    (v.0, (c.loop-at.turn, x.from, x.to, sym (here_map c.args.key (Some 0) c.args.first c.args.last c.loop-at.turn c.in-Some.i c.index.result.now (reverse c.args.self.now.list.items) calls lines a x c.if-place-turn.true) ∙ v.1))

pub returns-then-place-first-clause-none : goal.returns-then-place-first-clause-none
returns-then-place-first-clause-none c calls lines a _ v =
    let all = reverse c.args.self.now.list.items in
    let x = here (goal.at.returns-then-place-first-clause-none c).In-Some c.index.result.now c.index.ensures v in
    let other : c.index.result.now.change.turn ≤ c.loop-at.turn → c.index.result.now.change.value ≢ Some v = elim c.else-place-turn.branch [ else-place-turn-via-then-place-turn+else-is_some w ↦ λ i. no_some c.index.result.now.change.value v (search (rules, w.is_some.ensures, w.if-is_some.false)) | else-place-turn-via-else-place-turn w ↦ λ i. absurd (let j = w.if-place-turn.false in omega (i, j, arith)) ] in
    nowhere_map c.args.key (Some v) c.args.first c.args.last all calls lines a (here_ends c.args.key (Some v) c.args.first c.args.last c.loop-at.turn c.in-Some.i c.index.result.now all x other c.if-place-first.true)

pub loop-at-smaller : goal.loop-at-smaller
loop-at-smaller c = rw c.in-Some.is (here_nearer c.args.key (Some 0) c.args.first c.args.last c.loop-at.turn c.in-Some.i c.index.result.now (reverse c.args.self.now.list.items) c.args.self.now.linked (here (goal.at.loop-at-smaller c).In-Some c.index.result.now c.index.ensures 0))

pub loop-at-preserved : goal.loop-at-preserved
loop-at-preserved c v =
    let x = here (goal.at.loop-at-preserved c).In-Some c.index.result.now c.index.ensures v in
    let other : c.index.result.now.change.turn ≤ c.loop-at.turn → c.index.result.now.change.value ≢ Some v = elim c.else-place-turn.branch [ else-place-turn-via-then-place-turn+else-is_some w ↦ λ i. no_some c.index.result.now.change.value v (search (rules, w.is_some.ensures, w.if-is_some.false)) | else-place-turn-via-else-place-turn w ↦ λ i. absurd (let j = w.if-place-turn.false in omega (i, j, arith)) ] in
    rw c.min-turn.ensures (here_older c.args.key (Some v) c.args.first c.args.last c.loop-at.turn c.in-Some.i c.index.result.now (reverse c.args.self.now.list.items) c.args.self.now.linked x other c.if-place-first.false)

pub returns-clause-none : goal.returns-clause-none
returns-clause-none c calls lines a _ v =
    let all = reverse c.args.self.now.list.items in
    let x = subst (λ (o : Option ℕ). IsLookedFor c.args.key (Some v) c.args.first c.args.last c.loop-at.turn o all) c.in_default.is (c.loop-at.invariant v) in
    nowhere_map c.args.key (Some v) c.args.first c.args.last all calls lines a (look_fails c.args.key (Some v) c.args.first c.args.last c.loop-at.turn all refl x)
