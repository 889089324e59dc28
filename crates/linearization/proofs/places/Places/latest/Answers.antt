use Rattle.std.proofs.Common.{◌≡◌, ◌≢◌, ℕ, ◌≤◌, Option, Some, true, false, rules, reverse, sym, ◌∙◌, subst, arith, is_none}
use Rattle.linearization.proofs.Chains.{IsLookedFor, look_here, look_within, look_ends, look_fails, here_found, here_ends, here_older, here_nearer, values_same, values_differ, found_map, nowhere_map}
use Rattle.linearization.proofs.places.Places.latest.Goals.{In-Some, else-place-until-via-then-place-until+else-eq, else-place-until-via-else-place-until}
use Rattle.linearization.proofs.places.Places.latest.Goals as goal

-- the search is at a place
stands : (c : In-Some) → IsLookedFor c.args.key c.args.value c.args.first c.args.last c.loop-at.until (Some c.in-Some.i) (reverse c.args.self.now.list.items)
stands c = subst (λ (o : Option ℕ). IsLookedFor c.args.key c.args.value c.args.first c.args.last c.loop-at.until o (reverse c.args.self.now.list.items)) c.in-Some.is c.loop-at.invariant

pub index-requires : goal.index-requires
index-requires c =
    let i = look_within c.args.key c.args.value c.args.first c.args.last c.loop-at.until c.in-Some.i c.args.self.now.list.items (stands c) in
    let n = c.args.self.now.list.ok.0 in
    omega (i, n, arith)

pub returns-then-eq-clause-found : goal.returns-then-eq-clause-found
returns-then-eq-clause-found c calls lines a =
    let all = reverse c.args.self.now.list.items in
    let x = look_here c.args.key c.args.value c.args.first c.args.last c.loop-at.until c.in-Some.i c.args.self.now.list.items c.index.result.now (sym c.index.ensures) (stands (goal.at.returns-then-eq-clause-found c).In-Some) in
    found_map c.args.key c.args.value c.args.first c.args.last c.loop-at.until all calls lines a (here_found c.args.key c.args.value c.args.first c.args.last c.loop-at.until c.in-Some.i c.index.result.now all x c.if-place-until.true (values_same c.index.result.now.change.value c.args.value (sym c.eq.ensures ∙ c.if-eq.true)))

pub returns-then-place-first-clause-none : goal.returns-then-place-first-clause-none
returns-then-place-first-clause-none c calls lines a =
    let all = reverse c.args.self.now.list.items in
    let x = look_here c.args.key c.args.value c.args.first c.args.last c.loop-at.until c.in-Some.i c.args.self.now.list.items c.index.result.now (sym c.index.ensures) (stands (goal.at.returns-then-place-first-clause-none c).In-Some) in
    let other : c.index.result.now.change.turn ≤ c.loop-at.until → c.index.result.now.change.value ≢ c.args.value = elim c.else-place-until.branch [ else-place-until-via-then-place-until+else-eq w ↦ λ i. values_differ c.index.result.now.change.value c.args.value (sym w.eq.ensures ∙ w.if-eq.false) | else-place-until-via-else-place-until w ↦ λ i. absurd (let j = w.if-place-until.false in omega (i, j, arith)) ] in
    nowhere_map c.args.key c.args.value c.args.first c.args.last all calls lines a (here_ends c.args.key c.args.value c.args.first c.args.last c.loop-at.until c.in-Some.i c.index.result.now all x other c.if-place-first.true)

pub loop-at-smaller : goal.loop-at-smaller
loop-at-smaller c =
    let x = look_here c.args.key c.args.value c.args.first c.args.last c.loop-at.until c.in-Some.i c.args.self.now.list.items c.index.result.now (sym c.index.ensures) (stands (goal.at.loop-at-smaller c).In-Some) in
    rw c.in-Some.is (here_nearer c.args.key c.args.value c.args.first c.args.last c.loop-at.until c.in-Some.i c.index.result.now (reverse c.args.self.now.list.items) c.args.self.now.linked x)

pub loop-at-preserved : goal.loop-at-preserved
loop-at-preserved c =
    let x = look_here c.args.key c.args.value c.args.first c.args.last c.loop-at.until c.in-Some.i c.args.self.now.list.items c.index.result.now (sym c.index.ensures) (stands (goal.at.loop-at-preserved c).In-Some) in
    let other : c.index.result.now.change.turn ≤ c.loop-at.until → c.index.result.now.change.value ≢ c.args.value = elim c.else-place-until.branch [ else-place-until-via-then-place-until+else-eq w ↦ λ i. values_differ c.index.result.now.change.value c.args.value (sym w.eq.ensures ∙ w.if-eq.false) | else-place-until-via-else-place-until w ↦ λ i. absurd (let j = w.if-place-until.false in omega (i, j, arith)) ] in
    rw c.min-until.ensures (here_older c.args.key c.args.value c.args.first c.args.last c.loop-at.until c.in-Some.i c.index.result.now (reverse c.args.self.now.list.items) c.args.self.now.linked x other c.if-place-first.false)

pub returns-then-is_none-clause-found : goal.returns-then-is_none-clause-found
returns-then-is_none-clause-found c calls lines a =
    let all = reverse c.args.self.now.list.items in
    let x = subst (λ (o : Option ℕ). IsLookedFor c.args.key c.args.value c.args.first c.args.last c.loop-at.until o all) c.in_default.is c.loop-at.invariant in
    let e : is_none c.args.value ≡ true = search (rules, c.is_none.ensures, c.if-is_none.true) in
    found_map c.args.key c.args.value c.args.first c.args.last c.loop-at.until all calls lines a (look_ends c.args.key c.args.value c.args.first c.args.last c.loop-at.until all e x)

pub returns-else-is_none-clause-none : goal.returns-else-is_none-clause-none
returns-else-is_none-clause-none c calls lines a =
    let all = reverse c.args.self.now.list.items in
    let x = subst (λ (o : Option ℕ). IsLookedFor c.args.key c.args.value c.args.first c.args.last c.loop-at.until o all) c.in_default.is c.loop-at.invariant in
    let e : is_none c.args.value ≡ false = search (rules, c.is_none.ensures, c.if-is_none.false) in
    nowhere_map c.args.key c.args.value c.args.first c.args.last all calls lines a (look_fails c.args.key c.args.value c.args.first c.args.last c.loop-at.until all e x)
