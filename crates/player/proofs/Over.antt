-- What a client has taken stays finished, except for the SCX-record that it has in hand.
use Rattle.std.proofs.Common.{◌≡◌, ◌≢◌, ℕ, ◌+◌, ◌-◌, ◌*◌, ◌<◌, ◌≤◌, ◌⊎◌, inl, inr, ⊎_elim, sym, subst, arith}
use native.Mathlib.Decide.{ℕ_discrete}
use Rattle.histories.specs.Common.{Layout, Step as Ask, Remaining, History, ◌⊳◌, Extends, IsOwnScx, IsTakenNode, IsTakenScx, Call, row_of}
use Rattle.template.specs.Common.{AllowsAll, IsShare, most_nodes, most_scx, tries_since}
use Rattle.prims.specs.Laws.Begun.{TakesOnly, takes_by_step, taken_since}
use Rattle.prims.specs.Shares.{share_end}
use Rattle.prims.proofs.Lemmas.{one_end, put_takes, llx_fills_not, vlx_fills_not, untaken_node_by_step, put_untaken_node}
use Rattle.player.specs.declared.run.Run.{Run}
use Rattle.player.specs.declared.run.Run.TheVariants.{Llx, Scx, Vlx, Map}
use Rattle.edits.specs.Known.{RestsWith}
use Rattle.dict.specs.Calls.{HasSpent}
use Rattle.record.specs.Common.{MapCall, map_request, Request, Map as MapOf, HasTakenFew}
use Rattle.record.specs.Shares.{HasTakenAtMost, IsScxTakenSince}
use Rattle.dict.specs.Laws.EachCall.{tries_take}
use Rattle.player.specs.RunKnown.{RunWaits}
use Rattle.player.specs.ClientView.{ClientView, Hand, HasTaken, no_hand, in_hand}

-- the machine is none of a call of the map, which takes of the share by itself
abbrev pub IsOfCells : Run → Type 0
IsOfCells (Map m) = ⊥
IsOfCells run = Unit {0}

-- its own machine takes none but the one in hand
pub takes_by_own : (run : Run) (call : Call) (left : Remaining) (h : History) (step : Ask) → IsOfCells run → RunWaits run call h step → TakesOnly call.layout call.pass (in_hand left run).scx h (row_of call step h)
takes_by_own (Llx m) call left h step is w = takes_by_step call.layout call.pass left.next_scx h (row_of call step h) (llx_fills_not AllowsAll m call h step w)
takes_by_own (Vlx m) call left h step is w = takes_by_step call.layout call.pass left.next_scx h (row_of call step h) (vlx_fills_not m.snaps m.asked call h step w)
takes_by_own (Scx m) call left h step is w = put_takes AllowsAll m call h step w
takes_by_own (Map m) call left h step is w = absurd is

pub nodes_by_own : (run : Run) (call : Call) (left : Remaining) (h : History) (step : Ask) → IsOfCells run → RunWaits run call h step → (n : ℕ) → n ≢ (in_hand left run).node → ¬ IsTakenNode h n → ¬ IsTakenNode (row_of call step h ⊳ h) n
nodes_by_own (Llx m) call left h step is w n other = untaken_node_by_step h (row_of call step h) n (llx_fills_not AllowsAll m call h step w)
nodes_by_own (Vlx m) call left h step is w n other = untaken_node_by_step h (row_of call step h) n (vlx_fills_not m.snaps m.asked call h step w)
nodes_by_own (Scx m) call left h step is w n other = put_untaken_node AllowsAll m call h step n w other
nodes_by_own (Map m) call left h step is w n other = absurd is

-- A share that is at rest has none of what a client in its call has not taken.

-- one that is not the next is other
pub either : (a b : ℕ) → (a ≡ b) ⊎ (a ≢ b)
either a b = go (ℕ_discrete a b)
  where
    go : Dec (a ≡ b) → (a ≡ b) ⊎ (a ≢ b)
    go (yes e) = inl e
    go (no d) = inr d

-- an SCX in hand whose SCX-record is taken in the call is all that the client has taken in it
pub taken_one : (v : ClientView) (c : ℕ) (hand : Hand) → IsOwnScx v.layout c hand.scx → ¬ IsTakenScx v.start hand.scx → IsTakenScx v.past hand.scx → HasTaken v c hand → HasTakenAtMost v.layout c v.past v.start 1 1
taken_one v c hand own free taken x = record {
  many = 1;
  few = omega arith;
  lowest_scx = hand.scx;
  scx_records = λ s. (
    λ y. ⊎_elim (λ e. (omega (arith, e), omega (arith, e))) (λ d. absurd (x.scx_records s y.own d y.not_then y.taken)) (either s hand.scx),
    λ i. let e : s ≡ hand.scx = omega (arith, i.0, i.1) in rw e record { own = own; not_then = free; taken = taken },
  );
  lowest_node = hand.node;
  nodes = λ n y. ⊎_elim (λ e. (omega (arith, e), omega (arith, e))) (λ d. absurd (x.nodes n y.own d y.not_then y.taken)) (either n hand.node);
}

-- a client without an SCX has taken nothing
pub taken_nothing : (v : ClientView) (c : ℕ) (left : Remaining) (most_scx nodes_each : ℕ) → IsShare v.layout v.past c left left.next_node left.next_scx → HasTaken v c (no_hand left) → HasTakenAtMost v.layout c v.past v.start most_scx nodes_each
taken_nothing v c left most_scx nodes_each share x = record {
  many = 0;
  few = omega arith;
  lowest_scx = 0;
  scx_records = λ s. (
    λ y. ⊎_elim (λ e. absurd (share.untaken s y.own (omega (arith, e)) y.taken)) (λ d. absurd (x.scx_records s y.own d y.not_then y.taken)) (either s left.next_scx),
    λ i. absurd (omega (arith, i.1)),
  );
  lowest_node = 0;
  nodes = λ n y. ⊎_elim (λ e. absurd (share.untaken_nodes n y.own (omega (arith, e)) y.taken)) (λ d. absurd (x.nodes n y.own d y.not_then y.taken)) (either n left.next_node);
}

-- of two numbers one is below the other, or not
ordered : (a b : ℕ) → (a ≤ b) ⊎ (b < a)
ordered a b = grind arith

-- what is left of a share does not grow
scx_left_less : (lay : Layout) (c : ℕ) (now start : History) (old left : Remaining) → Extends now start → IsShare lay start c old old.next_node old.next_scx → IsShare lay now c left left.next_node left.next_scx → old.next_scx ≤ left.next_scx
scx_left_less lay c now start old left since began share = ⊎_elim (λ i. i) none (ordered old.next_scx left.next_scx)
  where
    none : left.next_scx < old.next_scx → old.next_scx ≤ left.next_scx
    none i =
        let own : IsOwnScx lay c left.next_scx = record { from = share.from_scx; below = let a = began.to_scx in omega (arith, i, a) } in
        absurd (share.untaken left.next_scx own (omega arith) (taken_since now start left.next_scx since (began.taken_scx left.next_scx own i)))

-- this many nodes for each SCX-record
nodes_for_each : (most old_nodes nodes old_scx scx many : ℕ) → scx + many ≡ old_scx → old_nodes + most * scx ≤ nodes + most * old_scx → old_nodes ≤ nodes + most * many
nodes_for_each most old_nodes nodes old_scx scx many e i = let j : old_nodes + most * scx ≤ nodes + most * (scx + many) = rw (sym e) at i in omega (arith, j)

-- one that has taken at most this many SCX-records, and this many nodes for each
taken_few : (lay : Layout) (c most_scx most : ℕ) (now start : History) (old left : Remaining) → Extends now start → IsShare lay start c old old.next_node old.next_scx → IsShare lay now c left left.next_node left.next_scx → share_end left ≡ share_end old → old.scx ≤ left.scx + most_scx → old.nodes + most * left.scx ≤ left.nodes + most * old.scx → HasTakenAtMost lay c now start most_scx most
taken_few lay c most_scx most now start old left since began share end few each = record {
  many = left.next_scx - old.next_scx;
  few = let a = (one_end left old end).1 in omega (arith, a, few);
  lowest_scx = old.next_scx;
  scx_records = λ s. (
    λ y. (
      ⊎_elim (λ i. i) (λ i. absurd (y.not_then (began.taken_scx s y.own i))) (ordered old.next_scx s),
      ⊎_elim (λ i. absurd (share.untaken s y.own i y.taken)) (λ i. omega (arith, i, less)) (ordered left.next_scx s),
    ),
    λ i. taken_then s i.0 (let d = i.1 in omega (arith, d, less)),
  );
  lowest_node = old.next_node;
  nodes = λ n y. (
    ⊎_elim (λ i. i) (λ i. absurd (y.not_then (began.taken_nodes n y.own i))) (ordered old.next_node n),
    ⊎_elim (λ i. absurd (share.untaken_nodes n y.own i y.taken)) (λ i. let a = (one_end left old end).0 in omega (arith, i, a, few_nodes)) (ordered left.next_node n),
  );
}
  where
    less : old.next_scx ≤ left.next_scx
    less = scx_left_less lay c now start old left since began share

    taken_then : (s : ℕ) → old.next_scx ≤ s → s < left.next_scx → IsScxTakenSince lay c now start s
    taken_then s i j =
        let own : IsOwnScx lay c s = record { from = let a = began.from_scx in omega (arith, a, i); below = let b = share.to_scx in omega (arith, b, j) } in
        record { own = own; not_then = began.untaken s own i; taken = share.taken_scx s own j }

    few_nodes : old.nodes ≤ left.nodes + most * (left.next_scx - old.next_scx)
    few_nodes = nodes_for_each most old.nodes left.nodes old.scx left.scx (left.next_scx - old.next_scx) (let a = (one_end left old end).1 in omega (arith, a, less)) each

-- a call of the map has taken what its tries may
taken_tries : (c : Call) (h : History) (call : MapCall) (tries : ℕ) (left : Remaining) → Extends h c.start → RestsWith c h left → HasSpent c h call tries left → HasTakenAtMost c.layout c.pass h c.start (most_scx call tries) (most_nodes call)
taken_tries c h call tries left since rests spent = taken_few c.layout c.pass (most_scx call tries) (most_nodes call) h c.start spent.left left since spent.first.share rests.share spent.end few spent.each
  where
    few : spent.left.scx ≤ left.scx + most_scx call tries
    few = let less = tries_take call (tries_since c.pass h c.start) tries spent.tried.few in let taken = spent.scx in omega (arith, less, taken)

-- and that is what its command may
pub map_took : (c : Call) (h : History) (request : Request ℕ ℕ) (tries : ℕ) (left : Remaining) → Extends h c.start → RestsWith c h left → HasSpent c h (map_request request) tries left → HasTakenFew c.layout tries c.pass h c.start (MapOf request)
map_took c h request tries left since rests spent = taken_tries c h (map_request request) tries left since rests spent

-- and at the call's start that is nothing
pub taken_none : (v : ClientView) (c : ℕ) (hand : Hand) → v.start ≡ v.past → HasTaken v c hand
taken_none v c hand begun = record { nodes = λ n own d free. subst (λ (k : History). ¬ IsTakenNode k n) begun free; scx_records = λ s own d free. subst (λ (k : History). ¬ IsTakenScx k s) begun free }
