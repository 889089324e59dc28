-- What rows leave of a pass's share, and of the SCX-record that it has in hand.
use Rattle.std.proofs.Common.{◌≡◌, ◌≢◌, ℕ, suc, ◌+◌, ◌-◌, ◌<◌, ◌≤◌, ◌⊎◌, ⊎_elim, arith, subst, ap}
use native.Mathlib.Decide.{ℕ_discrete}
use Rattle.histories.specs.Common.{Layout, Row, Step, Fill, first_node, first_scx, Remaining, HasNode, HasScx, History, Opening, Opened, ◌⊳◌}
use Rattle.histories.specs.Common.{member, IsInProgress, IsOwnNode, IsOwnScx, IsTakenNode, IsTakenScx, Lawful, HasWon, Call, row_of, IsUnmentioned}
use Rattle.arena.specs.Share.{whole_share, after_taking}
use Rattle.arena.proofs.Lemmas.{taken_node_more, taken_scx_more}
use Rattle.histories.proofs.Lemmas.{Facts, UpdateWins, facts, facts_before, named_scx_taken, start_nodes, unmentioned_by_others, unmentioned_by_step, unmentioned_start, untaken_by_others, untaken_by_step, update_flagged, update_in_progress, won_named}
use Rattle.prims.specs.Laws.Idle.{IsIdle, idle_if_over}
use Rattle.prims.specs.Moments.{AreFinished}
use Rattle.prims.specs.Put.Known.{PutWaits}
use Rattle.prims.specs.Scx.Known.{job_of, ScxWaits}
use Rattle.prims.specs.Shares.{IsShare, IsUpperEnd, share_end}
use Rattle.prims.specs.declared.put.PutRun.{PutRun}
use Rattle.prims.specs.declared.scx.ScxRun.{ScxRun}
use Rattle.prims.proofs.PutRows.{unmentioned_at, untaken_at, put_unmentioned, put_untaken}
use Rattle.prims.proofs.UntakenNodes.{not_filled, fills_no_node, untaken_node_by_others, untaken_node_by_step, put_untaken_node}

-- Shares

-- nothing of a whole share is touched at the start
pub whole_untouched : (lay : Layout) (o : Opening) (c : ℕ) → Lawful lay (Opened o) → IsShare lay (Opened o) c (whole_share lay c) (first_node lay c) (first_scx lay c)
unfolding IsTakenNode IsTakenScx
whole_untouched lay o c l = record {
  from_node = omega arith;
  to_node = omega arith;
  from_scx = omega arith;
  to_scx = omega arith;
  taken_nodes = λ n own less. absurd (let a = own.from in omega arith);
  taken_scx = λ s own less. absurd (let a = own.from in omega arith);
  unmentioned = λ n own i. unmentioned_start o n (let few = start_nodes lay o l in let a = own.from in omega (arith, few, a));
  untaken_nodes = λ n own i t. t;
  untaken = λ s own i t. t;
}

-- and nothing is taken
pub none_taken : (o : Opening) (s : ℕ) → ¬ IsTakenScx (Opened o) s
unfolding IsTakenScx
none_taken o s t = t

-- what a share still has is the pass's own
pub left_own_node : (lay : Layout) (h : History) (c : ℕ) (left : Remaining) (node scx n : ℕ) → IsShare lay h c left node scx → HasNode left n → IsOwnNode lay c n
left_own_node lay h c left node scx n x p = record { from = let a = x.from_node in let b = p.from in omega arith; below = let a = x.to_node in let b = p.below in omega arith }

pub left_own_scx : (lay : Layout) (h : History) (c : ℕ) (left : Remaining) (node scx s : ℕ) → IsShare lay h c left node scx → HasScx left s → IsOwnScx lay c s
left_own_scx lay h c left node scx s x p = record { from = let a = x.from_scx in let b = p.from in omega arith; below = let a = x.to_scx in let b = p.below in omega arith }

-- what two shares that end at the same place say of it
pub one_end : (a b : Remaining) → share_end a ≡ share_end b → (a.next_node + a.nodes ≡ b.next_node + b.nodes) × (a.next_scx + a.scx ≡ b.next_scx + b.scx)
unfolding share_end
one_end a b e = (ap (λ (p : ℕ × ℕ). p.0) e, ap (λ (p : ℕ × ℕ). p.1) e)

-- a share with as many nodes and SCX-records ends where its numbers say
pub ends_there : (a b : Remaining) → a.next_node + a.nodes ≡ b.next_node + b.nodes → a.next_scx + a.scx ≡ b.next_scx + b.scx → share_end a ≡ share_end b
unfolding share_end
ends_there a b nodes scx i = (nodes i, scx i)

-- what is left ends where all names of its pass do
pub upper_end : (lay : Layout) (c : ℕ) (left : Remaining) → IsUpperEnd lay c left → (left.next_node + left.nodes ≡ first_node lay c + lay.nodes) × (left.next_scx + left.scx ≡ first_scx lay c + lay.scx)
upper_end lay c left e = one_end left (whole_share lay c) e

-- a row that touches nothing of what is left
share_kept : (lay : Layout) (h : History) (r : Row) (c : ℕ) (left : Remaining) (node scx : ℕ) → ((n : ℕ) → IsOwnNode lay c n → left.next_node ≤ n → IsUnmentioned h n → IsUnmentioned (r ⊳ h) n) → ((n : ℕ) → IsOwnNode lay c n → left.next_node ≤ n → ¬ IsTakenNode h n → ¬ IsTakenNode (r ⊳ h) n) → ((s : ℕ) → IsOwnScx lay c s → left.next_scx ≤ s → ¬ IsTakenScx h s → ¬ IsTakenScx (r ⊳ h) s) → IsShare lay h c left node scx → IsShare lay (r ⊳ h) c left node scx
share_kept lay h r c left node scx f t g x = record {
  from_node = x.from_node;
  to_node = x.to_node;
  from_scx = x.from_scx;
  to_scx = x.to_scx;
  taken_nodes = λ n own less. taken_node_more r h n (x.taken_nodes n own less);
  taken_scx = λ s own less. taken_scx_more r h s (x.taken_scx s own less);
  unmentioned = λ n own i. f n own i (x.unmentioned n own i);
  untaken_nodes = λ n own i. t n own i (x.untaken_nodes n own i);
  untaken = λ s own i. g s own i (x.untaken s own i);
}

-- one of another pass
pub share_by_others : (lay : Layout) (h : History) (r : Row) (c : ℕ) (left : Remaining) (node scx : ℕ) → Lawful lay (r ⊳ h) → c < lay.passes → r.pass.0 ≢ c → IsShare lay h c left node scx → IsShare lay (r ⊳ h) c left node scx
share_by_others lay h r c left node scx l is_pass other x = share_kept lay h r c left node scx
    (λ n own i u. unmentioned_by_others lay h r c n l is_pass other own u)
    (λ n own i u. untaken_node_by_others lay h r c n l other own u)
    (λ s own i u. untaken_by_others lay h r c s l other own u)
    x

-- one that is no fill
pub share_by_step : (lay : Layout) (h : History) (r : Row) (c : ℕ) (left : Remaining) (node scx : ℕ) → Lawful lay (r ⊳ h) → r.kind ≢ Fill → IsShare lay h c left node scx → IsShare lay (r ⊳ h) c left node scx
share_by_step lay h r c left node scx l no_fill x = share_kept lay h r c left node scx (λ n own i u. unmentioned_by_step lay h r n l no_fill u) (λ n own i u. untaken_node_by_step h r n no_fill u) (λ s own i u. untaken_by_step h r s no_fill u) x

-- one of an SCX that has the newest records of the share in hand
pub share_by_put : (allows : Layout → History → ℕ → Type 0) (m : PutRun) (call : Call) (h : History) (step : Step) (left : Remaining) (node scx : ℕ) → Lawful call.layout (row_of call step h ⊳ h) → PutWaits allows m call h step → left.next_node ≡ suc m.scx.update.fresh.0 → left.next_scx ≡ suc m.scx.scx.0 → IsShare call.layout h call.pass left node scx → IsShare call.layout (row_of call step h ⊳ h) call.pass left node scx
share_by_put allows m call h step left node scx l w next_node next_scx x = share_kept call.layout h (row_of call step h) call.pass left node scx
    (λ n own i u. put_unmentioned allows m call h step n l w (let a = own.from in omega arith) (λ e. omega arith) u)
    (λ n own i u. put_untaken_node allows m call h step n w (λ e. omega arith) u)
    (λ s own i u. put_untaken allows m call h step s w (λ e. omega arith) u)
    x

-- one of an SCX that has its SCX-record and its fresh nodes, which it has filled before, from the
-- share
pub share_by_scx : (allows : Layout → History → ℕ → Type 0) (m : ScxRun) (call : Call) (h : History) (step : Step) (left : Remaining) (node scx : ℕ) → Lawful call.layout (row_of call step h ⊳ h) → ScxWaits allows m call h step → m.update.fresh.0 < left.next_node → m.scx.0 < left.next_scx → IsShare call.layout h call.pass left node scx → IsShare call.layout (row_of call step h ⊳ h) call.pass left node scx
share_by_scx allows m call h step left node scx l w next_node next_scx x = share_kept call.layout h (row_of call step h) call.pass left node scx
    (λ n own i u. unmentioned_at allows (job_of m) call h n (let a = own.from in omega arith) (λ e. omega arith) u m.at step l w)
    (λ n own i u. not_filled h (row_of call step h) n (fills_no_node allows (job_of m) call h m.at step n w) u)
    (λ s own i u. untaken_at allows (job_of m) call h m.at step s w (λ e. omega arith) u)
    x

-- what is left once the next node is taken
abbrev pub less_a_node : Remaining → Remaining
less_a_node left = record left { next_node = left.next_node + 1; nodes = left.nodes - 1 }

-- a node that the share gives is in hand, after those that are so already
pub node_in_hand : (lay : Layout) (h : History) (c : ℕ) (left : Remaining) (node scx : ℕ) → 0 < left.nodes → IsShare lay h c left node scx → IsShare lay h c (less_a_node left) node scx
node_in_hand lay h c left node scx some x = record {
  from_node = let a = x.from_node in omega arith;
  to_node = let a = x.to_node in omega arith;
  from_scx = x.from_scx;
  to_scx = x.to_scx;
  taken_nodes = x.taken_nodes;
  taken_scx = x.taken_scx;
  unmentioned = λ n own i. x.unmentioned n own (omega arith);
  untaken_nodes = λ n own i. x.untaken_nodes n own (omega arith);
  untaken = x.untaken;
}

-- an SCX that begins has the next records of the share in hand
pub taken_share : (lay : Layout) (h : History) (c : ℕ) (left : Remaining) → 0 < left.nodes → 0 < left.scx → IsShare lay h c left left.next_node left.next_scx → IsShare lay h c (after_taking left) left.next_node left.next_scx
taken_share lay h c left some_node some_scx x = record {
  from_node = y.from_node;
  to_node = y.to_node;
  from_scx = let a = x.from_scx in omega arith;
  to_scx = let a = x.to_scx in omega arith;
  taken_nodes = x.taken_nodes;
  taken_scx = x.taken_scx;
  unmentioned = y.unmentioned;
  untaken_nodes = y.untaken_nodes;
  untaken = λ s own i. x.untaken s own (omega arith);
}
  where
    y : IsShare lay h c (less_a_node left) left.next_node left.next_scx
    y = node_in_hand lay h c left left.next_node left.next_scx some_node x

-- both are taken from the lower end
pub same_end : (left : Remaining) → 0 < left.nodes → 0 < left.scx → share_end (after_taking left) ≡ share_end left
same_end left some_node some_scx = ends_there (after_taking left) left (omega arith) (omega arith)

-- a number lies below a bound or from it on
below_or_from : (n k : ℕ) → (n < k) ⊎ (k ≤ n)
below_or_from n k = grind arith

-- where all that the share has given is taken, nothing of it is in hand
pub share_spent : (lay : Layout) (h : History) (c : ℕ) (left : Remaining) (node scx : ℕ) → ((n : ℕ) → IsOwnNode lay c n → node ≤ n → n < left.next_node → IsTakenNode h n) → ((s : ℕ) → IsOwnScx lay c s → scx ≤ s → s < left.next_scx → IsTakenScx h s) → IsShare lay h c left node scx → IsShare lay h c left left.next_node left.next_scx
share_spent lay h c left node scx t u x = record {
  from_node = x.from_node;
  to_node = x.to_node;
  from_scx = x.from_scx;
  to_scx = x.to_scx;
  taken_nodes = λ n own less. ⊎_elim (x.taken_nodes n own) (λ i. t n own i less) (below_or_from n node);
  taken_scx = λ s own less. ⊎_elim (x.taken_scx s own) (λ i. u s own i less) (below_or_from s scx);
  unmentioned = x.unmentioned;
  untaken_nodes = x.untaken_nodes;
  untaken = x.untaken;
}

-- so it is of an SCX that ends
pub share_ends : (lay : Layout) (h : History) (c : ℕ) (left : Remaining) (node scx : ℕ) → left.next_node ≡ suc node → left.next_scx ≡ suc scx → IsTakenNode h node → IsTakenScx h scx → IsShare lay h c left node scx → IsShare lay h c left left.next_node left.next_scx
share_ends lay h c left node scx next_node next_scx t u = share_spent lay h c left node scx
    (λ n own from less. (let e : node ≡ n = omega (arith, next_node) in subst (IsTakenNode h) e t))
    (λ s own from less. (let e : scx ≡ s = omega (arith, next_scx) in subst (IsTakenScx h) e u))

-- The pass's SCX-records

-- the next one of the share is not taken
pub next_free : (lay : Layout) (h : History) (c : ℕ) (left : Remaining) (node scx : ℕ) → IsShare lay h c left node scx → IsOwnScx lay c left.next_scx → ¬ IsTakenScx h left.next_scx
next_free lay h c left node scx share own = share.untaken left.next_scx own (omega arith)

-- one that is not taken is not named
pub free_unnamed : (lay : Layout) (h : History) (c s : ℕ) → Lawful lay h → IsOwnScx lay c s → ¬ IsTakenScx h s → ¬ IsInProgress h s × ¬ HasWon h s
free_unnamed lay h c s l own free = (
  (λ p. free (named_scx_taken lay h s l real p.named)),
  (λ w. free (named_scx_taken lay h s l real (won_named s (facts lay h l) w))),
)
  where
    real : s ≢ 0
    real e = let a = own.from in omega arith

-- so the next one is not in progress
pub next_idle : (lay : Layout) (h : History) (c : ℕ) (left : Remaining) (node scx : ℕ) → Lawful lay h → IsShare lay h c left node scx → IsOwnScx lay c left.next_scx → ¬ IsInProgress h left.next_scx
next_idle lay h c left node scx l share own = (free_unnamed lay h c left.next_scx l own (next_free lay h c left node scx share own)).0

-- nor has its update won
pub next_unwon : (lay : Layout) (h : History) (c : ℕ) (left : Remaining) (node scx : ℕ) → Lawful lay h → IsShare lay h c left node scx → IsOwnScx lay c left.next_scx → ¬ HasWon h left.next_scx
next_unwon lay h c left node scx l share own = (free_unnamed lay h c left.next_scx l own (next_free lay h c left node scx share own)).1

-- that which is in progress is the one in hand
pub own_in_hand : (lay : Layout) (h : History) (c s u : ℕ) → Lawful lay h → AreFinished lay c u h → IsOwnScx lay c s → IsInProgress h s → s ≡ u
own_in_hand lay h c s u l over own p = go (ℕ_discrete s u)
  where
    go : Dec (s ≡ u) → s ≡ u
    go (yes e) = e
    go (no d) = absurd (over s own d (named_scx_taken lay h s l (λ e. let a = own.from in omega arith) p.named) p.unfinished)

-- where none is in hand all are finished
pub all_over : (lay : Layout) (h : History) (c : ℕ) (left : Remaining) (node scx : ℕ) → IsShare lay h c left node scx → AreFinished lay c left.next_scx h → AreFinished lay c 0 h
all_over lay h c left node scx share over s own real t = over s own (λ e. share.untaken s own (omega (arith, e)) t) t

-- so none is in progress
pub all_idle : (lay : Layout) (h : History) (c : ℕ) (left : Remaining) (node scx : ℕ) → Lawful lay h → IsShare lay h c left node scx → AreFinished lay c left.next_scx h → IsIdle lay c h
all_idle lay h c left node scx l share over = idle_if_over lay c h l (λ s own t. all_over lay h c left node scx share over s own (λ e. let a = own.from in omega arith) t)

-- one whose update wins is in progress
pub wins_in_progress : (lay : Layout) (h : History) (r : Row) (s : ℕ) → Lawful lay (r ⊳ h) → UpdateWins h r s → IsInProgress h s
wins_in_progress lay h r s l x =
    let f : Facts lay h = facts_before lay h r l in
    record { unfinished = update_in_progress f x; named = (member h s 0, (update_flagged f x).frozen 0 (update_flagged f x).some) }
