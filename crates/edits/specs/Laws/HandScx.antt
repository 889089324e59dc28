-- From the last fill to the SCX: what the pass has in hand then.
use Rattle.std.proofs.Common.{◌≡◌, ◌≢◌, ℕ, suc, ◌<◌, ◌-◌, ◌≤◌, ◌⊎◌, inl, inr, None, length, arith}
use native.Mathlib.Decide.{ℕ_discrete}
use Rattle.histories.specs.Common.{Layout, New, Remaining, HasScx, state, History, value, IsOwnNode, IsTakenNode, IsOwnScx, IsTakenScx, Lawful, Call, begun_at, Descriptor}
use Rattle.arena.proofs.Lemmas.{ends_self}
use Rattle.histories.proofs.Lemmas.{named_scx_taken, finished_taken}
use Rattle.help.specs.Allowed.{IsAllowed}
use Rattle.template.specs.Common.{IsShare, IsUsable, snap_at, job_of, IsUpdateOver, Says, ScxIsReady, ScxRun, TreeAllows}
use Rattle.prims.specs.Scx.Known.{InHand, IsUnderWay}
use Rattle.prims.specs.declared.scx.ScxAt.TheVariants.{Start}
use Rattle.prims.proofs.Lemmas.{left_own_scx}
use Rattle.edits.specs.declared.piece.Piece.{Piece}
use Rattle.edits.specs.Laws.Hand.{HasFilledTo}

module _ (c : Call) (h : History) (left : Remaining) (first top : ℕ) (piece : ℕ → Piece) (m : ScxRun) (l : Lawful c.layout h)
    (x : HasFilledTo c.layout h c.pass left first top (suc top) piece) (some : 0 < left.scx)
    (over : IsUpdateOver m.update) (usable : (i : ℕ) → i < length m.update.snaps → (moment : History) × IsUsable c.layout h (snap_at m.update.snaps i) moment)
    (at : m.at ≡ Start) (fresh : m.update.fresh.0 ≡ top) (is_scx : m.scx.0 ≡ left.next_scx)
    (allowed : (d : Descriptor) → Says d (job_of m) → IsAllowed TreeAllows c.layout c.pass h m.scx.0 d) where
  here : HasScx left left.next_scx
  here = record { from = omega arith; below = omega (arith, some) }

  own_next : IsOwnScx c.layout c.pass left.next_scx
  own_next = left_own_scx c.layout h c.pass left first left.next_scx left.next_scx x.share here

  own : IsOwnScx c.layout c.pass m.scx.0
  own = rw is_scx own_next

  free : ¬ IsTakenScx h m.scx.0
  free = rw is_scx (x.share.untaken left.next_scx own_next (omega arith))

  real : m.scx.0 ≢ 0
  real e = let i = own.from in omega (arith, e)

  unfinished : Dec (value h (state m.scx.0) ≡ 0) → value h (state m.scx.0) ≡ 0
  unfinished (yes e) = e
  unfinished (no d) = absurd (free (finished_taken c.layout h m.scx.0 l real d))

  in_hand : InHand TreeAllows c.layout c.pass h (job_of m)
  in_hand = record {
    update = over;
    linked = λ i p. (usable i p).1.linked;
    is_open = record { own = own; in_order = λ t o i. x.share.taken_scx t o (rw is_scx at i); unnamed = λ p. free (named_scx_taken c.layout h m.scx.0 l real p) };
    unfinished = unfinished (ℕ_discrete (value h (state m.scx.0)) 0);
    fresh = rw fresh (x.hand.own top x.some (omega arith));
    unnamed = rw fresh (x.hand.unnamed top x.some (omega arith));
    in_no_field = λ n side. rw fresh (x.hand.unmentioned.in_no_field n side);
    in_no_other = λ u d. rw fresh (x.hand.unmentioned.in_no_scx u New tt);
    allowed = allowed;
  }

  under_way : IsUnderWay (begun_at c h) h m.scx.0 m.update.snaps
  under_way = record {
    begun = record {
      since = ends_self h;
      clear = record { over = x.over; found = λ i p. let u = usable i p in (u.0, u.1.found) };
      only = λ t o d not_taken. not_taken;
    };
    free = free;
  }

  -- the SCX may begin
  pub hand_ready : ScxIsReady TreeAllows m (begun_at c h) h None
  hand_ready = (at, in_hand, under_way)

-- as the SCX begins all fresh nodes are taken, and the share is that of an SCX in hand
pub hand_share : (lay : Layout) (h : History) (c : ℕ) (left : Remaining) (first top : ℕ) (piece : ℕ → Piece) → 0 < left.scx → HasFilledTo lay h c left first top (suc top) piece → IsShare lay h c (record left { next_scx = suc left.next_scx; scx = left.scx - 1 }) left.next_node left.next_scx
hand_share lay h c left first top piece some x = record {
  from_node = x.share.from_node;
  to_node = x.share.to_node;
  from_scx = let a = x.share.from_scx in omega (arith, a);
  to_scx = let a = x.share.to_scx in omega (arith, a, some);
  taken_nodes = λ n o i. taken n o (split n (rw x.next at i));
  taken_scx = x.share.taken_scx;
  unmentioned = x.share.unmentioned;
  untaken_nodes = x.share.untaken_nodes;
  untaken = λ s own i. x.share.untaken s own (omega (arith, i));
}
  where
    split : (n : ℕ) → n < suc top → (n < first) ⊎ ((first ≤ n) × (n ≤ top))
    split n i = grind arith

    taken : (n : ℕ) → IsOwnNode lay c n → (n < first) ⊎ ((first ≤ n) × (n ≤ top)) → IsTakenNode h n
    taken n o (inl i) = x.hand.before n o i
    taken n o (inr i) = x.taken n i.0 (let a = i.1 in omega (arith, a)) i.1
