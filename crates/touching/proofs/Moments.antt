-- Moments of calls: what was so in a part of a call was so in the call.
use Rattle.std.proofs.Common.{ℕ, inl, inr, subst}
use Rattle.histories.specs.Common.{Layout, Word, Node, Scx, History, Opened, ◌⊳◌, Extends, IsTakenScx, Call, WasInTheWay}
use Rattle.arena.proofs.Lemmas.{ends_trans, taken_scx_more}
use Rattle.prims.specs.Laws.InTheWay.{HasBeen}
use Rattle.touching.specs.Touches.{WasInProgress, TouchesNode, was_so, covered, own_node, TouchesScx, named, in_progress, own_scx, Touches}

pub been_wider : (h begin start : History) (Q : History → Type 0) → Extends begin start → HasBeen h begin Q → HasBeen h start Q
been_wider h begin start Q e x = record { moment = x.moment; within = x.within; since = ends_trans x.moment begin start x.since e; was = x.was }

-- what holds at each moment of a history hands on what was
pub been_so : (h start : History) (Q R : History → Type 0) → ((m : History) → Extends h m → Q m → R m) → HasBeen h start Q → HasBeen h start R
been_so h start Q R f x = record { moment = x.moment; within = x.within; since = x.since; was = f x.moment x.within x.was }

-- what was in the way was in progress
pub way_running : (c : Call) (h begin : History) (n s : ℕ) → Extends begin c.start → WasInTheWay h begin n s → WasInProgress c h s
way_running c h begin n s e x = record { moment = x.row ⊳ x.before; within = x.within; since = inr (ends_trans x.before begin c.start x.since e); was = x.running }

-- what is taken stays so
pub taken_scx_since : (h m : History) (s : ℕ) → Extends h m → IsTakenScx m s → IsTakenScx h s
taken_scx_since (Opened o) m s e t = subst (λ k. IsTakenScx k s) e t
taken_scx_since (r ⊳ h) m s (inl e) t = subst (λ k. IsTakenScx k s) e t
taken_scx_since (r ⊳ h) m s (inr e) t = taken_scx_more r h s (taken_scx_since h m s e t)

module _ (P Q : Layout → History → ℕ → Type 0) (c : Call) (h : History) (finer : (m : History) (n : ℕ) → Extends h m → P c.layout m n → Q c.layout m n) where
  node_so : (n : ℕ) → TouchesNode P c h n → TouchesNode Q c h n
  node_so n (was_so x) = was_so (been_so h c.start _ _ (λ m. finer m n) x)
  node_so n (covered s x) = covered s x
  node_so n (own_node o f) = own_node o f

  scx_so : (s : ℕ) → TouchesScx P c h s → TouchesScx Q c h s
  scx_so s (named n x y) = named n (been_so h c.start _ _ (λ m. finer m n) x) y
  scx_so s (in_progress x) = in_progress x
  scx_so s (own_scx o f) = own_scx o f

  -- of nodes of which more is known, more is said
  pub touches_so : (w : Word) → Touches P c h w → Touches Q c h w
  touches_so (Node n part) x = node_so n.0 x
  touches_so (Scx s part) x = scx_so s.0 x
