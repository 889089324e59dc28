-- What a call saw at its moments, and who was in its way.
use Rattle.std.proofs.Common.{◌≡◌, ◌≢◌, ℕ, Bool, true, false, inl, inr, ⊎_elim, refl, sym, ◌∙◌, subst, arith}
use native.Mathlib.Decide.{ℕ_discrete}
use Rattle.histories.specs.Common.{Layout, Row, info, marked, state, History, ◌⊳◌, value, HasHeld, Extends, IsNamed, IsOthersScx, Lawful, log, is_final, IsMember, WasInTheWay, descriptor}
use Rattle.arena.proofs.Lemmas.{ends_self, ends_trans}
use Rattle.histories.specs.Finalizing.{IsFinalizing}
use Rattle.histories.proofs.Lemmas.{Facts, IsEnded, IsFinalizedBy, IsFlagged, IsOwned, blame_info, blame_mark, by_final, earlier, facts, final_by, finalized_by_stays, finished_stays, flagged_about, lawful_since, lawful_tail, marked_stays, member_of, not_final, since, still}
use Rattle.prims.specs.Laws.Idle.{IsQuietSince}

-- Moments of a call

-- P held at some moment of h from `start` on
pub record HasBeen (h start : History) (P : History → Type 0) : Type 0 where
  pub moment : History
  pub within : Extends h moment
  pub since : Extends moment start
  pub was : P moment

-- some row has been added since the moment `start`, the newest of h
pub record IsBehind (h start : History) : Type 0 where
  pub row : Row
  pub before : History
  pub is : h ≡ row ⊳ before
  pub since : Extends before start

-- what holds now holds at a moment since `start`
pub been_now : (h start : History) (P : History → Type 0) → Extends h start → P h → HasBeen h start P
been_now h start P e p = record { moment = h; within = ends_self h; since = e; was = p }

-- what held at a moment since `start` did so after one more row
pub been_more : (r : Row) (h start : History) (P : History → Type 0) → HasBeen h start P → HasBeen (r ⊳ h) start P
been_more r h start P x = record { moment = x.moment; within = inr x.within; since = x.since; was = x.was }

-- what was in the way since a moment of a call was in the way of the call
way_wider : (h m start : History) (n s : ℕ) → Extends m start → WasInTheWay h m n s → WasInTheWay h start n s
way_wider h m start n s e x = record { row = x.row; before = x.before; within = x.within; since = ends_trans x.before m start x.since e; running = x.running; covers = x.covers }

-- an SCX-record that an info word has named and that is in progress is in the way now
pub way_now : (lay : Layout) (h start : History) (n s : ℕ) → Lawful lay h → IsBehind h start → HasHeld h (info n) s → value h (state s) ≡ 0 → WasInTheWay h start n s
way_now lay h start n s l x p z = go x.row x.before x.is
  where
    real : s ≢ 0
    real e = let d = (facts lay h l).dummy in let w : value h (state 0) ≡ 0 = rw e at z in omega arith

    covers : IsMember h s n
    covers = member_of h s n ((facts lay h l).cell s n real p)

    go : (r : Row) (k : History) → h ≡ r ⊳ k → WasInTheWay h start n s
    go r k e = record {
      row = x.row;
      before = x.before;
      within = subst (Extends h) x.is (ends_self h);
      since = x.since;
      running = rw (← x.is) record { unfinished = z; named = (n, p) };
      covers = rw (← x.is) covers;
    }

-- Finality

-- a final node stays final after a lawful row
pub final_stays : (lay : Layout) (h : History) (r : Row) (n : ℕ) → Lawful lay (r ⊳ h) → is_final (log lay h) n ≡ true → is_final (log lay (r ⊳ h)) n ≡ true
final_stays lay h r n l e =
    let x : (s : ℕ) × IsFinalizedBy h n s = final_by lay h n (lawful_tail lay h r l) e in
    by_final lay (r ⊳ h) n x.0 l (finalized_by_stays lay h r n x.0 l x.1)

-- a node that was final at a moment is final ever after
pub final_since : (lay : Layout) (h m : History) (n : ℕ) → Lawful lay h → Extends h m → is_final (log lay m) n ≡ true → is_final (log lay h) n ≡ true
final_since lay h m n = since (λ k. is_final (log lay k) n ≡ true) lay (λ h r l e. final_stays lay h r n l e) h m

-- a node that is not final was not final before
pub open_before : (lay : Layout) (h m : History) (n : ℕ) → Lawful lay h → Extends h m → is_final (log lay h) n ≡ false → is_final (log lay m) n ≡ false
open_before lay h m n l e d = go (is_final (log lay m) n) refl
  where
    go : (t : Bool) → is_final (log lay m) n ≡ t → t ≡ false
    go false q = refl
    go true q = absurd (let x = final_since lay h m n l e q in cc)

-- a node that was unmarked at a moment of the call was not final at its start
pub open_at_start : (lay : Layout) (h start : History) (n : ℕ) → Lawful lay h → HasBeen h start (λ m. value m (marked n) ≡ 0) → is_final (log lay start) n ≡ false
open_at_start lay h start n l x =
    let k : Lawful lay x.moment = lawful_since lay h x.moment l x.within in
    open_before lay x.moment start n k x.since (not_final lay x.moment n k x.was)

-- a finished SCX-record that finalizes a node and could not be stopped is committed
pub flagged_commits : (lay : Layout) (h : History) (n s : ℕ) → Lawful lay h → IsFinalizing h n s → value h (state s) ≢ 0 → value h (state s) ≡ 1
flagged_commits lay h n s l x d = go (f.ended s d)
  where
    f : Facts lay h
    f = facts lay h l

    c : IsFlagged (descriptor h s) h s
    c = f.flagged s (λ z. let y = x.flag in omega arith)

    go : IsEnded h s (value h (state s)) → value h (state s) ≡ 1
    go (inl y) = y.0
    go (inr y) = absurd (⊎_elim y.1 (λ z. z.unfrozen (c.frozen z.index z.within)) ((flagged_about f c).done d))

-- Why an LLX doesn't read on

-- something has disturbed an LLX that had found s in the info of n
pub data IsDisturbed (h start : History) (n s : ℕ) : Type 0 where
  -- s was in progress over n in the call
  in_progress : WasInTheWay h start n s → IsDisturbed h start n s
  -- the node is marked now
  came_marked : value h (marked n) ≡ 1 → IsDisturbed h start n s
  -- s is finished, and the info of n names another
  passed : value h (state s) ≢ 0 → value h (info n) ≢ s → IsDisturbed h start n s

-- what has disturbed it stays so after a lawful row
pub disturbed_more : (lay : Layout) (h : History) (r : Row) (start : History) (n s : ℕ) → Lawful lay (r ⊳ h) → IsNamed lay h n → IsDisturbed h start n s → IsDisturbed (r ⊳ h) start n s
disturbed_more lay h r start n s l p (in_progress x) = in_progress (earlier r x)
disturbed_more lay h r start n s l p (came_marked e) = came_marked (marked_stays lay h r n l e)
disturbed_more lay h r start n s l p (passed d e) = passed (finished_stays lay h r s l d) (λ q. e (still lay h r n s l p d q).info)

-- The SCX-record in the way

-- what the info names now was in the way, if the run was disturbed, and at moments of the call the
-- node was unmarked and its info named s
pub blame_met : (lay : Layout) (h start : History) (n s v : ℕ) → Lawful lay h → HasBeen h start (λ m. value m (marked n) ≡ 0) → HasBeen h start (λ m. value m (info n) ≡ s) → IsDisturbed h start n s → value h (info n) ≡ v → WasInTheWay h start n v
blame_met lay h start n s v l clean named x e = go (ℕ_discrete v s) x
  where
    other : v ≢ s → WasInTheWay h start n v
    other d = way_wider h named.moment start n v named.since (subst (WasInTheWay h named.moment n) e (blame_info lay h named.moment n l named.within (λ q. d (sym e ∙ q ∙ named.was))))

    go : Dec (v ≡ s) → IsDisturbed h start n s → WasInTheWay h start n v
    go (no d) y = other d
    go (yes q) (in_progress y) = rw q y
    go (yes q) (came_marked y) = way_wider h clean.moment start n v clean.since (subst (WasInTheWay h clean.moment n) e (blame_mark lay h clean.moment n l clean.within clean.was (λ z. omega arith)))
    go (yes q) (passed d y) = absurd (y (e ∙ q))

-- what was in the way of a pass that has been idle since the moment `start` is another pass's
pub way_others : (lay : Layout) (c : ℕ) (h start : History) (n s : ℕ) → Lawful lay h → IsQuietSince lay c start h → WasInTheWay h start n s → IsOthersScx lay c s
way_others lay c h start n s l q x = record { pass = o.pass; is_pass = o.is_pass; is_other = other; owns = o.scx }
  where
    k : History
    k = x.row ⊳ x.before

    lawful : Lawful lay k
    lawful = lawful_since lay h k l x.within

    f : Facts lay k
    f = facts lay k lawful

    real : s ≢ 0
    real e = let d = f.dummy in let w : value k (state 0) ≡ 0 = rw e at x.running.unfinished in omega arith

    o : IsOwned lay (descriptor k s) s
    o = (f.about s x.running.named.0 real x.running.named.1).owned

    other : o.pass ≢ c
    other e = q k x.within (inr x.since) s (rw e at o.scx) x.running
