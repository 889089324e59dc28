-- What a pass knows between its calls, and while one of them runs: its SCX-records are over, and
-- its snapshots are left alone.
use Rattle.std.proofs.Common.{◌≡◌, ◌≢◌, ℕ, inl, inr, arith}
use native.Mathlib.Decide.{ℕ_discrete}
use Rattle.histories.specs.Common.{Layout, Row, Step, state, History, ◌⊳◌, value, Extends, IsOwnScx, Lawful, IsMember, IsInProgress, Call, row_of}
use Rattle.arena.proofs.Lemmas.{ends_self, same_moment}
use Rattle.histories.proofs.Lemmas.{finished_stays}
use Rattle.prims.specs.Laws.Idle.{IsIdle}
use Rattle.prims.specs.Moments.{IsMoment, IsLeftAlone, AreFinished}
use Rattle.prims.specs.Laws.Linked.{in_field_named}
use Rattle.prims.specs.Laws.Begun.{TakesOnly}
use Rattle.prims.specs.Laws.Blamed.{moment_since}
use Rattle.prims.specs.Llx.Known.{IsSnapshot}
use Rattle.prims.specs.Put.Known.{PutWaits}
use Rattle.prims.specs.declared.snap.Snap.{Snap}
use Rattle.prims.specs.declared.put.PutRun.{PutRun}
use Rattle.prims.proofs.PutRows.{put_untaken}

-- Moments

-- the answer of an LLX is a moment of its snapshot
pub snapshot_moment : (lay : Layout) (h : History) (n : ℕ) (snap : Snap) → IsSnapshot lay h n snap → IsMoment lay h snap h
snapshot_moment lay h n snap x = record {
  within = ends_self h;
  named = in_field_named snap.node.0 x.linked.in_field;
  rest = x.linked.rest;
  info = rw x.node x.info;
  not_final = rw x.node x.not_final;
}

-- a moment of a snapshot stays one
pub moment_more : (lay : Layout) (h : History) (r : Row) (snap : Snap) (m : History) → IsMoment lay h snap m → IsMoment lay (r ⊳ h) snap m
moment_more lay h r snap m x = moment_since lay (r ⊳ h) h m snap (inr (ends_self h)) x

-- The SCX-records of a pass

-- a row that takes none but s leaves the others over
pub over_more : (lay : Layout) (c s : ℕ) (h : History) (r : Row) → Lawful lay (r ⊳ h) → TakesOnly lay c s h r → AreFinished lay c s h → AreFinished lay c s (r ⊳ h)
over_more lay c s h r l takes over t own d taken e = takes t own d (λ before. finished_stays lay h r t l (over t own d before) e) taken

-- where a call on s begins, and where s is finished
pub over_begins : (lay : Layout) (c s : ℕ) (h : History) → AreFinished lay c 0 h → AreFinished lay c s h
over_begins lay c s h over t own d taken = over t own (λ e. let i = own.from in omega arith) taken

pub over_ends : (lay : Layout) (c s : ℕ) (h : History) → AreFinished lay c s h → value h (state s) ≢ 0 → AreFinished lay c 0 h
over_ends lay c s h over finished t own real taken = go (ℕ_discrete t s)
  where
    go : Dec (t ≡ s) → value h (state t) ≢ 0
    go (yes e) = rw e finished
    go (no d) = over t own d taken

-- a row of an SCX with a fresh cell takes none but its own
pub put_takes : (allows : Layout → History → ℕ → Type 0) (m : PutRun) (c : Call) (h : History) (s : Step) → PutWaits allows m c h s → TakesOnly c.layout c.pass m.scx.scx.0 h (row_of c s h)
put_takes allows m c h s w t own d free = put_untaken allows m c h s t w d free

-- Snapshots

-- one that the pass has just made, while none of its SCX-records is in progress
pub alone_now : (lay : Layout) (c : ℕ) (h : History) (n : ℕ) (snap : Snap) → IsIdle lay c h → IsSnapshot lay h n snap → IsLeftAlone lay c h snap
alone_now lay c h n snap idle x = record {
  moment = h;
  found = snapshot_moment lay h n snap x;
  idle = λ k e after s own p y. idle s own (rw (same_moment h k e after) at p);
}

-- a row at which no SCX-record of the pass in progress covers its node leaves it alone
pub alone_more : (lay : Layout) (c : ℕ) (h : History) (r : Row) (snap : Snap) → ((s : ℕ) → IsOwnScx lay c s → IsInProgress (r ⊳ h) s → ¬ IsMember (r ⊳ h) s snap.node.0) → IsLeftAlone lay c h snap → IsLeftAlone lay c (r ⊳ h) snap
alone_more lay c h r snap none x = record { moment = x.moment; found = moment_more lay h r snap x.moment x.found; idle = idle }
  where
    idle : (k : History) → Extends (r ⊳ h) k → Extends k x.moment → (s : ℕ) → IsOwnScx lay c s → IsInProgress k s → ¬ IsMember k s snap.node.0
    idle k (inl e) after s own p m = none s own (rw e at p) (rw e at m)
    idle k (inr e) after s own p m = x.idle k e after s own p m
