-- VLXs that are at a place: as calls of their own, and of whatever machine validates snapshots.
use denote.Bor.{Bor}
use Rattle.std.specs.Prelude.{◌≡◌, ℕ, List, Option, zero, suc}
use Rattle.histories.specs.Common.{Layout, Step, History, Call, Lawful, LoadInfo, info}
use Rattle.template.specs.Common.{VlxIsReady, VlxWaits, VlxAnswers, Snap, Vlx, VlxRun, load, snap_at}
use Rattle.prims.specs.Vlx.Known.{VlxIsTold}
use Rattle.tables.specs.declared.view.SeatedPass.{SeatedPass}
use Rattle.tables.specs.Traces.{CallBegins, Ends}
use Rattle.straight.specs.CallKinds.{Calls}
use Rattle.tables.specs.CallSteps.{AnyLeft}
use Rattle.straight.specs.Inside.{Inner, Inside, InnerIsTold, InnerWaits}

-- the run of VLX over the snapshots that has asked for this many infos
abbrev pub vlx_at : {L : Type 0} → L → ℕ → VlxRun L
vlx_at snaps n = record { snaps = snaps; asked = n }

-- the two runs of VLX are over the same snapshots
abbrev pub AreSameSnaps : {L : Type 0} → VlxRun L → VlxRun L → Type 0
AreSameSnaps old now = now.snaps ≡ old.snaps

-- the list that a row of snapshots is
abbrev pub row_of : Bor (List Snap) → List Snap
row_of snaps = snaps.now

module _ {L : Type 0} (list : L → List Snap) where
  -- a run of VLX may be called with this, over the list that its snapshots are
  abbrev pub ready_over : VlxRun L → Call → History → Option ℕ → Type 0
  ready_over m = VlxIsReady (list m.snaps) m.asked

  -- a run of VLX waits for this step, over that list
  abbrev pub waits_over : VlxRun L → Call → History → Step → Type 0
  waits_over m = VlxWaits (list m.snaps) m.asked

  -- what an answer of VLX says, over that list
  abbrev pub answers_over : VlxRun L → Call → History → Vlx → Type 0
  answers_over m = VlxAnswers (list m.snaps)

module _ {L : Type 0} (list : L → List Snap) (allows : Layout → History → ℕ → Type 0) (c : Call) (ps : List SeatedPass) (snaps : L) where
  -- a call of VLX of the snapshots begins
  abbrev pub SeatVlxBegins : Type 0
  SeatVlxBegins = CallBegins allows (ready_over list) AnyLeft c ps (vlx_at snaps 0)

  -- the call has ended with this answer
  abbrev pub SeatVlxEnds : Vlx → Type 0
  SeatVlxEnds a = (m : VlxRun L) × Ends allows (waits_over list) AreSameSnaps AnyLeft c ps (vlx_at snaps 0) (answers_over list) m a

-- a VLX of these snapshots, in a call of its own, that has asked for this many infos
abbrev pub inner_vlx : List Snap → Inner ℕ
inner_vlx snaps = record {
  Context = Call;
  told = λ d n h v. Lawful d.layout h × VlxIsTold snaps n d h v;
  waits = λ d n h s. VlxWaits snaps n d h s;
  goes = λ old v now. now ≡ suc old;
}

-- a call of a machine that validates these snapshots
abbrev pub Validator : {M : Type 0} → Calls M → List Snap → Type 0
Validator o snaps = Inside o (inner_vlx snaps)

-- its VLX waits for the info of the first of the snapshots, with which it begins
abbrev pub LoadsFirstInfo : {M : Type 0} {o : Calls M} {snaps : List Snap} → Validator o snaps → List SeatedPass → Type 0
LoadsFirstInfo {snaps = snaps} k ps = InnerWaits k ps 1 (load LoadInfo (info (snap_at snaps 0).node.0))

-- its VLX has loaded the infos of so many of the snapshots, from the first, and each is what its
-- snapshot found
abbrev pub HasGoneAlong : {M : Type 0} {o : Calls M} {snaps : List Snap} → Validator o snaps → List SeatedPass → ℕ → Type 0
HasGoneAlong k ps zero = LoadsFirstInfo k ps
HasGoneAlong {snaps = snaps} k ps (suc n) = InnerIsTold k ps (suc n) (snap_at snaps n).scx.0
