-- A try of an update begins in its call, and what its SCX is to cover had no mark in it.
use Rattle.std.proofs.Common.{◌<◌, ℕ, length}
use Rattle.histories.specs.Common.{Step, History, Extends, Call, begun_at}
use Rattle.arena.proofs.Lemmas.{ends_trans}
use Rattle.prims.specs.Snap.{snap_at}
use Rattle.prims.specs.declared.scx.ScxRun.{ScxRun}
use Rattle.ordered_map.specs.TreeShape.{TreeAllows}
use Rattle.template.specs.declared.walk.Found.{Found}
use Rattle.template.specs.declared.walk.WalkAt.{WalkAt}
use Rattle.template.specs.declared.walk.WalkAt.TheVariants.{Start as WalkStart, Root, Head, Key, Child, More, Pair, Value, High}
use Rattle.edits.specs.declared.update.UpdateAt.{UpdateAt}
use Rattle.edits.specs.declared.update.UpdateAt.TheVariants.{Start, Walk, Guard, Look, Read, Fill, Scx}
use Rattle.edits.specs.declared.update.UpdateRun.{UpdateRun}
use Rattle.edits.specs.Edits.{EditMeaning}
use Rattle.edits.specs.Known.{HasSnappedInCall, UpdateWaitsAt, UpdateWaits, Tries}
use Rattle.edits.specs.Tries.{IsTryAt}
use Rattle.touching.specs.Unmarked.{CoversUnmarked, WasUnmarked}
use Rattle.touching.proofs.Changing.{scx_begun}

-- a try begins at a moment of its call
tried_since : (c : Call) (begin h : History) (limit left : ℕ) (at : WalkAt) → IsTryAt c begin h limit left at → Extends begin c.start
tried_since c begin h limit left WalkStart x = x.since
tried_since c begin h limit left Root x = x.since
tried_since c begin h limit left (Head above) x = x.since
tried_since c begin h limit left (Key head) x = x.since
tried_since c begin h limit left (Child low side) x = x.since
tried_since c begin h limit left (More head) x = x.since
tried_since c begin h limit left (Pair head more slot) x = x.since
tried_since c begin h limit left (Value head more slot key) x = x.since
tried_since c begin h limit left (High head more slot key low) x = x.since

module _ {E : Type 0} (e : EditMeaning E) (m : UpdateRun E UpdateAt) (c : Call) (begin h : History) where
  pub try_since : (at : UpdateAt) → Tries e m c begin h at → Extends begin c.start
  try_since (Walk walk) x = tried_since c begin h m.limit m.tries walk.at x
  try_since Start x = x.since
  try_since (Guard walk head llx) x = x.since
  try_since (Look f llx) x = x.since
  try_since (Read f n part) x = x.since
  try_since (Fill f nth part) x = x.since
  try_since (Scx f scx) x = x.since

-- what its SCX is to cover had no mark at a moment of the call
module _ {E : Type 0} (e : EditMeaning E) (m : UpdateRun E UpdateAt) (c : Call) (begin h : History) (since : Extends begin c.start) (s : Step) where
  pub unmarked_by : (f : Found) (scx : ScxRun) → UpdateWaitsAt e m (begun_at c begin) h s (Scx f scx) → (i : ℕ) → i < length scx.update.snaps → WasUnmarked c h (snap_at scx.update.snaps i).node.0
  unmarked_by f scx k i p = record {
    moment = u.moment;
    within = ends_trans h k.0 u.moment (scx_begun TreeAllows c k.0 h scx s k.2) u.within;
    since = ends_trans u.moment begin c.start u.since since;
    was = u.is.linked.unmarked u.is.info;
  }
    where
      u : HasSnappedInCall (begun_at c begin) k.0 (snap_at scx.update.snaps i)
      u = k.1.usable i p

  unmarked_at : (at : UpdateAt) → UpdateWaitsAt e m (begun_at c begin) h s at → CoversUnmarked c h at
  unmarked_at (Scx f scx) k = unmarked_by f scx k
  unmarked_at Start k = tt
  unmarked_at (Walk walk) k = tt
  unmarked_at (Guard walk head llx) k = tt
  unmarked_at (Look f llx) k = tt
  unmarked_at (Read f n part) k = tt
  unmarked_at (Fill f nth part) k = tt

pub update_unmarked : {E : Type 0} (e : EditMeaning E) (m : UpdateRun E UpdateAt) (c : Call) (h : History) (s : Step) → UpdateWaits e m c h s → CoversUnmarked c h m.at
update_unmarked e m c h s w = unmarked_at e m c w.0 h (try_since e m c w.0 h m.at w.1) s m.at w.3
