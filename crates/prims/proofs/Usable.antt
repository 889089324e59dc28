-- Snapshots that a pass may use, and how its calls over them begin.
use Rattle.std.proofs.Common.{◌≡◌, ℕ, ◌<◌, List, length, None, refl}
use Rattle.histories.specs.Common.{Layout, History, Extends, IsOwnNode, IsOwnScx, IsTakenNode, IsTakenScx, Lawful, IsUnmentioned}
use Rattle.prims.specs.Laws.Blamed.{moment_since}
use Rattle.prims.specs.Cells.{AllowsAll}
use Rattle.prims.specs.Laws.Linked.{linked_since}
use Rattle.prims.specs.Llx.Known.{IsSnapshot}
use Rattle.prims.specs.Moments.{AreFinished}
use Rattle.prims.specs.Put.Known.{PutIsReady}
use Rattle.prims.specs.Scx.Known.{IsUpdateOver}
use Rattle.prims.specs.Shares.{IsUsable}
use Rattle.prims.specs.Snap.{snap_at}
use Rattle.prims.specs.Vlx.Known.{IsClear, VlxIsReady}
use Rattle.prims.specs.declared.snap.Snap.{Snap}
use Rattle.prims.specs.declared.put.PutRun.{PutRun}
use Rattle.prims.specs.declared.put.PutAt.TheVariants.{Start as PutStart}
use Rattle.prims.specs.declared.scx.ScxAt.TheVariants.{Start as ScxStart}
use Rattle.prims.proofs.Alone.{snapshot_moment}
use Rattle.prims.proofs.Blank.{blank_at_first}
use Rattle.prims.proofs.PutBegins.{put_begin}

-- a snapshot that has just been taken
pub usable_now : (lay : Layout) (h : History) (n : ℕ) (snap : Snap) → IsSnapshot lay h n snap → IsUsable lay h snap h
usable_now lay h n snap x = record { linked = x.linked; found = snapshot_moment lay h n snap x }

-- it may be used for ever
pub usable_since : (lay : Layout) (h m : History) (snap : Snap) (moment : History) → Lawful lay h → Extends h m → IsUsable lay m snap moment → IsUsable lay h snap moment
usable_since lay h m snap moment l e x = record { linked = linked_since lay h m snap l e x.linked; found = moment_since lay h m moment snap e x.found }

-- How calls begin

-- where all that the pass has taken is finished, a call over usable snapshots may begin
is_clear : (lay : Layout) (c : ℕ) (h : History) (snaps : List Snap) → ((i : ℕ) → i < length snaps → (moment : History) × IsUsable lay h (snap_at snaps i) moment) → AreFinished lay c 0 h → IsClear lay c h snaps
is_clear lay c h snaps usable over = record {
  over = over;
  found = λ i p. let x = usable i p in (x.0, x.1.found);
}

-- an update over usable snapshots, with the next SCX-record and the next node of a share that
-- nothing mentions
pub put_ready_first : (lay : Layout) (c number : ℕ) (is_pass : c < lay.passes) (h : History) (m : PutRun) → Lawful lay h → IsUpdateOver m.scx.update → ((i : ℕ) → i < length m.scx.update.snaps → (moment : History) × IsUsable lay h (snap_at m.scx.update.snaps i) moment) → m.at ≡ PutStart → m.scx.at ≡ ScxStart
    → IsOwnScx lay c m.scx.scx.0 → ((t : ℕ) → IsOwnScx lay c t → t < m.scx.scx.0 → IsTakenScx h t) → ¬ IsTakenScx h m.scx.scx.0
    → IsOwnNode lay c m.scx.update.fresh.0 → ((n : ℕ) → IsOwnNode lay c n → n < m.scx.update.fresh.0 → IsTakenNode h n) → IsUnmentioned h m.scx.update.fresh.0 → ¬ IsTakenNode h m.scx.update.fresh.0
    → AreFinished lay c 0 h
    → PutIsReady AllowsAll m (record { layout = lay; pass = c; is_pass = is_pass; number = number; start = h }) h None
put_ready_first lay c number is_pass h m l over usable at start own in_order free own_node nodes unmentioned free_node all_over = record {
  stands = at;
  hand = put_begin AllowsAll lay c h m.scx l over (λ i p. (usable i p).1.linked) start own in_order free own_node nodes unmentioned (λ k r d later f y n later_n run e b w. tt);
  begins = refl;
  clear = is_clear lay c h m.scx.update.snaps usable all_over;
  free = free;
  blank = blank_at_first lay c h m.scx.scx.0 m.scx.update.fresh.0 l own_node unmentioned free_node;
}

pub vlx_ready_first : (lay : Layout) (c number : ℕ) (is_pass : c < lay.passes) (h : History) (snaps : List Snap) (asked : ℕ) → asked ≡ 0 → 0 < length snaps → ((i : ℕ) → i < length snaps → (moment : History) × IsUsable lay h (snap_at snaps i) moment) → AreFinished lay c 0 h → VlxIsReady snaps asked (record { layout = lay; pass = c; is_pass = is_pass; number = number; start = h }) h None
vlx_ready_first lay c number is_pass h snaps asked start some usable all_over = record {
  asked = start;
  some = some;
  linked = λ i p. (usable i p).1.linked;
  begins = refl;
  clear = is_clear lay c h snaps usable all_over;
}
