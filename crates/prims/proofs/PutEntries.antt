-- What a run of SCX with a fresh cell has once an info word names its SCX-record: its words are
-- filled, and as soon as it has won there is its entry.
use Rattle.std.proofs.Common.{◌≡◌, ◌≢◌, ℕ, ◌<◌, length, Some, sym, ◌∙◌, ap, arith}
use Rattle.histories.specs.Common.{Layout, Row, Step, Side, node, state, child, first_value, History, ◌⊳◌, value, Extends, count_of, IsNamedScx, IsWin, Lawful, IsMember, IsInProgress, Call}
use Rattle.histories.proofs.Lemmas.{facts, won_named, won_since}
use Rattle.prims.specs.Snaps.{IsAmong}
use Rattle.prims.specs.Laws.Wins.{won_by}
use Rattle.prims.specs.Laws.Entered.{filled_entry_at}
use Rattle.prims.specs.Scx.Known.{Job, job_of, HasFilled, IsEntryAt, ScxWaitsAt, ScxIsToldAt}
use Rattle.prims.specs.Put.Known.{HasValue, PutWaitsAt, PutIsToldAt, PutWaits, PutIsReady, PutAnswers}
use Rattle.prims.proofs.PutTurns.{value_before, empty_before}
use Rattle.prims.specs.declared.scx.Scx.{Scx as Answer}
use Rattle.prims.specs.declared.scx.Scx.TheVariants.{Done, Lost}
use Rattle.prims.specs.declared.scx.ScxAt.{ScxAt}
use Rattle.prims.specs.declared.scx.ScxAt.TheVariants.{Start as ScxStart, Plan as AtPlan, New as AtNew, Old as AtOld, Member as AtMember, Seen as AtSeen, Call as AtCall, Help}
use Rattle.prims.specs.declared.update.Update.{Update}
use Rattle.prims.specs.declared.put.PutRun.{PutRun}
use Rattle.prims.specs.declared.put.PutAt.{PutAt}
use Rattle.prims.specs.declared.put.PutAt.TheVariants.{Start, Fill as AtFill, Scx}

-- an SCX-record that is filled covers the nodes of the snapshots
pub filled_covers : (c : Call) (h : History) (s number n : ℕ) (u : Update) → HasFilled c h s number u → IsMember h s n → IsAmong u.snaps n
filled_covers c h s number n u x y = record { at = y.index; within = within; is = sym (x.members y.index within) ∙ y.is }
  where
    within : y.index < length u.snaps
    within = rw (ap count_of x.planned ∙ x.over.count) at y.within

-- What it knows

module _ (allows : Layout → History → ℕ → Type 0) (m : Job) (c : Call) (h : History) (p : IsNamedScx h m.scx.0) where
  -- a run of SCX that waits
  pub scx_filled : (at : ScxAt) (s : Step) → ScxWaitsAt allows c h m at s → HasFilled c h m.scx.0 m.call m.update
  scx_filled ScxStart s w = absurd w
  scx_filled (Help help) s w = w.2
  scx_filled AtPlan s w = absurd (w.fills.hand.is_open.unnamed p)
  scx_filled AtNew s w = absurd (w.fills.hand.is_open.unnamed p)
  scx_filled AtOld s w = absurd (w.fills.hand.is_open.unnamed p)
  scx_filled (AtMember j) s w = absurd (w.fills.hand.is_open.unnamed p)
  scx_filled (AtSeen j) s w = absurd (w.fills.hand.is_open.unnamed p)
  scx_filled AtCall s w = absurd (w.fills.hand.is_open.unnamed p)

  -- one whose step is made
  pub scx_filled_then : (at : ScxAt) (v : ℕ) → ScxIsToldAt allows c h m at v → HasFilled c h m.scx.0 m.call m.update
  scx_filled_then ScxStart v w = absurd w
  scx_filled_then (Help help) v w = w.2
  scx_filled_then AtPlan v w = absurd (w.hand.is_open.unnamed p)
  scx_filled_then AtNew v w = absurd (w.hand.is_open.unnamed p)
  scx_filled_then AtOld v w = absurd (w.hand.is_open.unnamed p)
  scx_filled_then (AtMember j) v w = absurd (w.hand.is_open.unnamed p)
  scx_filled_then (AtSeen j) v w = absurd (w.hand.is_open.unnamed p)
  scx_filled_then AtCall v w = absurd (w.hand.is_open.unnamed p)

module _ (allows : Layout → History → ℕ → Type 0) (m : PutRun) (c : Call) (h : History) where
  -- its words are filled, and its fresh node has its value
  abbrev pub IsFull : Type 0
  IsFull = HasFilled c h m.scx.scx.0 m.scx.call m.scx.update × HasValue c h m.scx.scx.0 m.scx.update.fresh.0 m.value

  -- at each place
  full_at : (at : PutAt) (s : Step) → IsNamedScx h m.scx.scx.0 → PutWaitsAt allows c h m at s → IsFull
  full_at Start s p w = absurd w
  full_at AtFill s p w = absurd (w.0.hand.is_open.unnamed p)
  full_at Scx s p w = (scx_filled allows (job_of m.scx) c h p m.scx.at s w.1, w.0)

  full_then : (at : PutAt) (v : ℕ) → IsNamedScx h m.scx.scx.0 → PutIsToldAt allows c h m at v → IsFull
  full_then Start v p w = absurd w
  full_then AtFill v p w = absurd (w.2.is_open.unnamed p)
  full_then Scx v p w = (scx_filled_then allows (job_of m.scx) c h p m.scx.at v w.1, w.0)

  -- while it waits, and once its step is made
  pub put_full : (s : Step) → IsNamedScx h m.scx.scx.0 → PutWaits allows m c h s → IsFull
  put_full s p w = full_at m.at s p w

  pub put_full_then : (v : ℕ) → IsNamedScx h m.scx.scx.0 → PutIsReady allows m c h (Some v) → IsFull
  put_full_then v p w = full_then m.at v p w

  -- while it is in progress it covers only nodes of its snapshots
  pub put_covers : (s : Step) (n : ℕ) → PutWaits allows m c h s → IsInProgress h m.scx.scx.0 → IsMember h m.scx.scx.0 n → IsAmong m.scx.update.snaps n
  put_covers s n w p x = filled_covers c h m.scx.scx.0 m.scx.call n m.scx.update (put_full s p.named w).0 x

  pub put_covers_then : (v n : ℕ) → PutIsReady allows m c h (Some v) → IsInProgress h m.scx.scx.0 → IsMember h m.scx.scx.0 n → IsAmong m.scx.update.snaps n
  put_covers_then v n w p x = filled_covers c h m.scx.scx.0 m.scx.call n m.scx.update (put_full_then v p.named w).0 x

  -- the entry of the row at which its update has won
  abbrev pub IsFullEntry : Row → History → Type 0
  IsFullEntry row before = IsEntryAt c h m.scx row before × (value before (node m.scx.update.fresh.0 first_value) ≡ m.value) × ((side : Side) → value before (child m.scx.update.fresh.0 side) ≡ 0)

  -- it is that of an SCX-record that is filled
  full_entry : (row : Row) (before : History) → Lawful c.layout h → Extends h (row ⊳ before) → IsWin before row m.scx.scx.0 → IsFull → IsFullEntry row before
  full_entry row before l e w x =
      let y : IsEntryAt c h m.scx row before = filled_entry_at c h m.scx row before l x.0 e w in
      (y, value_before c h m.scx m.value row before l y x.1.value, empty_before c h m.scx row before l y x.1.blank)

  -- an SCX-record that has won is named
  was_named : (row : Row) (before : History) → Lawful c.layout h → Extends h (row ⊳ before) → IsWin before row m.scx.scx.0 → IsNamedScx h m.scx.scx.0
  was_named row before l e w = won_named m.scx.scx.0 (facts c.layout h l) (won_since c.layout h (row ⊳ before) m.scx.scx.0 l e (won_by row before m.scx.scx.0 w))

  -- while it waits, and once its step is made
  pub put_entry : (s : Step) (row : Row) (before : History) → Lawful c.layout h → Extends h (row ⊳ before) → IsWin before row m.scx.scx.0 → PutWaits allows m c h s → IsFullEntry row before
  put_entry s row before l e w x = full_entry row before l e w (put_full s (was_named row before l e w) x)

  pub put_entry_then : (v : ℕ) (row : Row) (before : History) → Lawful c.layout h → Extends h (row ⊳ before) → IsWin before row m.scx.scx.0 → PutIsReady allows m c h (Some v) → IsFullEntry row before
  put_entry_then v row before l e w x = full_entry row before l e w (put_full_then v (was_named row before l e w) x)

-- once it has answered, its SCX-record is finished
pub put_finished : (m : PutRun) (c : Call) (h : History) (a : Answer) → PutAnswers m c h a → value h (state m.scx.scx.0) ≢ 0
put_finished m c h Done x e = let s = x.1.done.committed in omega arith
put_finished m c h (Lost n u) x e = let s = x.1.aborted in omega arith
