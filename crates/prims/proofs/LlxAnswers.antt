-- What LLX's answers say of other moments, and how a call of it begins.
use Rattle.std.proofs.Common.{◌≡◌, ℕ, ◌<◌, ◌≤◌, inl, true, false, None, sym, subst, arith}
use Rattle.histories.specs.Common.{Records, Layout, ScxNo, opening_nodes, History, Extends, Lawful, log, is_final, Call}
use Rattle.arena.proofs.Lemmas.{ends_self}
use Rattle.prims.specs.Laws.Idle.{IsIdle, IsQuietSince, quiet_at_start}
use Rattle.prims.specs.Laws.InTheWay.{open_before}
use Rattle.prims.specs.Llx.Known.{IsOpened, IsSnapshot, LlxKnows, LlxIsReady, LlxAnswers}
use Rattle.prims.specs.declared.snap.Snap.{Snap}
use Rattle.prims.specs.declared.llx.Llx.{Llx}
use Rattle.prims.specs.declared.llx.Llx.TheVariants.{Snapshot, Finalized, Fail}
use Rattle.prims.specs.declared.llx.LlxRun.{LlxRun}
use Rattle.prims.specs.declared.llx.LlxAt.TheVariants.{Start}

-- How a call begins

-- a pass that begins a call while it is idle has been quiet since then
pub quiet_from : (c : Call) (h : History) → h ≡ c.start → IsIdle c.layout c.pass h → IsQuietSince c.layout c.pass c.start h
quiet_from c h e idle = subst (λ k. IsQuietSince c.layout c.pass k h) e (quiet_at_start c.layout c.pass h idle)

-- so a run that has not begun, of a node that the caller may look at, is ready
pub ready_at_start : (allows : Layout → History → ℕ → Type 0) (m : LlxRun) (c : Call) (h : History) → h ≡ c.start → m.at ≡ Start → IsOpened c.layout h m.node.0 → IsIdle c.layout c.pass h → LlxIsReady allows m c h None
ready_at_start allows m c h e a o idle = record {
  opened = o;
  since = subst (Extends h) e (ends_self h);
  quiet = quiet_from c h e idle;
  known = subst (LlxKnows c h m.node.0) (sym a) tt;
  told = a;
}

-- a cell is there from the start
pub cell_opened : (lay : Layout) (h : History) (n : ℕ) → lay.mode ≡ Records → n ≤ 8 → IsOpened lay h n
cell_opened lay h n e i = record { in_field = inl early; inside = let a = early in omega arith }
  where
    early : n < opening_nodes lay
    early = rw e (omega arith)

-- What the answers say

-- the node of a snapshot has not been final at any moment
pub snapshot_open : (lay : Layout) (h m : History) (n : ℕ) (snap : Snap) → Lawful lay h → Extends h m → IsSnapshot lay h n snap → is_final (log lay m) n ≡ false
snapshot_open lay h m n snap l e x = open_before lay h m n l e x.not_final

-- of a node that is final at the call's start the answer is that it is finalized
pub finalized_at_start : (m : LlxRun) (c : Call) (h : History) (a : Llx) → Lawful c.layout h → Extends h c.start → is_final (log c.layout c.start) m.node.0 ≡ true → LlxAnswers m c h a → (s : ScxNo) × (a ≡ Finalized m.node s)
finalized_at_start m c h (Snapshot snap) l e f x = absurd (let q = snapshot_open c.layout h c.start m.node.0 snap l e x.0 in cc)
finalized_at_start m c h (Finalized node s) l e f x = (s, λ i. Finalized record { 0 = x.0 i } s)
finalized_at_start m c h (Fail node s) l e f x = absurd (let q = x.1.not_final in cc)
