-- LLX and VLX never ask for a fill.
use Rattle.std.proofs.Common.{◌≡◌, ◌≢◌, ℕ, List, ap}
use Rattle.histories.specs.Common.{Layout, Step, Kind, Fill, LoadInfo, LoadState, LoadMarked, LoadChild, Word, Left, Right, info, marked, child, state, History, Call}
use Rattle.help.specs.Laws.Help.Lawful.{help_fills_not}
use Rattle.prims.specs.Llx.Known.{load, LlxHasAsked, LlxWaits}
use Rattle.prims.specs.Vlx.Known.{VlxWaits}
use Rattle.prims.specs.declared.llx.LlxRun.{LlxRun}
use Rattle.prims.specs.declared.llx.LlxAt.{LlxAt}
use Rattle.prims.specs.declared.llx.LlxAt.TheVariants.{Start, Marked, Info, State, MarkedAgain, Left as AtLeft, Right as AtRight, InfoAgain, StateAgain, Help, LastInfo, LastState, LastHelp}
use Rattle.prims.specs.declared.snap.Snap.{Snap}

-- a load is of its own kind
load_kind : (k : Kind) (w : Word) (s : Step) → s ≡ load k w → s.kind ≡ k
load_kind k w s e = ap (λ (t : Step). t.kind) e

-- what an LLX asks for at a place is a load, or a step of HELP
fills_not_at : (allows : Layout → History → ℕ → Type 0) (c : Call) (h : History) (n : ℕ) (at : LlxAt) (s : Step) → LlxHasAsked allows c h n at s → s.kind ≢ Fill
fills_not_at allows c h n Start s a f = absurd a
fills_not_at allows c h n Marked s a f = let e = load_kind LoadMarked (marked n) s a in cc
fills_not_at allows c h n (Info b) s a f = let e = load_kind LoadInfo (info n) s a in cc
fills_not_at allows c h n (State b u) s a f = let e = load_kind LoadState (state u.0) s a in cc
fills_not_at allows c h n (MarkedAgain b u v) s a f = let e = load_kind LoadMarked (marked n) s a in cc
fills_not_at allows c h n (AtLeft b u) s a f = let e = load_kind LoadChild (child n Left) s a in cc
fills_not_at allows c h n (AtRight b u x) s a f = let e = load_kind LoadChild (child n Right) s a in cc
fills_not_at allows c h n (InfoAgain b u x y) s a f = let e = load_kind LoadInfo (info n) s a in cc
fills_not_at allows c h n (StateAgain b u) s a f = let e = load_kind LoadState (state u.0) s a in cc
fills_not_at allows c h n (Help b m) s a f = help_fills_not allows m c h s a f
fills_not_at allows c h n LastInfo s a f = let e = load_kind LoadInfo (info n) s a in cc
fills_not_at allows c h n (LastState u) s a f = let e = load_kind LoadState (state u.0) s a in cc
fills_not_at allows c h n (LastHelp u m) s a f = help_fills_not allows m c h s a f

-- LLX
pub llx_fills_not : (allows : Layout → History → ℕ → Type 0) (m : LlxRun) (c : Call) (h : History) (s : Step) → LlxWaits allows m c h s → s.kind ≢ Fill
llx_fills_not allows m c h s w = fills_not_at allows c h m.node.0 m.at s w.asked

-- VLX
pub vlx_fills_not : (snaps : List Snap) (asked : ℕ) (c : Call) (h : History) (s : Step) → VlxWaits snaps asked c h s → s.kind ≢ Fill
vlx_fills_not snaps asked c h s w f = let e = load_kind LoadInfo _ s w.asked in cc
