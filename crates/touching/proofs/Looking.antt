-- LLX comes to its node, to what the info of that has named in the call, and to what it helps.
use Rattle.std.proofs.Common.{ℕ, Bool, sym, subst}
use Rattle.histories.specs.Common.{Layout, Step, ScxNo, History, Extends, IsRun, Call, begun_at}
use Rattle.arena.proofs.Lemmas.{ends_self}
use Rattle.prims.specs.Llx.Known.{HasMet, IsToBlame, LlxKnows, LlxHasAsked, LlxWaits}
use Rattle.prims.specs.declared.llx.LlxRun.{LlxRun}
use Rattle.prims.specs.declared.llx.LlxAt.{LlxAt}
use Rattle.prims.specs.declared.llx.LlxAt.TheVariants.{Start, Marked, Info, State, MarkedAgain, Left as AtLeft, Right as AtRight, InfoAgain, StateAgain, Help, LastInfo, LastState, LastHelp}
use Rattle.touching.specs.Touches.{WasInProgress, WasSo, Touches}
use Rattle.touching.proofs.Moments.{been_wider, way_running}
use Rattle.touching.proofs.Finding.{Finds, FindsScx, found_named, found_running, found_so, found_touched}
use Rattle.touching.proofs.Helping.{help_finds}

-- the LLX may be a part of a call, and have begun at `begin`
module _ (P : Layout → History → ℕ → Type 0) (allows : Layout → History → ℕ → Type 0) (c : Call) (begin h : History) (run : IsRun allows c.layout h) (since : Extends begin c.start) (n : ℕ) (so : WasSo P c h n) where
  met_found : (b : Bool) (s : ℕ) → HasMet (begun_at c begin) h n b s → FindsScx P c h s
  met_found b s x = found_named n so (been_wider h begin c.start _ since x.named)

  blamed_running : (s : ℕ) → IsToBlame (begun_at c begin) h n s → WasInProgress c h s
  blamed_running s x = way_running c h begin n s since x.in_the_way

  llx_at : (at : LlxAt) (s : Step) → LlxKnows (begun_at c begin) h n at → LlxHasAsked allows (begun_at c begin) h n at s → Finds P c h s.word
  llx_at Start s k a = absurd a
  llx_at Marked s k a = rw a (found_so so)
  llx_at (Info b) s k a = rw a (found_so so)
  llx_at (State b u) s k a = rw a (met_found b u.0 k)
  llx_at (MarkedAgain b u v) s k a = rw a (found_so so)
  llx_at (AtLeft b u) s k a = rw a (found_so so)
  llx_at (AtRight b u x) s k a = rw a (found_so so)
  llx_at (InfoAgain b u x y) s k a = rw a (found_so so)
  llx_at (StateAgain b u) s k a = rw a (met_found b u.0 k.met)
  llx_at (Help b m) s k a = help_finds P allows m c h s run.lawful a (been_wider h begin c.start _ since k.running)
  llx_at LastInfo s k a = rw a (found_so so)
  llx_at (LastState u) s k a = rw a (found_running (blamed_running u.0 k))
  llx_at (LastHelp u m) s k a = help_finds P allows m c h s run.lawful a (subst (λ (v : ScxNo). WasInProgress c h v.0) (sym k.1) (blamed_running u.0 k.0))

pub llx_in_call : (P : Layout → History → ℕ → Type 0) (allows : Layout → History → ℕ → Type 0) (c : Call) (begin h : History) (m : LlxRun) (s : Step) → IsRun allows c.layout h → Extends begin c.start → LlxWaits allows m (begun_at c begin) h s → WasSo P c h m.node.0 → Finds P c h s.word
llx_in_call P allows c begin h m s run since w so = llx_at P allows c begin h run since m.node.0 so m.at s w.known w.asked

pub llx_touches : (P : Layout → History → ℕ → Type 0) (allows : Layout → History → ℕ → Type 0) (m : LlxRun) (c : Call) (h : History) (s : Step) → IsRun allows c.layout h → LlxWaits allows m c h s → WasSo P c h m.node.0 → Touches P c h s.word
llx_touches P allows m c h s run w so = found_touched P c h s.word (llx_in_call P allows c c.start h m s run (ends_self c.start) w so)
