-- The machine of a call in a player's run: it does as the machine inside, in a run of its mode.
use Rattle.std.proofs.Common.{◌≡◌, ◌≢◌, ℕ, Some}
use Rattle.histories.specs.Common.{Row, Step, History, ◌⊳◌, value, Call, IsRun, IsTold, row_of}
use Rattle.prims.specs.Cells.{AllowsAll}
use Rattle.prims.specs.Llx.Laws.{llx_keeps, llx_lawful, llx_made}
use Rattle.prims.specs.Vlx.Laws.{vlx_keeps, vlx_lawful, vlx_made}
use Rattle.prims.specs.Put.Laws.{put_keeps, put_lawful, put_made}
use Rattle.dict.specs.Laws.Dict.{dict_keeps, dict_lawful, dict_made}
use Rattle.player.specs.declared.run.Run.{Run}
use Rattle.player.specs.declared.run.Run.TheVariants.{Llx, Scx, Vlx, Map}
use Rattle.dict.specs.Words.{IsNumber, IsWideNumber}
use Rattle.player.specs.Allowed.{PlayedAllows}
use Rattle.dict.specs.Calls.{trie_in}
use Rattle.player.specs.RunKnown.{RunIsReady, RunWaits, run_mode}
use Rattle.player.proofs.Shapes.{as_cells, as_played, as_numbers, as_played_numbers, of_map}

-- rows of other passes leave the machine waiting for the same step
pub run_keeps : (m : Run) (c : Call) (h : History) (s : Step) (r : Row) → c.layout.mode ≡ run_mode m → IsRun PlayedAllows c.layout (r ⊳ h) → r.pass.0 ≢ c.pass → RunWaits m c h s → RunWaits m c (r ⊳ h) s
run_keeps (Llx m) c h s r mode run other w = llx_keeps AllowsAll m c h s r (as_cells c.layout (r ⊳ h) mode run) other w
run_keeps (Scx m) c h s r mode run other w = put_keeps AllowsAll m c h s r (as_cells c.layout (r ⊳ h) mode run) other w
run_keeps (Vlx m) c h s r mode run other w = vlx_keeps AllowsAll m.snaps m.asked c h s r (as_cells c.layout (r ⊳ h) mode run) other w
run_keeps (Map m) c h s r mode run other w = dict_keeps IsNumber IsWideNumber m c h s r (as_numbers c.layout (r ⊳ h) (of_map c.layout.mode (trie_in m.run) mode) run) other w

-- the step that the machine waits for continues the run
pub run_lawful : (m : Run) (c : Call) (h : History) (s : Step) → c.layout.mode ≡ run_mode m → IsRun PlayedAllows c.layout h → RunWaits m c h s → IsRun PlayedAllows c.layout (row_of c s h ⊳ h)
run_lawful (Llx m) c h s mode run w = as_played c.layout (row_of c s h ⊳ h) mode (llx_lawful AllowsAll m c h s (as_cells c.layout h mode run) w)
run_lawful (Scx m) c h s mode run w = as_played c.layout (row_of c s h ⊳ h) mode (put_lawful AllowsAll m c h s (as_cells c.layout h mode run) w)
run_lawful (Vlx m) c h s mode run w = as_played c.layout (row_of c s h ⊳ h) mode (vlx_lawful AllowsAll m.snaps m.asked c h s (as_cells c.layout h mode run) w)
run_lawful (Map m) c h s mode run w = as_played_numbers c.layout (row_of c s h ⊳ h) (of_map c.layout.mode (trie_in m.run) mode) (dict_lawful IsNumber IsWideNumber m c h s (as_numbers c.layout h (of_map c.layout.mode (trie_in m.run) mode) run) w)

-- once the step is made, the machine may be called with what it found
pub run_made : (m : Run) (c : Call) (h : History) (s : Step) (v : ℕ) → c.layout.mode ≡ run_mode m → IsRun PlayedAllows c.layout (row_of c s h ⊳ h) → IsTold s.access (value h s.word) v → RunWaits m c h s → RunIsReady m c (row_of c s h ⊳ h) (Some v)
run_made (Llx m) c h s v mode run told w = llx_made AllowsAll m c h s v (as_cells c.layout (row_of c s h ⊳ h) mode run) told w
run_made (Scx m) c h s v mode run told w = put_made AllowsAll m c h s v (as_cells c.layout (row_of c s h ⊳ h) mode run) told w
run_made (Vlx m) c h s v mode run told w = vlx_made AllowsAll m.snaps m.asked c h s v (as_cells c.layout (row_of c s h ⊳ h) mode run) told w
run_made (Map m) c h s v mode run told w = dict_made IsNumber IsWideNumber m c h s v (as_numbers c.layout (row_of c s h ⊳ h) (of_map c.layout.mode (trie_in m.run) mode) run) told w
