-- The laws of LLX.
use Rattle.std.proofs.Common.{◌≡◌, ◌≢◌, ℕ, ◌<◌, Bool, false, Some, inr, refl, sym, ◌∙◌, ap}
use Rattle.histories.specs.Common.{Layout, Row, Step, Kind, Freeze, LoadInfo, LoadState, LoadMarked, LoadChild, Word, Left, Right, all_nodes, IsWord, info}
use Rattle.histories.specs.Common.{marked, child, state, History, ◌⊳◌, value, HasHeld, Extends, IsNamed, Lawful, Obeys, IsRun, Call, row_of, IsTold, HasFound}
use Rattle.arena.proofs.Lemmas.{last_now, found_more, value_at, held_more, ends_self}
use Rattle.histories.proofs.Lemmas.{earlier, finished_stays, lawful_more, marked_stays, named_scx_inside, shaped_more, state_stays}
use Rattle.help.specs.Laws.Help.Kept.{help_keeps}
use Rattle.help.specs.Laws.Help.Lawful.{help_lawful, help_looks_not}
use Rattle.help.specs.Laws.Help.Made.{help_made}
use Rattle.prims.specs.Laws.FoundThere.{there_more, found_there}
use Rattle.prims.specs.Laws.Idle.{IsIdle, idle_by_others, idle_by_no_freeze, idle_by_help, quiet_more}
use Rattle.prims.specs.Laws.InTheWay.{been_more, disturbed_more}
use Rattle.prims.specs.Laws.Linked.{in_field_more, in_field_named, side_more, unmarked_more, finalizing_more}
use Rattle.prims.specs.Llx.Known.{HasMet, HasStopped, IsToBlame, IsFinishedUnmarked, IsOpened, load, LlxKnows, LlxHasAsked, LlxIsTold, LlxWaits, LlxIsReady}
use Rattle.prims.specs.declared.llx.LlxRun.{LlxRun}
use Rattle.prims.specs.declared.llx.LlxAt.{LlxAt}
use Rattle.prims.specs.declared.llx.LlxAt.TheVariants.{Start, Marked, Info, State, MarkedAgain, Left as AtLeft, Right as AtRight, InfoAgain, StateAgain, Help, LastInfo, LastState, LastHelp}

-- the run has looked at the info for the last time
abbrev HasLookedLast : LlxAt → Type 0
HasLookedLast (LastState s) = Unit {0}
HasLookedLast (LastHelp s m) = Unit {0}
HasLookedLast _ = ⊥

-- it does not look at one again
last_looks_not : (allows : Layout → History → ℕ → Type 0) (c : Call) (h : History) (n : ℕ) (at : LlxAt) (s : Step) → HasLookedLast at → LlxHasAsked allows c h n at s → s.kind ≢ LoadInfo
last_looks_not allows c h n (LastState u) s x a f = let e : LoadState ≡ LoadInfo = sym (ap (λ (t : Step). t.kind) a) ∙ f in cc
last_looks_not allows c h n (LastHelp u m) s x a f = help_looks_not h m.scx.0 m.at (sym (ap (λ (t : Step). t.kind) a.asked) ∙ f)
last_looks_not allows c h n _ s x a f = absurd x

-- Any lawful row

module _ (c : Call) (h : History) (r : Row) (n : ℕ) (l : Lawful c.layout (r ⊳ h)) where
  -- what was met, and why the run doesn't read on, stays known
  met_more : (b : Bool) (s : ℕ) → HasMet c h n b s → HasMet c (r ⊳ h) n b s
  met_more b s x = record {
    held = held_more r h (info n) s x.held;
    named = been_more r h c.start _ x.named;
    found = there_more c.pass h c.start n s r x.found;
    finalizes = λ e. finalizing_more c.layout h r n s l (x.finalizes e);
    unmarked = λ e. been_more r h c.start _ (x.unmarked e);
  }

  -- a finished SCX-record leaves the node as it is
  rest_more : (s : ℕ) → IsNamed c.layout h n → IsFinishedUnmarked h n s → IsFinishedUnmarked (r ⊳ h) n s
  rest_more s p x = record { rest = finished_stays c.layout h r s l x.rest; unmarked = unmarked_more c.layout h r n s l p x.rest x.unmarked }

  stopped_more : (b : Bool) (s : ℕ) → IsNamed c.layout h n → HasStopped c h n b s → HasStopped c (r ⊳ h) n b s
  stopped_more b s p x = record { met = met_more b s x.met; disturbed = disturbed_more c.layout h r c.start n s l p x.disturbed }

  -- what is to blame stays so, where the pass does not look again
  to_blame_more : (r.pass.0 ≡ c.pass → r.kind ≢ LoadInfo) → (s : ℕ) → IsToBlame c h n s → IsToBlame c (r ⊳ h) n s
  to_blame_more d s x = record { held = held_more r h (info n) s x.held; found = found_more c.pass h c.start LoadInfo n s r d x.found; in_the_way = earlier r x.in_the_way; not_final = x.not_final }

  -- a state that was read and is not 0 stays
  state_more : (s v : ℕ) → (v ≢ 0 → value h (state s) ≡ v) → v ≢ 0 → value (r ⊳ h) (state s) ≡ v
  state_more s v k d = state_stays c.layout h r s l (λ e. d (sym (k d) ∙ e)) ∙ k d

  -- so what is known at each place stays known
  known_more : (at : LlxAt) → (HasLookedLast at → r.pass.0 ≡ c.pass → r.kind ≢ LoadInfo) → IsNamed c.layout h n → LlxKnows c h n at → LlxKnows c (r ⊳ h) n at
  known_more (Info b) d p k = (λ e. marked_stays c.layout h r n l (k.0 e), λ e. been_more r h c.start _ (k.1 e))
  known_more (State b s) d p k = met_more b s.0 k
  known_more (MarkedAgain b s v) d p k = (met_more b s.0 k.0, state_more s.0 v k.1, λ e. earlier r (k.2 e))
  known_more (AtLeft b s) d p k = (met_more b s.0 k.0, rest_more s.0 p k.1)
  known_more (AtRight b s x) d p k = (met_more b s.0 k.0, rest_more s.0 p k.1, side_more c.layout h r n s.0 x Left l p k.1.rest k.2)
  known_more (InfoAgain b s x y) d p k = (met_more b s.0 k.0, rest_more s.0 p k.1, side_more c.layout h r n s.0 x Left l p k.1.rest k.2, side_more c.layout h r n s.0 y Right l p k.1.rest k.3)
  known_more (StateAgain b s) d p k = stopped_more b s.0 p k
  known_more (Help b m) d p k = record { stopped = stopped_more b m.scx.0 p k.stopped; running = been_more r h c.start _ k.running }
  known_more LastInfo d p k = (k.0, stopped_more false k.0 p k.1)
  known_more (LastState s) d p k = to_blame_more (d tt) s.0 k
  known_more (LastHelp s m) d p k = (to_blame_more (d tt) s.0 k.0, k.1)
  known_more Start d p k = tt
  known_more Marked d p k = tt

  -- a node that the caller may look at is so after the row too
  pub opened_more : IsOpened c.layout h n → IsOpened c.layout (r ⊳ h) n
  opened_more x = record { in_field = in_field_more r n x.in_field; inside = x.inside }

asked_more : (allows : Layout → History → ℕ → Type 0) (c : Call) (h : History) (n : ℕ) (at : LlxAt) (s : Step) (r : Row) → IsRun allows c.layout (r ⊳ h) → r.pass.0 ≢ c.pass → LlxHasAsked allows c h n at s → LlxHasAsked allows c (r ⊳ h) n at s
asked_more allows c h n (Help b m) s r run d a = help_keeps allows m c h s r run d a
asked_more allows c h n (LastHelp i m) s r run d a = help_keeps allows m c h s r run d a
asked_more allows c h n Start s r run d a = a
asked_more allows c h n _ s r run d a = a

-- rows of other passes leave a run of LLX waiting for the same step
pub llx_keeps : (allows : Layout → History → ℕ → Type 0) (m : LlxRun) (c : Call) (h : History) (s : Step) (r : Row) → IsRun allows c.layout (r ⊳ h) → r.pass.0 ≢ c.pass → LlxWaits allows m c h s → LlxWaits allows m c (r ⊳ h) s
llx_keeps allows m c h s r run d w = record {
  opened = opened_more c h r m.node.0 run.lawful w.opened;
  since = inr w.since;
  quiet = quiet_more c.layout c.pass c.start h r (idle_by_others c.layout c.pass h r run.lawful d (w.quiet h (ends_self h) w.since)) w.quiet;
  known = known_more c h r m.node.0 run.lawful m.at (λ _ e. absurd (d e)) (in_field_named m.node.0 w.opened.in_field) w.known;
  asked = asked_more allows c h m.node.0 m.at s r run d w.asked;
}

-- Its steps

-- a load of a word of the table, of its own kind, continues the run
pub load_lawful : (allows : Layout → History → ℕ → Type 0) (c : Call) (h : History) (k : Kind) (w : Word) (s : Step) → IsRun allows c.layout h → s ≡ load k w → Obeys c.layout h (row_of c (load k w) h) k → (k ≡ Freeze → ⊥) → IsWord c.layout w → IsRun allows c.layout (row_of c s h ⊳ h)
load_lawful allows c h k w s run e o d i = rw e record { lawful = x; shaped = shaped_more allows c.layout h (row_of c (load k w) h) x run.shaped (λ u f g. absurd (d g.kind)) }
  where
    x : Lawful c.layout (row_of c (load k w) h ⊳ h)
    x = lawful_more c.layout h (row_of c (load k w) h) run.lawful record { before = refl; obeys = o; pass = c.is_pass; word = i }

-- the state of an SCX-record that an info word has ever named is a word of the table
pub state_inside : (lay : Layout) (h : History) (n s : ℕ) → Lawful lay h → HasHeld h (info n) s → IsWord lay (state s)
state_inside lay h n s l p = (named_scx_inside lay h s l (n, p), tt)

lawful_at : (allows : Layout → History → ℕ → Type 0) (c : Call) (h : History) (n : ℕ) (at : LlxAt) (s : Step) → IsRun allows c.layout h → n < all_nodes c.layout → LlxKnows c h n at → LlxHasAsked allows c h n at s → IsRun allows c.layout (row_of c s h ⊳ h)
lawful_at allows c h n Start s run i k a = absurd a
lawful_at allows c h n Marked s run i k a = load_lawful allows c h LoadMarked (marked n) s run a record { word = tt; same = refl } (λ e. cc) i
lawful_at allows c h n (Info b) s run i k a = load_lawful allows c h LoadInfo (info n) s run a record { word = tt; same = refl } (λ e. cc) i
lawful_at allows c h n (State b u) s run i k a = load_lawful allows c h LoadState (state u.0) s run a record { word = tt; same = refl } (λ e. cc) (state_inside c.layout h n u.0 run.lawful k.held)
lawful_at allows c h n (MarkedAgain b u v) s run i k a = load_lawful allows c h LoadMarked (marked n) s run a record { word = tt; same = refl } (λ e. cc) i
lawful_at allows c h n (AtLeft b u) s run i k a = load_lawful allows c h LoadChild (child n Left) s run a record { word = tt; same = refl } (λ e. cc) i
lawful_at allows c h n (AtRight b u x) s run i k a = load_lawful allows c h LoadChild (child n Right) s run a record { word = tt; same = refl } (λ e. cc) i
lawful_at allows c h n (InfoAgain b u x y) s run i k a = load_lawful allows c h LoadInfo (info n) s run a record { word = tt; same = refl } (λ e. cc) i
lawful_at allows c h n (StateAgain b u) s run i k a = load_lawful allows c h LoadState (state u.0) s run a record { word = tt; same = refl } (λ e. cc) (state_inside c.layout h n u.0 run.lawful k.met.held)
lawful_at allows c h n (Help b m) s run i k a = help_lawful allows m c h s run a
lawful_at allows c h n LastInfo s run i k a = load_lawful allows c h LoadInfo (info n) s run a record { word = tt; same = refl } (λ e. cc) i
lawful_at allows c h n (LastState u) s run i k a = load_lawful allows c h LoadState (state u.0) s run a record { word = tt; same = refl } (λ e. cc) (state_inside c.layout h n u.0 run.lawful k.held)
lawful_at allows c h n (LastHelp u m) s run i k a = help_lawful allows m c h s run a

-- the step that a run of LLX waits for continues the run:
-- it is lawful, and begins only what is allowed
pub llx_lawful : (allows : Layout → History → ℕ → Type 0) (m : LlxRun) (c : Call) (h : History) (s : Step) → IsRun allows c.layout h → LlxWaits allows m c h s → IsRun allows c.layout (row_of c s h ⊳ h)
llx_lawful allows m c h s run w = lawful_at allows c h m.node.0 m.at s run w.opened.inside w.known w.asked

-- What loads find

-- after a load, its word holds what the load found
pub load_told : (c : Call) (h : History) (k : Kind) (w : Word) (s : Step) (v : ℕ) → s ≡ load k w → IsTold s.access (value h s.word) v → value (row_of c s h ⊳ h) w ≡ v
load_told c h k w s v e t =
    let u : v ≡ value h w = rw e at t in
    rw e (value_at (row_of c (load k w) h) h w refl ∙ sym u)

-- a load of an info is the call's last look there, and has found that value
pub load_found : (c : Call) (h : History) (n : ℕ) (s : Step) (v : ℕ) → Extends h c.start → s ≡ load LoadInfo (info n) → IsTold s.access (value h s.word) v → HasFound c.pass (row_of c s h ⊳ h) c.start LoadInfo n v
load_found c h n s v since e t =
    let u : v ≡ value h (info n) = rw e at t in
    record { row = row_of c s h; before = h; since = since; last = last_now c.pass h LoadInfo n (row_of c s h) refl (rw e refl) (rw e refl); found = sym u }

told_at : (allows : Layout → History → ℕ → Type 0) (c : Call) (h : History) (n : ℕ) (at : LlxAt) (s : Step) (v : ℕ) → IsRun allows c.layout (row_of c s h ⊳ h) → IsTold s.access (value h s.word) v → Extends h c.start → LlxHasAsked allows c h n at s → LlxIsTold allows c (row_of c s h ⊳ h) n at v
told_at allows c h n Start s v run t e a = absurd a
told_at allows c h n Marked s v run t e a = load_told c h LoadMarked (marked n) s v a t
told_at allows c h n (Info b) s v run t e a = (load_told c h LoadInfo (info n) s v a t, found_there c.pass (row_of c s h ⊳ h) c.start LoadInfo n v (load_found c h n s v e a t))
told_at allows c h n (State b u) s v run t e a = load_told c h LoadState (state u.0) s v a t
told_at allows c h n (MarkedAgain b u x) s v run t e a = load_told c h LoadMarked (marked n) s v a t
told_at allows c h n (AtLeft b u) s v run t e a = load_told c h LoadChild (child n Left) s v a t
told_at allows c h n (AtRight b u x) s v run t e a = load_told c h LoadChild (child n Right) s v a t
told_at allows c h n (InfoAgain b u x y) s v run t e a = (load_told c h LoadInfo (info n) s v a t, record { row = row_of c s h; before = h; is = refl; since = e; own = refl; kind = rw a refl; word = rw a refl })
told_at allows c h n (StateAgain b u) s v run t e a = load_told c h LoadState (state u.0) s v a t
told_at allows c h n (Help b m) s v run t e a = help_made allows m c h s v run t a
told_at allows c h n LastInfo s v run t e a = (load_told c h LoadInfo (info n) s v a t, load_found c h n s v e a t)
told_at allows c h n (LastState u) s v run t e a = load_told c h LoadState (state u.0) s v a t
told_at allows c h n (LastHelp u m) s v run t e a = help_made allows m c h s v run t a

-- none of the steps that it waits for is a freezing exchange, except for those of HELP
load_idle : (c : Call) (h : History) (k : Kind) (w : Word) (s : Step) → Lawful c.layout (row_of c s h ⊳ h) → s ≡ load k w → (k ≡ Freeze → ⊥) → IsIdle c.layout c.pass h → IsIdle c.layout c.pass (row_of c s h ⊳ h)
load_idle c h k w s l e d idle = idle_by_no_freeze c.layout c.pass h (row_of c s h) l (λ f. d (sym (ap (λ (t : Step). t.kind) e) ∙ f)) idle

-- a pass that was idle is idle after the step for which its run of LLX waits
pub idle_at : (allows : Layout → History → ℕ → Type 0) (c : Call) (h : History) (n : ℕ) (at : LlxAt) (s : Step) → Lawful c.layout (row_of c s h ⊳ h) → LlxKnows c h n at → LlxHasAsked allows c h n at s → IsIdle c.layout c.pass h → IsIdle c.layout c.pass (row_of c s h ⊳ h)
idle_at allows c h n Start s l k a idle = absurd a
idle_at allows c h n Marked s l k a idle = load_idle c h LoadMarked (marked n) s l a (λ e. cc) idle
idle_at allows c h n (Info b) s l k a idle = load_idle c h LoadInfo (info n) s l a (λ e. cc) idle
idle_at allows c h n (State b u) s l k a idle = load_idle c h LoadState (state u.0) s l a (λ e. cc) idle
idle_at allows c h n (MarkedAgain b u v) s l k a idle = load_idle c h LoadMarked (marked n) s l a (λ e. cc) idle
idle_at allows c h n (AtLeft b u) s l k a idle = load_idle c h LoadChild (child n Left) s l a (λ e. cc) idle
idle_at allows c h n (AtRight b u x) s l k a idle = load_idle c h LoadChild (child n Right) s l a (λ e. cc) idle
idle_at allows c h n (InfoAgain b u x y) s l k a idle = load_idle c h LoadInfo (info n) s l a (λ e. cc) idle
idle_at allows c h n (StateAgain b u) s l k a idle = load_idle c h LoadState (state u.0) s l a (λ e. cc) idle
idle_at allows c h n (Help b m) s l k a idle = idle_by_help allows c h m s l a (n, k.stopped.met.held) idle
idle_at allows c h n LastInfo s l k a idle = load_idle c h LoadInfo (info n) s l a (λ e. cc) idle
idle_at allows c h n (LastState u) s l k a idle = load_idle c h LoadState (state u.0) s l a (λ e. cc) idle
idle_at allows c h n (LastHelp u m) s l k a idle = idle_by_help allows c h m s l a (n, rw k.1 k.0.held) idle

-- once the step is made, the run of LLX may be called with what it found
pub llx_made : (allows : Layout → History → ℕ → Type 0) (m : LlxRun) (c : Call) (h : History) (s : Step) (v : ℕ) → IsRun allows c.layout (row_of c s h ⊳ h) → IsTold s.access (value h s.word) v → LlxWaits allows m c h s → LlxIsReady allows m c (row_of c s h ⊳ h) (Some v)
llx_made allows m c h s v run t w = record {
  opened = opened_more c h (row_of c s h) m.node.0 run.lawful w.opened;
  since = inr w.since;
  quiet = quiet_more c.layout c.pass c.start h (row_of c s h) (idle_at allows c h m.node.0 m.at s run.lawful w.known w.asked (w.quiet h (ends_self h) w.since)) w.quiet;
  known = known_more c h (row_of c s h) m.node.0 run.lawful m.at (λ last _. last_looks_not allows c h m.node.0 m.at s last w.asked) (in_field_named m.node.0 w.opened.in_field) w.known;
  told = (told_at allows c h m.node.0 m.at s v run t w.since w.asked, record { row = row_of c s h; before = h; is = refl; since = w.since });
}
