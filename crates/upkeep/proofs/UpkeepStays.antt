-- What a pass has taken and was never put in stays out of the tree and the trie while the pass rests,
-- and while its slots get names.
use Rattle.std.proofs.Common.{◌≡◌, ◌≢◌, ◌<◌, ◌++◌, ◌⊎◌, ◌∙◌, ℕ, List, [], ◌∷◌, inl, inr, arith, subst, sym}
use Rattle.arena.proofs.Lemmas.{ends_self}
use Rattle.arena.specs.declared.number.PassNo.{PassNo}
use Rattle.edits.specs.Laws.Entered.{none_quiet}
use Rattle.edits.specs.Tries.{HasEnteredNone}
use Rattle.histories.specs.Common.{Abort, Extends, Fill, Freeze, History, IsOwnNode, IsRun, Kind, Lawful, Layout, Row, ◌⊳◌}
use Rattle.histories.proofs.Lemmas.{lawful_tail}
use Rattle.ordered_map.specs.Paths.{WasInTree}
use Rattle.ordered_map.specs.Runs.{IsMapRun}
use Rattle.planting.specs.Plantings.{PlantingView}
use Rattle.prims.specs.Laws.Idle.{IsIdle, IsQuietSince, idle_by_no_freeze, idle_by_others, idle_if_over, quiet_at_start, quiet_more}
use Rattle.prims.specs.Moments.{AreFinished}
use Rattle.resting.specs.Dead.{IsUnborn}
use Rattle.resting.proofs.Lemmas.{taken_node_since}
use Rattle.tables.specs.Passes.{Each}
use Rattle.tables.specs.TableRule.{history_of, past_of}
use Rattle.upkeep.specs.UpkeepDeals.{HasGoneOnDealing, IsOfNoCall}
use Rattle.upkeep.specs.UpkeepKeeper.{StaysOut}
use Rattle.tables.specs.declared.view.SeatedPass.{SeatedPass}
use Rattle.upkeep.proofs.UpkeepSteps.{extends_known}

-- a node that was never there is not there yet if its pass has entered nothing since
abbrev pub PutsInNone : Type 0
PutsInNone = (lay : Layout) (h start : History) (p n : ℕ) → p < lay.passes → IsMapRun lay h → IsOwnNode lay p n → ¬ WasInTree start n → Extends h start → HasEnteredNone lay p h start → ¬ WasInTree h n

pub out_still : PutsInNone → (lay : Layout) (o : ℕ) (h start : History) → o < lay.passes → IsMapRun lay h → Extends h start → HasEnteredNone lay o h start → (n : ℕ) → IsUnborn lay o start n → IsUnborn lay o h n
out_still law lay o h start is_pass run since none n x = record {
  own = x.own;
  taken = taken_node_since h start n since x.taken;
  never = law lay h start o n is_pass run x.own x.never since none;
}

-- Rows of others, and of no call

no_freeze : (k : Kind) → (k ≡ Fill) ⊎ (k ≡ Abort) → k ≢ Freeze
no_freeze k (inl e) f = let z : Fill ≡ Freeze = sym e ∙ f in cc
no_freeze k (inr e) f = let z : Abort ≡ Freeze = sym e ∙ f in cc

idle_more : (lay : Layout) (o : ℕ) (h : History) (r : Row) → Lawful lay (r ⊳ h) → IsOfNoCall o r → IsIdle lay o h → IsIdle lay o (r ⊳ h)
idle_more lay o h r l (inl other) idle = idle_by_others lay o h r l other idle
idle_more lay o h r l (inr x) idle = idle_by_no_freeze lay o h r l (no_freeze r.kind x.1) idle

quiet_on : (lay : Layout) (o : ℕ) (planting : PlantingView) (more known : List Row) → Lawful lay (history_of planting (more ++ known)) → Each (IsOfNoCall o) more → IsIdle lay o (history_of planting known) → IsQuietSince lay o (history_of planting known) (history_of planting (more ++ known))
quiet_on lay o planting [] known l none idle = quiet_at_start lay o (history_of planting known) idle
quiet_on lay o planting (r ∷ rs) known l none idle =
    let h : History = history_of planting (rs ++ known) in
    let before : IsQuietSince lay o (history_of planting known) h = quiet_on lay o planting rs known (lawful_tail lay h r l) none.1 idle in
    quiet_more lay o (history_of planting known) h r (idle_more lay o h r l none.0 (before h (ends_self h) (extends_known planting rs known))) before

-- so a pass that was between two calls has put in none
pub stays_out : PutsInNone → (p q : SeatedPass) → HasGoneOnDealing p q → p.number.0 < p.layout.passes → AreFinished p.layout p.number.0 0 (past_of p []) → Lawful p.layout (past_of p []) → IsMapRun p.layout (past_of q []) → StaysOut p q
stays_out law p q goes is_pass over before run n x =
    let o : ℕ = p.number.0 in
    let is : past_of q [] ≡ history_of p.planting (goes.more ++ p.known) = (λ i. history_of (goes.planting i) (goes.known i)) in
    let now : IsMapRun p.layout (history_of p.planting (goes.more ++ p.known)) = subst (IsMapRun p.layout) is run in
    let idle : IsIdle p.layout o (past_of p []) = idle_if_over p.layout o (past_of p []) before (λ s own taken. over s own (λ e. let a = own.from in omega (arith, a, e)) taken) in
    subst (λ h. IsUnborn p.layout o h n) (sym is)
    (out_still law p.layout o (history_of p.planting (goes.more ++ p.known)) (past_of p []) is_pass now (extends_known p.planting goes.more p.known)
    (none_quiet p.layout o (history_of p.planting (goes.more ++ p.known)) (past_of p []) now.1.lawful (quiet_on p.layout o p.planting goes.more p.known now.1.lawful goes.of_no_call idle)) n x)

-- what a pass knows is a run of a map, if each run is
pub map_then : (allows : Layout → History → ℕ → Type 0) (lay : Layout) (q : SeatedPass) → q.layout ≡ lay → ((h : History) → IsRun allows lay h → IsMapRun lay h) → IsRun allows q.layout (past_of q []) → IsMapRun lay (past_of q [])
map_then allows lay q same maps run = maps (past_of q []) (subst (λ (l : Layout). IsRun allows l (past_of q [])) same run)
