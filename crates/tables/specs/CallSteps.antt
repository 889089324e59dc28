-- Of which call a step of a map is, and that what it fills is dealt, for a rule of the table that
-- relies on it.
use Rattle.std.proofs.Common.{◌≡◌, ◌≤◌, ◌∙◌, ℕ, List, refl, sym, ap, subst, true≢false}
use Rattle.std.proofs.Math.Nat.{le-add_right, lt_of_lt_of_le}
use Rattle.arena.specs.Layout.{IsMap}
use Rattle.arena.specs.declared.limits.Mode.{Mode}
use Rattle.arena.specs.declared.limits.Mode.TheVariants.{Records}
use Rattle.histories.specs.Common.{Layout, Fill, Row, Step, Word, Node, Scx, History, Extends, Call, IsRun, row_of, Remaining}
use Rattle.dict.specs.Calls.{KeepsEnd, share_of}
use Rattle.dict.specs.DictKnown.{DictWaits}
use Rattle.dict.specs.Laws.Taken.{map_fills_taken}
use Rattle.dict.specs.declared.dict.DictRun.{DictRun}
use Rattle.edits.specs.Taken.{FillsTaken}
use Rattle.prims.specs.Shares.{share_end}
use Rattle.resting.specs.Records.{record_of}
use Rattle.touching.specs.Steps.{IsMapStep}
use Rattle.tables.specs.declared.memory.PassMemory.{PassMemory}
use Rattle.tables.specs.declared.rule.CallStep.{CallStep}
use Rattle.tables.specs.declared.view.SeatedPass.{SeatedPass}
use Rattle.tables.specs.LastingMemory.{FillsDealt, IsDealt}
use Rattle.tables.specs.Shares.{EndsAsDealt}
use Rattle.tables.specs.TableRule.{ByOthers, history_of, past_of, row}

-- The step of a pass is one of a map's call of it, whatever rows of others come before: a machine
-- of that call waits for it. The call began when the pass had rested last, or later.
pub record IsOfMapCall (allows : Layout → History → ℕ → Type 0) (said : CallStep) (p : SeatedPass) : Type 0 where
  pub call : Call
  pub layout : call.layout ≡ p.layout
  pub pass : call.pass ≡ p.number.0
  pub number : call.number ≡ said.call
  pub since : Extends call.start (history_of p.planting p.memory.rested)
  pub step : (others : List Row) → ByOthers p.number.0 others → IsRun allows p.layout (past_of p others) → IsMapStep call (past_of p others) (row p.number.0 said (past_of p others))

-- so it is with each step for which the machine of a dictionary waits
pub dict_step : {K V : Type 0} (keys values : ℕ → Type 0) (m : DictRun K V) (c : Call) (h : History) (s : Step) → DictWaits keys values m c h s → IsMapStep c h (row_of c s h)
dict_step keys values m c h s waits = record { tries = m.tries; machine = m.run; step = s; waits = waits.1; is = refl }

-- what it has left of its share ends where the names end that are dealt
abbrev pub HasDictLeft : {K V : Type 0} → DictRun K V → PassMemory → Type 0
HasDictLeft m memory = EndsAsDealt (share_of m.run) memory

-- and does so as long as that ends where it did
pub dict_keeps_left : {K V : Type 0} (old now : DictRun K V) (memory : PassMemory) → KeepsEnd old.run now.run → HasDictLeft old memory → HasDictLeft now memory
dict_keeps_left old now memory end left = end ∙ left

-- then what was taken of the share is dealt
taken_dealt : (left : Remaining) (memory : PassMemory) (s : Step) → EndsAsDealt left memory → FillsTaken left s → (w : Word) → s.word ≡ w → s.kind ≡ Fill → IsDealt memory (record_of w)
unfolding share_end
taken_dealt left memory s end taken (Node n part) is fill = lt_of_lt_of_le (taken.nodes n.0 part fill is) (subst (λ k. left.next_node ≤ k) (ap (λ (e : ℕ × ℕ). e.0) end) (le-add_right left.next_node left.nodes))
taken_dealt left memory s end taken (Scx t part) is fill = lt_of_lt_of_le (taken.records t.0 part fill is) (subst (λ k. left.next_scx ≤ k) (ap (λ (e : ℕ × ℕ). e.1) end) (le-add_right left.next_scx left.scx))

-- and each step for which the machine waits fills only that
pub dict_dealt : {K V : Type 0} (keys values : ℕ → Type 0) (m : DictRun K V) (c : Call) (h : History) (s : Step) (memory : PassMemory) → DictWaits keys values m c h s → HasDictLeft m memory → FillsDealt memory s
dict_dealt keys values m c h s memory waits left = taken_dealt (share_of m.run) memory s left (map_fills_taken m.tries m.run c h s waits.1) s.word refl

-- a table of cells holds no map
pub no_map_of_cells : IsMap Records → ⊥
no_map_of_cells e = absurd (true≢false (sym e))

-- so of their steps nothing is to be said
pub cells_step : (mode : Mode) → (IsMap mode → ⊥) → IsMap mode → (c : Call) (h : History) (s : Step) → IsMapStep c h (row_of c s h)
cells_step mode none map c h s = absurd (none map)

-- nor is anything said of what their machines have left
abbrev pub AnyLeft : {M : Type 0} → M → PassMemory → Type 0
AnyLeft m memory = Unit {0}

pub cells_dealt : (mode : Mode) → (IsMap mode → ⊥) → IsMap mode → (memory : PassMemory) (s : Step) → FillsDealt memory s
cells_dealt mode none map memory s = absurd (none map)
