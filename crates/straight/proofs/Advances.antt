-- What a machine's laws make of a step under the rule.
use Rattle.std.proofs.Common.{◌≡◌, ◌≢◌, ◌<◌, ◌≤◌, ℕ, suc, false, List, [], ◌∷◌, ◌++◌, length, inr, sym, ap, refl, ◌∙◌, subst, eq-eqb, ne_eqb, arith}
use Rattle.histories.specs.Common.{Layout, Row, Step, Turn, Ask, Done, IsWord, History, ◌⊳◌, Extends, value, Lawful, Call, IsRun, IsTold, MatchTurn, row_of, Shaped, taken_nodes}
use Rattle.arena.proofs.Lemmas.{ends_self, ends_trans, taken_few}
use Rattle.histories.proofs.Lemmas.{lawful_row}
use Rattle.planting.specs.Plantings.{PlantingView}
use Rattle.touching.specs.Steps.{IsMapStep}
use Rattle.tables.specs.LastingMemory.{FillsDealt}
use Rattle.tables.specs.LastingRule.{MayStepOn}
use Rattle.tables.specs.declared.rule.CallStep.{CallStep}
use Rattle.tables.specs.declared.memory.PassMemory.{PassMemory}
use Rattle.tables.specs.declared.view.SeatedPass.{SeatedPass}
use Rattle.tables.specs.TableRule.{history_of, past_of, seated_pass, ByOthers, MayStep, Made, row}
use Rattle.tables.specs.Traces.{HoldsForCall, IsInCall, IsSeated, known_of, planting_of, rest_at, memory_of, rows_of, run_at, seat_steps, shared_nodes, weight}

-- a run without its last row is a run
pub run_before : (allows : Layout → History → ℕ → Type 0) (lay : Layout) (h : History) (r : Row) → IsRun allows lay (r ⊳ h) → IsRun allows lay h
unfolding Lawful Shaped
run_before allows lay h r run = record { lawful = run.lawful.0; shaped = run.shaped.0 }

-- what rows of others keep holds after all of them
pub keeps_all : (allows : Layout → History → ℕ → Type 0) (lay : Layout) (c : ℕ) (P : History → Type 0) (planting : PlantingView) → ((h : History) (r : Row) → IsRun allows lay (r ⊳ h) → r.pass.0 ≢ c → P h → P (r ⊳ h)) → (rows known : List Row) → ByOthers c rows → IsRun allows lay (history_of planting (rows ++ known)) → P (history_of planting known) → P (history_of planting (rows ++ known))
keeps_all allows lay c P planting keeps [] known by run x = x
keeps_all allows lay c P planting keeps (r ∷ rs) known by run x = keeps (history_of planting (rs ++ known)) r run by.0 (keeps_all allows lay c P planting keeps rs known by.1 (run_before allows lay (history_of planting (rs ++ known)) r run) x)

-- the one pass of a seat, by what it knows
pub seat_back : (ps : List SeatedPass) (n : ℕ) (lay : Layout) (planting : PlantingView) (memory : PassMemory) (known : List Row) → ps ≡ seated_pass n lay planting memory known ∷ [] → Extends (history_of planting known) (history_of planting memory.rested) → memory.away ≡ false → IsSeated n lay ps
seat_back ps n lay planting memory known e since there = record {
  alone = subst (λ (qs : List SeatedPass). ps ≡ seated_pass n lay (planting_of qs) (memory_of qs) (known_of qs) ∷ []) (sym e) e;
  since = subst (λ (qs : List SeatedPass). Extends (run_at qs) (rest_at qs)) (sym e) since;
  there = subst (λ (qs : List SeatedPass). (memory_of qs).away ≡ false) (sym e) there;
}

-- each pass has rested last after all rows of which it knew, or before
pub since_start : (planting : PlantingView) (rows : List Row) → Extends (history_of planting rows) (history_of planting [])
since_start planting [] = ends_self (history_of planting [])
since_start planting (r ∷ rs) = inr (since_start planting rs)

-- so it is after a call
pub call_back : {left : PassMemory → Type 0} (ps : List SeatedPass) (c : Call) (planting : PlantingView) (known : List Row) → IsInCall left ps c planting known → Extends (history_of planting known) c.start → IsSeated c.pass c.layout ps
call_back ps c planting known x since = seat_back ps c.pass c.layout planting x.memory known x.alone (ends_trans (history_of planting known) c.start (history_of planting x.memory.rested) since x.since) x.there

first_or : SeatedPass → List SeatedPass → SeatedPass
first_or p [] = p
first_or p (q ∷ qs) = q

pub same_knower : (ps : List SeatedPass) (p q : SeatedPass) → ps ≡ p ∷ [] → ps ≡ q ∷ [] → p ≡ q
unfolding first_or
same_knower ps p q a b = ap (first_or p) (sym a ∙ b)

-- what is so together with something else is so
abbrev pub called_so : {allows : Layout → History → ℕ → Type 0} {left : PassMemory → Type 0} {ps : List SeatedPass} {c : Call} {P Q : History → Type 0} → HoldsForCall allows left ps c (λ h. P h × Q h) → HoldsForCall allows left ps c P
called_so x = record { planting = x.planting; known = x.known; is = x.is; sound = x.sound; so = x.so.0 }

-- the row of the step is that of its call
row_is : (c : Call) (said : CallStep) → c.number ≡ said.call → (h : History) → row_of c said.step h ≡ row c.pass said h
row_is c said called h = ap (λ (n : ℕ). row c.pass (record said { call = n }) h) called

module _ (allows : Layout → History → ℕ → Type 0) {left : PassMemory → Type 0} (c : Call) (said : CallStep) (called : c.number ≡ said.call) where
  -- the pass of the call, as the seat knows it
  abbrev knower : {ps : List SeatedPass} {P : History → Type 0} → HoldsForCall allows left ps c P → SeatedPass
  knower x = seated_pass c.pass c.layout x.planting x.is.memory x.known

  may_step : (ps : List SeatedPass) (waits : History → Type 0) → ((h : History) (r : Row) → IsRun allows c.layout (r ⊳ h) → r.pass.0 ≢ c.pass → waits h → waits (r ⊳ h)) → ((h : History) → IsRun allows c.layout h → waits h → IsRun allows c.layout (row_of c said.step h ⊳ h)) → (x : HoldsForCall allows left ps c waits) → MayStep allows said (knower x)
  may_step ps waits keeps lawful x = λ rows by run. subst (λ r. IsRun allows c.layout (r ⊳ history_of x.planting (rows ++ x.known))) (row_is c said called (history_of x.planting (rows ++ x.known))) (lawful (history_of x.planting (rows ++ x.known)) run (keeps_all allows c.layout c.pass waits x.planting keeps rows x.known by run x.so))

  pub may : (ps : List SeatedPass) (waits : History → Type 0) → ((h : History) (r : Row) → IsRun allows c.layout (r ⊳ h) → r.pass.0 ≢ c.pass → waits h → waits (r ⊳ h)) → ((h : History) → IsRun allows c.layout h → waits h → IsRun allows c.layout (row_of c said.step h ⊳ h)) → HoldsForCall allows left ps c waits → (p : SeatedPass) × (ps ≡ p ∷ []) × MayStep allows said p
  may ps waits keeps lawful x = (knower x, x.is.alone, may_step ps waits keeps lawful x)

  -- in a map it is one of a map's call, and where what it fills is dealt it may be made in a table
  -- that lasts
  pub may_in_map : (ps : List SeatedPass) (waits : History → Type 0) → ((h : History) (r : Row) → IsRun allows c.layout (r ⊳ h) → r.pass.0 ≢ c.pass → waits h → waits (r ⊳ h)) → ((h : History) → IsRun allows c.layout h → waits h → IsRun allows c.layout (row_of c said.step h ⊳ h)) → ((h : History) → waits h → IsMapStep c h (row_of c said.step h)) → (x : HoldsForCall allows left ps c waits) → FillsDealt x.is.memory said.step → (p : SeatedPass) × (ps ≡ p ∷ []) × MayStepOn allows said p
  may_in_map ps waits keeps lawful steps x dealt = (
    knower x,
    x.is.alone,
    record {
      may = may_step ps waits keeps lawful x;
      of_call = record {
        call = c;
        layout = refl;
        pass = refl;
        number = called;
        since = x.is.since;
        step = λ rows by run. let h : History = history_of x.planting (rows ++ x.known) in subst (λ r. IsMapStep c h r) (row_is c said called h) (steps h (keeps_all allows c.layout c.pass waits x.planting keeps rows x.known by run x.so));
      };
      there = x.is.there;
      dealt = dealt;
    },
  )

  -- its word is one of the table
  pub word_of : (ps : List SeatedPass) (waits : History → Type 0) → ((h : History) → IsRun allows c.layout h → waits h → IsRun allows c.layout (row_of c said.step h ⊳ h)) → HoldsForCall allows left ps c waits → IsWord c.layout said.step.word
  word_of ps waits lawful x = (lawful_row c.layout (history_of x.planting x.known) (row_of c said.step (history_of x.planting x.known)) (lawful (history_of x.planting x.known) x.sound x.so).lawful).word

  -- what it has made of what was so
  pub told : (ps qs : List SeatedPass) (n : ℕ) (P Q : History → Type 0) → ((h : History) (r : Row) → IsRun allows c.layout (r ⊳ h) → r.pass.0 ≢ c.pass → P h → P (r ⊳ h)) → ((h : History) → IsRun allows c.layout (row_of c said.step h ⊳ h) → IsTold said.step.access (value h said.step.word) n → P h → Q (row_of c said.step h ⊳ h)) → Made allows said ps n qs → HoldsForCall allows left ps c P → HoldsForCall allows left qs c Q
  told ps qs n P Q keeps goes m x = from (sym (same_knower ps (seated_pass c.pass c.layout x.planting x.is.memory x.known) m.pass x.is.alone m.was)) m.others m.by_others m.before m.after m.told m.is
    where
      from : {p : SeatedPass} → p ≡ seated_pass c.pass c.layout x.planting x.is.memory x.known → (rows : List Row) → ByOthers p.number.0 rows → IsRun allows p.layout (past_of p rows) → IsRun allows p.layout (row p.number.0 said (past_of p rows) ⊳ past_of p rows) → IsTold said.step.access (value (past_of p rows) said.step.word) n → qs ≡ seated_pass p.number.0 p.layout p.planting p.memory (row p.number.0 said (past_of p rows) ∷ (rows ++ p.known)) ∷ [] → HoldsForCall allows left qs c Q
      from {p} e rows by before after tells is =
          let h : History = history_of x.planting (rows ++ x.known) in
          let by' : ByOthers c.pass rows = rw e at by in
          let before' : IsRun allows c.layout h = rw e at before in
          let after' : IsRun allows c.layout (row_of c said.step h ⊳ h) = rw (row_is c said called h) (rw e at after) in
          let tells' : IsTold said.step.access (value h said.step.word) n = rw e at tells in
          let is' : qs ≡ seated_pass c.pass c.layout x.planting x.is.memory (row c.pass said h ∷ (rows ++ x.known)) ∷ [] = rw e at is in
          let done : Q (row_of c said.step h ⊳ h) = goes h after' tells' (keeps_all allows c.layout c.pass P x.planting keeps rows x.known by' before' x.so) in
          record { planting = x.planting; known = row c.pass said h ∷ (rows ++ x.known); is = record { memory = x.is.memory; alone = is'; since = x.is.since; there = x.is.there; left = x.is.left }; sound = rw (row_is c said called h) at after'; so = rw (row_is c said called h) at done }

pub turn_map : {A : Type 0} (t : Turn A) (F F' : Step → Type 0) (H H' : A → Type 0) → ((s : Step) → F s → F' s) → ((a : A) → H a → H' a) → MatchTurn t F H → MatchTurn t F' H'
turn_map (Ask s) F F' H H' f h x = f s x
turn_map (Done a) F F' H H' f h x = h a x

-- Steps are counted

pub rows_by_others : (c : ℕ) (rows known : List Row) → ByOthers c rows → rows_of c (rows ++ known) ≡ rows_of c known
rows_by_others c [] known h = refl
rows_by_others c (r ∷ rs) known h = rw (ne_eqb r.pass.0 c h.0) (rows_by_others c rs known h.1)

pub one_step : (allows : Layout → History → ℕ → Type 0) (said : CallStep) (ps qs : List SeatedPass) (n : ℕ) → Made allows said ps n qs → seat_steps qs ≡ suc (seat_steps ps)
one_step allows said ps qs n m = ap seat_steps m.is ∙ rw (eq-eqb m.pass.number.0 m.pass.number.0 refl) (ap suc (rows_by_others m.pass.number.0 m.others m.pass.known m.by_others ∙ sym (ap seat_steps m.was)))

pub weighs : {A : Type 0} (t : Turn A) (n m : ℕ) → MatchTurn t (λ s. n < m) (λ a. Unit {0}) → weight t n ≤ m
weighs (Ask s) n m h = omega arith
weighs (Done a) n m h = omega arith

-- a run takes no more nodes than all shares have
pub few_taken : (allows : Layout → History → ℕ → Type 0) (lay : Layout) (c : Call) (h : History) → c.layout ≡ lay → IsRun allows c.layout h → length (taken_nodes h) ≤ shared_nodes lay
few_taken allows lay c h e run = subst (λ (l : Layout). length (taken_nodes h) ≤ shared_nodes l) e (taken_few c.layout h run.lawful)
