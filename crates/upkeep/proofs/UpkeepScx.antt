-- How a pass sees that an SCX-record of its own is dead.
use Rattle.std.proofs.Common.{◌≡◌, ◌<◌, ◌+◌, ◌++◌, ℕ, true, List, [], ◌∷◌, inl, inr, refl, sym, ◌∙◌, ap, subst, arith}
use native.Mathlib.Decide.{ℕ_discrete}
use Rattle.arena.proofs.Lemmas.{ends_self, ends_trans, scx_word_apart}
use Rattle.arena.specs.ScxRecords.{count, count_of, member, plan_finalizes}
use Rattle.arena.specs.declared.word.ScxWord.TheVariants.{Plan}
use Rattle.histories.proofs.Lemmas.{by_final, committed_won}
use Rattle.resting.specs.Dead.{WasDoneWith}
use Rattle.histories.specs.Common.{AllFrozen, Extends, History, IsOwnScx, IsRun, Lawful, Layout, Remaining, Row, ScxWord, State, scx, value}
use Rattle.planting.specs.Plantings.{PlantingView}
use Rattle.slots.specs.Lasting.{Lasting}
use Rattle.tables.specs.LastingNotes.{IsAmongThese, noted_as}
use Rattle.tables.specs.TableRule.{ByOthers, history_of, past_of, seated_pass}
use Rattle.upkeep.specs.UpkeepBook.{IsNameIn, KeepsOthers, KnowsNow, memory_with_note, name_numbered, record_numbered}
use Rattle.upkeep.specs.UpkeepDeals.{HasShareLeft}
use Rattle.upkeep.specs.UpkeepScx.{HasLoaded, IsDoneNoted, IsDoneTo, IsRemoval, LearnsPart}
use Rattle.upkeep.specs.UpkeepSteps.{HasGoneOnResting, RestsOn}
use Rattle.tables.specs.declared.memory.NoteView.TheVariants.{DoneWith, MarkedOrDead}
use Rattle.tables.specs.declared.memory.PassMemory.{PassMemory}
use Rattle.upkeep.specs.declared.book.SlotUse.TheVariants.{Found, Used}
use Rattle.upkeep.specs.declared.kind.RecordKind.TheVariants.{Scx}
use Rattle.tables.specs.declared.view.SeatedPass.{SeatedPass}
use Rattle.tables.specs.declared.view.SeatView.{SeatView}
use Rattle.upkeep.proofs.LastingFinished.{own_word_behind}
use Rattle.tables.proofs.Ruled.{same_pass}
use Rattle.upkeep.proofs.UpkeepBook.{rests_same, spares_note, spares_same}
use Rattle.upkeep.proofs.UpkeepTurn.{keeps_on, known_on, name_stays}

-- what remembers the same is what it was
pub name_loaded : (allows : Layout → History → ℕ → Type 0) (t : Lasting) (p q : SeatedPass) (slot s n : ℕ) (part : ScxWord) → HasGoneOnResting allows p q → HasLoaded s part n p q → IsNameIn t p.number.0 p.memory Scx slot s → IsNameIn t q.number.0 q.memory Scx slot s
name_loaded allows t p q slot s n part goes x name = name_stays allows p q goes t Scx slot s (ap (λ (m : PassMemory). m.holds) x.same) name

-- other passes leave the words of an own SCX-record as they are
word_stays : (allows : Layout → History → ℕ → Type 0) (p q : SeatedPass) (left : Remaining) (s : ℕ) → HasGoneOnResting allows p q → HasShareLeft allows q left → IsOwnScx p.layout p.number.0 s → value (past_of q []) (scx s Plan) ≡ value (past_of p []) (scx s Plan)
word_stays allows p q left s goes has own = ap (λ h. value h (scx s Plan)) run_is ∙ own_word_behind p.layout p.planting p.number.0 s Plan goes.others p.known (subst (Lawful p.layout) run_is (subst (λ (l : Layout). Lawful l (past_of q [])) goes.layout has.run.lawful)) goes.by_others own (λ u. scx_word_apart u s State Plan refl) (λ u. scx_word_apart u s AllFrozen Plan refl)
  where
    run_is : past_of q [] ≡ history_of p.planting (goes.others ++ p.known)
    run_is = ap (λ (l : PlantingView). history_of l q.known) goes.planting ∙ ap (history_of p.planting) goes.known

pub plan_stays : (allows : Layout → History → ℕ → Type 0) (p q : SeatedPass) (left : Remaining) (s : ℕ) → HasGoneOnResting allows p q → HasShareLeft allows q left → IsOwnScx p.layout p.number.0 s → count (past_of q []) s ≡ count (past_of p []) s
plan_stays allows p q left s goes has own = ap count_of (word_stays allows p q left s goes has own)

-- a committed SCX-record is done with what it has removed
removed_done : (lay : Layout) (h : History) (s plan_is i : ℕ) → Lawful lay h → value h (scx s Plan) ≡ plan_is → IsRemoval (value h (scx s State)) plan_is i → WasDoneWith lay h s i
removed_done lay h s plan_is i lawful same x = (
  h,
  ends_self h,
  (λ e. let z : 1 ≡ 0 = sym x.0 ∙ e in omega (arith, z)),
  inr (inl (by_final lay h (member h s i) s lawful record {
    won = committed_won lay h s lawful x.0;
    removed = record {
      index = i;
      within = subst (λ n. i < count_of n) (sym same) x.1;
      is = refl;
      removed = subst (λ n. plan_finalizes n i ≡ true) (sym same) x.2;
    };
  })),
)

done_since : (lay : Layout) (h k : History) (s i : ℕ) → Extends k h → WasDoneWith lay h s i → WasDoneWith lay k s i
done_since lay h k s i e x = (x.0, ends_trans k h x.0 e x.1, x.2, x.3)

module _ (allows : Layout → History → ℕ → Type 0) (t : Lasting) (slot s number state_is plan_is : ℕ) where
  kept_same : (p q : SeatedPass) → q.memory ≡ p.memory → KeepsOthers t (record_numbered Scx slot) p q
  kept_same p q e = subst (λ (m : PassMemory). KeepsOthers t (record_numbered Scx slot) p record q { memory = m }) (sym e) record { rests = rests_same p.memory; others = spares_same t (λ k. k ≡ record_numbered Scx slot) p.memory }

  -- at first its plan is loaded, and its state
  pub none_done : (p q r : SeatedPass) (left : Remaining) → number ≡ count_of plan_is → HasGoneOnResting allows q r → HasShareLeft allows r left → IsOwnScx q.layout q.number.0 s → HasLoaded s Plan plan_is p q → HasLoaded s State state_is q r → IsDoneTo t slot s number state_is plan_is 0 p r
  none_done p q r left e goes has own x y = record {
    keeps = kept_same p r (y.same ∙ x.same);
    holds = ap (λ (m : PassMemory). m.holds) (y.same ∙ x.same);
    nodes = ap count_of (word_stays allows q r left s goes has own ∙ x.value) ∙ sym e;
    done = λ i less. absurd (omega (arith, less));
    removed = λ i z. removed_done r.layout (past_of r []) s plan_is i has.run.lawful (word_stays allows q r left s goes has own ∙ x.value) (y.value ∙ z.0, z.1, z.2);
  }

  -- then it is done with one node more
  pub one_done : (j : ℕ) (p q r : SeatedPass) → IsDoneTo t slot s number state_is plan_is j p q → HasGoneOnResting allows q r → count (past_of r []) s ≡ count (past_of q []) s → r.memory ≡ memory_with_note q.memory (name_numbered Scx s) (DoneWith j) → IsDoneTo t slot s number state_is plan_is (j + 1) p r
  one_done j p q r x goes same e = subst (λ (m : PassMemory). count (past_of r []) s ≡ number → IsDoneTo t slot s number state_is plan_is (j + 1) p record r { memory = m }) (sym e) (λ nodes. record {
    keeps = keeps_on t Scx slot p q record r { memory = memory_with_note q.memory (name_numbered Scx s) (DoneWith j) } x.keeps record { rests = record { rested = refl; away = refl; often = refl; polls = refl; nodes_to = refl; scx_to = refl }; others = spares_note t (λ k. k ≡ record_numbered Scx slot) q.memory (name_numbered Scx s) (DoneWith j) };
    holds = x.holds;
    nodes = nodes;
    done = λ i less. at i less (ℕ_discrete i j);
    removed = λ i z. subst (λ (l : Layout). WasDoneWith l (past_of r []) s i) (sym goes.layout) (done_since q.layout (past_of q []) (past_of r []) s i (known_on allows q r goes) (x.removed i z));
  }) (same ∙ x.nodes)
    where
      at : (i : ℕ) → i < j + 1 → Dec (i ≡ j) → IsDoneNoted (memory_with_note q.memory (name_numbered Scx s) (DoneWith j)) s i
      at i less (yes e) = inl (ap (λ k. noted_as (name_numbered Scx s) (DoneWith k)) e)
      at i less (no d) = inr (x.done i (omega (arith, less, d)))

  -- or it is not
  pub not_done : (j name : ℕ) (p q r : SeatedPass) → IsDoneTo t slot s number state_is plan_is j p q → HasGoneOnResting allows p r → r.memory ≡ q.memory → IsNameIn t p.number.0 p.memory Scx slot s → KnowsNow t Scx slot record { name = s; known = Used } p r
  not_done j name p q r x goes e named = record {
    keeps = keeps_on t Scx slot p q r x.keeps (kept_same q r e);
    so = name_stays allows p r goes t Scx slot s (ap (λ (m : PassMemory). m.holds) e ∙ x.holds) named;
  }

  -- all is done
  pub over_now : (j : ℕ) (p q r : SeatedPass) → IsDoneTo t slot s number state_is plan_is j p q → HasGoneOnResting allows p r → r.memory ≡ memory_with_note q.memory (name_numbered Scx s) (MarkedOrDead r.known) → IsNameIn t p.number.0 p.memory Scx slot s → KnowsNow t Scx slot record { name = s; known = Found } p r
  over_now j p q r x goes e named = record {
    keeps = keeps_on t Scx slot p q r x.keeps (subst (λ (m : PassMemory). KeepsOthers t (record_numbered Scx slot) q record r { memory = m }) (sym e) record { rests = record { rested = refl; away = refl; often = refl; polls = refl; nodes_to = refl; scx_to = refl }; others = spares_note t (λ k. k ≡ record_numbered Scx slot) q.memory (name_numbered Scx s) (MarkedOrDead r.known) });
    so = (
      name_stays allows p r goes t Scx slot s (ap (λ (m : PassMemory). m.holds) e ∙ x.holds) named,
      record { rows = r.known; noted = subst (λ (m : PassMemory). IsAmongThese (noted_as (name_numbered Scx s) (MarkedOrDead r.known)) m.notes) (sym e) (inl refl); before = ends_self (past_of r []) },
    );
  }
