-- How steps of upkeep keep the rule of a table, and how they follow one another.
use Rattle.std.proofs.Common.{◌≡◌, ◌<◌, ◌++◌, ℕ, List, [], ◌∷◌, Option, Some, None, inr, refl, sym, ◌∙◌, ap, subst, append_assoc, arith}
use Rattle.atomic_table.specs.Seated.{TableId}
use Rattle.atomic_table.specs.Table.{Allows, Me, State}
use Rattle.arena.proofs.Lemmas.{ends_self}
use Rattle.histories.specs.Common.{Layout, Row, History, Extends, IsRun, Word}
use Rattle.planting.specs.Plantings.{PlantingView}
use Rattle.slots.specs.Counts.{rests_place}
use Rattle.tables.specs.LastingRule.{LearnsWith, TableLasts}
use Rattle.tables.specs.Ruled.{IsRuled, ruled_by}
use Rattle.tables.specs.Slotted.{names_of_table, slots_by, slots_of_table}
use Rattle.tables.specs.TableRule.{ByOthers, history_of, past_of, seated_pass}
use Rattle.upkeep.specs.UpkeepSteps.{HasGoneOnResting, HasLoadedWord, IsLastingTable, LearnsFrom, LearnsWord, RestsOn}
use Rattle.arena.specs.declared.number.PassNo.{PassNo}
use Rattle.tables.specs.declared.memory.PassMemory.{PassMemory}
use Rattle.tables.specs.declared.rule.Site.{Site}
use Rattle.tables.specs.declared.rule.Turns.{Turns}
use Rattle.tables.specs.declared.view.SeatView.{SeatView}
use Rattle.tables.specs.declared.view.SeatedPass.{SeatedPass}
use Rattle.tables.proofs.Ruled.{same_pass}
use Rattle.tables.proofs.Slotted.{table_is}

-- what the rule of a table that lasts allows, that of its table does
pub lasting_allows : (allows : Layout → History → ℕ → Type 0) (site : Site) (turns : Turns) → site.turns ≡ Some turns → (slots id : ℕ) (me : Me ℕ SeatView) (at : ℕ) (f : ℕ → ℕ) (then : ℕ → Me ℕ SeatView → Type 0) → Allows (TableLasts allows (slots_of_table site) site.planting) slots id me at f then → Allows (IsRuled allows site) slots id me at f then
lasting_allows allows site turns back slots id me at f then = subst (λ (t : Option Turns). Allows (TableLasts allows (slots_by site.layout t) site.planting) slots id me at f then → Allows (ruled_by t allows site) slots id me at f then) (sym back) (λ x. x)

-- a step that tells this tells less
pub allows_less : (holds : State ℕ SeatView → Type 0) (slots id : ℕ) (me : Me ℕ SeatView) (at : ℕ) (f : ℕ → ℕ) (then less : ℕ → Me ℕ SeatView → Type 0) → ((n : ℕ) (w : Me ℕ SeatView) → then n w → less n w) → Allows holds slots id me at f then → Allows holds slots id me at f less
allows_less holds slots id me at f then less to may s kept sized seat fits = let x = may s kept sized seat fits in (x.0, x.1, x.2, x.3, to _ _ x.4)

-- so a step of upkeep is allowed that the rule of a table that lasts allows, and tells what follows
-- from what it tells
pub upkeep_allows : (allows : Layout → History → ℕ → Type 0) (site : Site) (turns : Turns) → site.turns ≡ Some turns → (slots id : ℕ) (me : Me ℕ SeatView) (place at : ℕ) (f : ℕ → ℕ) (learnt less : ℕ → SeatView → Type 0) → place ≡ at → ((n : ℕ) (w : SeatView) → learnt n w → less n w) → Allows (TableLasts allows (slots_of_table site) site.planting) slots id me place f (λ n w. learnt n w.0 × (w.1 ≡ me.1)) → Allows (IsRuled allows site) slots id me at f (λ n w. less n w.0 × (w.1 ≡ me.1))
upkeep_allows allows site turns back slots id me place at f learnt less there to may =
    lasting_allows allows site turns back slots id me at f (λ n w. less n w.0 × (w.1 ≡ me.1))
    (allows_less (TableLasts allows (slots_of_table site) site.planting) slots id me at f (λ n w. learnt n w.0 × (w.1 ≡ me.1)) (λ n w. less n w.0 × (w.1 ≡ me.1)) (λ n w x. (to n w.0 x.0, x.1))
    (subst (λ k. Allows (TableLasts allows (slots_of_table site) site.planting) slots id me k f (λ n w. learnt n w.0 × (w.1 ≡ me.1))) there may))

-- there are as many passes as the layout of the table says
names_passes : (lay : Layout) (t : Option Turns) → (slots_by lay t).lay.passes ≡ lay.passes
names_passes lay None = refl
names_passes lay (Some t) = refl

pub passes_of_table : (site : Site) → (names_of_table site).passes ≡ site.layout.passes
passes_of_table site = names_passes site.layout site.turns

-- the place at which a pass counts its rests, by the layout of the table
pub counts_at : (site : Site) (lay : Layout) (k : ℕ) → site.layout ≡ lay → rests_place (slots_of_table site).table k ≡ rests_place lay k
counts_at site lay k same = ap (λ l. rests_place l k) (table_is site.layout site.turns ∙ same)

-- and it is one of the table's words
pub counts_inside : (id : TableId) (site : Site) (lay : Layout) → IsLastingTable id site lay → (k : ℕ) → k < lay.passes → rests_place lay k < id.words
counts_inside id site lay last k inside = let room = last.room in omega (arith, room)

-- the pass is one of those that the layout of the names has
pub is_pass_of : (id : TableId) (site : Site) (lay : Layout) → IsLastingTable id site lay → (k : ℕ) → k < lay.passes → k < (names_of_table site).passes
is_pass_of id site lay last k = subst (λ n. k < n) (sym (passes_of_table site ∙ ap (λ (l : Layout). l.passes) last.layout))

pub is_own_pass : (id : TableId) (site : Site) (lay : Layout) → IsLastingTable id site lay → (p : SeatedPass) (number : PassNo) → p.number ≡ number → number.0 < lay.passes → p.number.0 < (names_of_table site).passes
is_own_pass id site lay last p number same inside = subst (λ (n : PassNo). n.0 < (names_of_table site).passes) (sym same) (is_pass_of id site lay last number.0 inside)

-- one pass after another

pub extends_known : (planting : PlantingView) (others known : List Row) → Extends (history_of planting (others ++ known)) (history_of planting known)
extends_known planting [] known = ends_self (history_of planting known)
extends_known planting (r ∷ rs) known = inr (extends_known planting rs known)

by_both : (c : ℕ) (a b : List Row) → ByOthers c a → ByOthers c b → ByOthers c (a ++ b)
by_both c [] b x y = y
by_both c (r ∷ rs) b x y = (x.0, by_both c rs b x.1 y)

module _ (allows : Layout → History → ℕ → Type 0) where
  pub rests_still : (p : SeatedPass) → HasGoneOnResting allows p p
  rests_still p = record { number = refl; layout = refl; planting = refl; others = []; by_others = tt; known = refl; sound = λ run. run }

  pub rests_on : (p q r : SeatedPass) → HasGoneOnResting allows p q → HasGoneOnResting allows q r → HasGoneOnResting allows p r
  rests_on p q r x y = record {
    number = y.number ∙ x.number;
    layout = y.layout ∙ x.layout;
    planting = y.planting ∙ x.planting;
    others = y.others ++ x.others;
    by_others = by_both p.number.0 y.others x.others (subst (λ (n : PassNo). ByOthers n.0 y.others) x.number y.by_others) x.by_others;
    known = y.known ∙ ap (λ l. y.others ++ l) x.known ∙ sym (append_assoc y.others x.others p.known);
    sound = λ run. y.sound (x.sound run);
  }

  -- the pass knows more than it did
  pub knows_more : (p q : SeatedPass) → HasGoneOnResting allows p q → Extends (history_of q.planting q.known) (history_of q.planting p.known)
  knows_more p q x = subst (λ l. Extends (history_of q.planting l) (history_of q.planting p.known)) (sym x.known) (extends_known q.planting x.others p.known)

  -- the same of a seat
  pub seat_still : (so : SeatedPass → SeatedPass → Type 0) (p : SeatedPass) (v : SeatView) → v.passes ≡ p ∷ [] → so p p → RestsOn allows so v v
  seat_still so p v one holds = record { pass = p; later = p; was = one; is = one; goes_on = rests_still p; holds = holds }

  pub seat_on : (one two both : SeatedPass → SeatedPass → Type 0) (u v w : SeatView) → ((p q r : SeatedPass) → one p q → two q r → both p r) → RestsOn allows one u v → RestsOn allows two v w → RestsOn allows both u w
  seat_on one two both u v w join x y = from (same_pass v.passes y.pass x.later y.was x.is) y.goes_on y.holds
    where
      from : {z : SeatedPass} → x.later ≡ z → HasGoneOnResting allows z y.later → two z y.later → RestsOn allows both u w
      from e goes holds = record {
        pass = x.pass;
        later = y.later;
        was = x.was;
        is = y.is;
        goes_on = rests_on x.pass x.later y.later x.goes_on (subst (λ k. HasGoneOnResting allows k y.later) (sym e) goes);
        holds = join x.pass x.later y.later x.holds (subst (λ k. two k y.later) (sym e) holds);
      }

  pub seat_as : (one two : SeatedPass → SeatedPass → Type 0) (v w : SeatView) → ((p q : SeatedPass) → HasGoneOnResting allows p q → v.passes ≡ p ∷ [] → one p q → two p q) → RestsOn allows one v w → RestsOn allows two v w
  seat_as one two v w to x = record { pass = x.pass; later = x.later; was = x.was; is = x.is; goes_on = x.goes_on; holds = to x.pass x.later x.goes_on x.was x.holds }

  -- a step by which a seat has learnt how the run goes on
  pub seat_learns : (after : List Row → PassMemory) (so : SeatedPass → SeatedPass → Type 0) (p : SeatedPass) (v w : SeatView) → v.passes ≡ p ∷ [] → LearnsWith allows after v w → ((q : SeatedPass) → HasGoneOnResting allows p q → q.memory ≡ after q.known → so p q) → RestsOn allows so v w
  seat_learns after so p v w one (rows, x) to =
      let q : SeatedPass = seated_pass x.pass.number.0 x.pass.layout x.pass.planting (after rows) rows in
      let goes : HasGoneOnResting allows p q = subst (λ z. HasGoneOnResting allows z q) (same_pass v.passes p x.pass one x.was)
      record { number = refl; layout = refl; planting = refl; others = x.others; by_others = x.by_others; known = x.rows_are; sound = λ run. subst (λ l. IsRun allows x.pass.layout (history_of x.pass.planting l)) (sym x.rows_are) x.run } in
      record { pass = p; later = q; was = one; is = x.is; goes_on = goes; holds = to q goes refl }

  -- so it is where what it remembers is made of what it remembered
  pub seat_from : (after : PassMemory → List Row → PassMemory) (so : SeatedPass → SeatedPass → Type 0) (v w : SeatView) → LearnsFrom allows after v w → ((p q : SeatedPass) → HasGoneOnResting allows p q → q.memory ≡ after p.memory q.known → so p q) → RestsOn allows so v w
  seat_from after so v w x to = seat_learns (after x.0.memory) so x.0 v w x.1 x.2 (to x.0)

  -- what a pass may store at the place at which it counts its rests
  pub own_place_allows : (after : PassMemory → List Row → PassMemory) (id : TableId) (site : Site) (lay : Layout) → IsLastingTable id site lay → (slots seat : ℕ) (me : Me ℕ SeatView) (p : SeatedPass) → me.0.passes ≡ p ∷ [] → (number : PassNo) → p.number ≡ number → (at new stored : ℕ) → at ≡ rests_place lay number.0 → new ≡ stored → Allows (TableLasts allows (slots_of_table site) site.planting) slots seat me (rests_place (slots_of_table site).table p.number.0) (λ _. new) (λ n w. LearnsWith allows (after p.memory) me.0 w.0 × (w.1 ≡ me.1)) → Allows (IsRuled allows site) slots seat me at (λ _. stored) (λ n w. LearnsFrom allows after me.0 w.0 × (w.1 ≡ me.1))
  own_place_allows after id site lay last slots seat me p one number same at new stored there is may =
      subst (λ v. Allows (IsRuled allows site) slots seat me at (λ _. v) (λ n w. LearnsFrom allows after me.0 w.0 × (w.1 ≡ me.1))) is
      (upkeep_allows allows site last.turns last.comes_back slots seat me (rests_place (slots_of_table site).table p.number.0) at (λ _. new) (λ n w. LearnsWith allows (after p.memory) me.0 w) (λ n w. LearnsFrom allows after me.0 w)
      (ap (λ (n : PassNo). rests_place (slots_of_table site).table n.0) same ∙ counts_at site lay number.0 last.layout ∙ sym there)
      (λ n w x. (p, one, x)) may)

-- a word was loaded
pub word_learnt : (allows : Layout → History → ℕ → Type 0) (word : Word) (v w : SeatView) (n : ℕ) → LearnsWord allows word v n w → RestsOn allows (HasLoadedWord word n) v w
word_learnt allows word v w n x = by_pass x.2.learnt.pass (same_pass v.passes x.0 x.2.learnt.pass x.1 x.2.learnt.was) x.2.learnt.others x.2.learnt.by_others x.2.learnt.rows_are x.2.learnt.run x.2.learnt.is
  where
    direct : (others : List Row) → ByOthers x.0.number.0 others → x.2.rows ≡ others ++ x.0.known → IsRun allows x.0.layout (past_of x.0 others) → w.passes ≡ seated_pass x.0.number.0 x.0.layout x.0.planting x.0.memory x.2.rows ∷ [] → RestsOn allows (HasLoadedWord word n) v w
    direct others by rows run is = record {
      pass = x.0;
      later = seated_pass x.0.number.0 x.0.layout x.0.planting x.0.memory x.2.rows;
      was = x.1;
      is = is;
      goes_on = record { number = refl; layout = refl; planting = refl; others = others; by_others = by; known = rows; sound = λ known. subst (λ l. IsRun allows x.0.layout (history_of x.0.planting l)) (sym rows) run };
      holds = record { same = refl; value = x.2.value };
    }

    by_pass : (k : SeatedPass) → k ≡ x.0 → (others : List Row) → ByOthers k.number.0 others → x.2.rows ≡ others ++ k.known → IsRun allows k.layout (past_of k others) → w.passes ≡ seated_pass k.number.0 k.layout k.planting x.0.memory x.2.rows ∷ [] → RestsOn allows (HasLoadedWord word n) v w
    by_pass k e = subst (λ (k : SeatedPass). (others : List Row) → ByOthers k.number.0 others → x.2.rows ≡ others ++ k.known → IsRun allows k.layout (past_of k others) → w.passes ≡ seated_pass k.number.0 k.layout k.planting x.0.memory x.2.rows ∷ [] → RestsOn allows (HasLoadedWord word n) v w) (sym e) direct
