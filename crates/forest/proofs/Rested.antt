-- What a pass has after it has rested, has gone away, or is back.
use Rattle.std.proofs.Common.{◌≡◌, ◌≢◌, ◌++◌, ◌∙◌, ◌<◌, ℕ, false, List, [], ◌∷◌, Option, Some, ap, arith, inl, inr, refl, subst, sym}
use Rattle.atomic_table.specs.Seated.{TableId}
use Rattle.atomic_table.specs.declared.shared.Seat.{Seat}
use Rattle.arena.proofs.Lemmas.{ends_self}
use Rattle.arena.specs.Layout.{IsMap}
use Rattle.histories.specs.Common.{Extends, History, IsOwnScx, IsRun, Lawful, Layout, Mode, Remaining, Row, log}
use Rattle.planting.specs.Plantings.{PlantingView}
use Rattle.prims.specs.Moments.{AreFinished}
use Rattle.slots.specs.Lasting.{Lasting}
use Rattle.tables.specs.declared.rule.Site.{Site}
use Rattle.upkeep.specs.declared.keeper.Keeper.{Keeper}
use Rattle.forest.specs.declared.kept.PassKeeper.{PassKeeper}
use Rattle.tables.specs.declared.view.SeatView.{SeatView}
use Rattle.tables.specs.declared.view.SeatedPass.{SeatedPass}
use Rattle.tables.specs.declared.words.Words.{Words}
use Rattle.tables.specs.Passes.{Each, HoldsOfOwn, IsLaterView}
use Rattle.forest.specs.PassInvariant.{IsPassWith, seated_at, view_with}
use Rattle.forest.specs.Rests.{HasOnlyRested}
use Rattle.tables.specs.Shares.{EndsAsDealt, HasFewNames, IsBetweenCalls, entries_of}
use Rattle.tables.specs.Slotted.{in_turns, names_of_table, slots_by, slots_of_table}
use Rattle.tables.specs.TableRule.{dealt_to, history_of, past_of, seated_pass}
use Rattle.tables.specs.Traces.{IsSeated, IsSeatedOrAway, known_of, memory_of, planting_of, rest_at, rows_of, run_at}
use Rattle.upkeep.specs.UpkeepBook.{IsAtLasting, KnowsRest}
use Rattle.tables.specs.Seats.{IsSameSeat}
use Rattle.upkeep.specs.UpkeepDeals.{DealsOn, HasGoneOnDealing, HasShareLeft, IsOfNoCall}
use Rattle.forest.specs.UpkeepKept.{ComesBack, HasComeBack, HasGoneAway, KeepsRight}
use Rattle.upkeep.specs.UpkeepKeeper.{DealsNoMore, IsBetween, IsKeeper, IsSetNow, IsSetToCall}
use Rattle.upkeep.specs.UpkeepSteps.{HasGoneOnResting, IsLastingTable, RestsOn}
use Rattle.straight.proofs.Advances.{rows_by_others}
use Rattle.forest.proofs.Blames.{blamed_later}
use Rattle.forest.proofs.Called.{own_more, own_start}
use Rattle.forest.proofs.Passes.{can_use_later}
use Rattle.upkeep.proofs.UpkeepDeals.{resting_deals}
use Rattle.upkeep.proofs.UpkeepSet.{ends_still, from_dealing, is_between, left_rested}
use Rattle.upkeep.proofs.UpkeepTurn.{from_pass}
use Rattle.upkeep.proofs.UpkeepSteps.{extends_known, passes_of_table}

-- Before it rests

-- it is at a table that lasts
pub at_lasting : {S : Type 0} (words : Words S) (lay names : Layout) (number : ℕ) (at : Seat ℕ SeatView) → IsLastingTable words.table.shared.table_id words.table.shared.key lay → at.table_id ≡ words.table.shared.table_id → names ≡ names_of_table words.table.shared.key → at.me.0.passes ≡ seated_at names number at ∷ [] → number < names.passes → IsAtLasting words lay at (seated_at names number at)
at_lasting words lay names number at last table same alone is_pass = record {
  table = (last, table);
  alone = alone;
  names = same;
  is_pass = subst (λ n. number < n) (ap (λ (l : Layout). l.passes) same ∙ passes_of_table words.table.shared.key ∙ ap (λ (l : Layout). l.passes) last.layout) is_pass;
}

-- it is between two calls, with so much left of its share
pub between_now : {Sits : ℕ → Layout → List SeatedPass → Type 0} {allows : Layout → History → ℕ → Type 0} {mode : Mode} {lay : Layout} {number first : ℕ} {left : Remaining} {at : Seat ℕ SeatView} {blames : List ℕ} → IsPassWith Sits allows mode lay number first left at blames → IsBetween (seated_at lay number at) left
between_now {lay} {number} {left} {at} x = is_between (seated_at lay number at) left x.rest.share x.rest.over

-- and it is there
pub left_now : {allows : Layout → History → ℕ → Type 0} {mode : Mode} {lay : Layout} {number first : ℕ} {left : Remaining} {at : Seat ℕ SeatView} {blames : List ℕ} → IsPassWith IsSeated allows mode lay number first left at blames → HasShareLeft allows (seated_at lay number at) left
left_now {lay} {number} {left} {at} x =
    let between = between_now x in
    record { is_pass = x.is_pass; run = x.sound; there = x.seat.there; share = between.share; over = between.over }

-- and what it keeps is of this table
pub slots_kept : (id : TableId) (site : Site) (lay : Layout) (kept : PassKeeper) → IsLastingTable id site lay → site.turns ≡ Some kept.turns → lay ≡ kept.layout → slots_of_table site ≡ in_turns kept.layout kept.turns
slots_kept id site lay kept last turns same = ap (slots_by site.layout) turns ∙ ap (λ l. in_turns l kept.turns) (last.layout ∙ same)

-- so it is set to call
pub set_kept : (allows : Layout → History → ℕ → Type 0) (id : TableId) (site : Site) (lay : Layout) (kept : PassKeeper) (p : SeatedPass) (left : Remaining) → IsLastingTable id site lay → site.turns ≡ Some kept.turns → lay ≡ kept.layout → IsSetToCall allows (in_turns kept.layout kept.turns) p left kept.keeper → IsSetToCall allows (slots_of_table site) p left kept.keeper
set_kept allows id site lay kept p left last turns same = subst (λ (t : Lasting). IsSetToCall allows t p left kept.keeper) (sym (slots_kept id site lay kept last turns same))

pub set_now : {allows : Layout → History → ℕ → Type 0} {mode : Mode} {lay : Layout} {number first : ℕ} {left : Remaining} {at : Seat ℕ SeatView} {blames : List ℕ} → IsPassWith IsSeated allows mode lay number first left at blames → IsMap lay.mode → (kept : PassKeeper) → KeepsRight (Some kept) (seated_at lay number at) → IsSetToCall allows (in_turns kept.layout kept.turns) (seated_at lay number at) left kept.keeper
set_now x map kept keeps = record { kept = keeps; has = left_now x; ends = x.dealt map }

-- Rows of no call

of_no_call : (c : ℕ) (r : Row) → IsOfNoCall c r → r.pass.0 ≡ c → r.call ≡ 0
of_no_call c r (inl other) own = absurd (other own)
of_no_call c r (inr z) own = z.0

-- the rows that were added are of no call, where they are its own
own_no_call : (c : ℕ) (planting : PlantingView) (rows known : List Row) → Each (IsOfNoCall c) rows → HoldsOfOwn (λ r. r.call ≡ 0) c (history_of planting known) (history_of planting (rows ++ known))
own_no_call c planting [] known x = own_start (λ r. r.call ≡ 0) c (history_of planting known)
own_no_call c planting (r ∷ rs) known x = own_more (λ r. r.call ≡ 0) c (history_of planting known) (history_of planting (rs ++ known)) r (of_no_call c r x.0) (own_no_call c planting rs known x.1)

-- A rest

-- one that does nothing
pub rested_nothing : {Sits : ℕ → Layout → List SeatedPass → Type 0} {allows : Layout → History → ℕ → Type 0} {mode : Mode} {lay : Layout} {number first : ℕ} {left : Remaining} {at : Seat ℕ SeatView} {blames : List ℕ} → IsPassWith Sits allows mode lay number first left at blames → HasOnlyRested allows (view_with lay number left at blames) (view_with lay number left at blames)
rested_nothing {number} {at} x = record {
  later = record { table = refl; layout = refl; number = refl; run = ends_self (run_at at.me.0.passes) };
  lawful = x.sound;
  calls = own_start (λ r. r.call ≡ 0) number (run_at at.me.0.passes);
  done = refl;
  blamed_same = refl;
  rest = x.rest;
  usable = λ snap u. u;
}

-- the pass was so at its seat, which is s now, and is q
module _ (lay : Layout) (number : ℕ) (at s : Seat ℕ SeatView) (q : SeatedPass) (is : s.me.0.passes ≡ q ∷ []) (goes : HasGoneOnDealing (seated_at lay number at) q) where
  abbrev planting : PlantingView
  planting = planting_of at.me.0.passes

  abbrev known : List Row
  known = known_of at.me.0.passes

  -- the pass as its seat knows it now
  as_seen : q ≡ seated_pass number lay planting q.memory (goes.more ++ known)
  as_seen = λ i. record { number = goes.number i; layout = goes.layout i; planting = goes.planting i; memory = q.memory; known = goes.known i }

  now_is : s.me.0.passes ≡ seated_pass number lay planting q.memory (goes.more ++ known) ∷ []
  now_is = is ∙ ap (λ r. r ∷ []) as_seen

  run_is : run_at s.me.0.passes ≡ history_of planting (goes.more ++ known)
  run_is = ap run_at now_is

  since : Extends (run_at s.me.0.passes) (run_at at.me.0.passes)
  since = subst (λ h. Extends h (run_at at.me.0.passes)) (sym run_is) (extends_known planting goes.more known)

  -- it is that one by what its seat knows
  pub seated_now : seated_at lay number s ≡ q
  seated_now = ap (λ ps. seated_pass number lay (planting_of ps) (memory_of ps) (known_of ps)) now_is ∙ sym as_seen

  pub alone_now : s.me.0.passes ≡ seated_at lay number s ∷ []
  alone_now = is ∙ ap (λ r. r ∷ []) (sym seated_now)

  -- it knows what it knew as it rested
  module _ (rested : KnowsRest q) where
    pub sits_or_away : IsSeatedOrAway number lay s.me.0.passes
    sits_or_away = record { alone = alone_now; since = subst (λ ps. Extends (run_at ps) (rest_at ps)) (sym is) rested }

    pub sits_there : q.memory.away ≡ false → IsSeated number lay s.me.0.passes
    sits_there there = record { alone = alone_now; since = sits_or_away.since; there = ap (λ ps. (memory_of ps).away) is ∙ there }

  -- and it has made no entry
  entered : Lawful lay (run_at s.me.0.passes) → AreFinished lay number 0 (run_at at.me.0.passes) → entries_of number (log lay (run_at s.me.0.passes)) ≡ entries_of number (log lay (run_at at.me.0.passes))
  entered l over =
      let same : run_at s.me.0.passes ≡ history_of planting q.known = run_is ∙ ap (history_of planting) (sym goes.known) in
      ap (λ h. entries_of number (log lay h)) same ∙ (goes.none (subst (Lawful lay) same l) over).1

  module _ {allows : Layout → History → ℕ → Type 0} (left : Remaining) (run : IsRun allows q.layout (past_of q [])) (has : IsBetween q left) (many : ¬ HasFewNames lay) where
    sound : IsRun allows lay (run_at s.me.0.passes)
    sound = subst (λ (ps : List SeatedPass). IsRun allows lay (run_at ps)) (sym is) (subst (λ (l : Layout). IsRun allows l (past_of q [])) goes.layout run)

    between : IsBetweenCalls lay number (run_at s.me.0.passes) left
    between = subst (λ (r : SeatedPass). IsBetweenCalls r.layout r.number.0 (past_of r []) left) (sym seated_now) record {
      share = has.share;
      upper = λ few. absurd (many (subst HasFewNames goes.layout few));
      over = λ n own other taken. has.over n own (λ e. none n own e) taken;
    }
      where
        none : (n : ℕ) → IsOwnScx q.layout q.number.0 n → n ≢ 0
        none n own e = let a = own.from in omega (arith, a, e)

    module _ (old : Remaining) (blames : List ℕ) (over : AreFinished lay number 0 (run_at at.me.0.passes)) (table : s.table_id ≡ at.table_id) where
      later : IsLaterView (view_with lay number old at blames) (view_with lay number left s blames)
      later = record { table = table; layout = refl; number = refl; run = since }

      pub rested_says : HasOnlyRested allows (view_with lay number old at blames) (view_with lay number left s blames)
      rested_says = record {
        later = later;
        lawful = sound;
        calls = subst (HoldsOfOwn (λ r. r.call ≡ 0) number (run_at at.me.0.passes)) (sym run_is) (own_no_call number planting goes.more known goes.of_no_call);
        done = entered sound.lawful over;
        blamed_same = refl;
        rest = between;
        usable = can_use_later (view_with lay number old at blames) (view_with lay number left s blames) later sound.lawful;
      }

    -- it is a pass again
    pub rested_pass : {One Other : ℕ → Layout → List SeatedPass → Type 0} {mode : Mode} {first : ℕ} {old : Remaining} {blames : List ℕ} → IsPassWith One allows mode lay number first old at blames → s.me.1 ≡ at.me.1 → Other number lay s.me.0.passes → EndsAsDealt left q.memory → IsPassWith Other allows mode lay number first left s blames
    rested_pass {old} {blames} x bare sits ends = record {
      seat = sits;
      bare = bare ∙ x.bare;
      is_mode = x.is_mode;
      is_pass = x.is_pass;
      first_is = x.first_is;
      few = x.few;
      sound = sound;
      rest = between;
      dealt = λ map. ends ∙ sym (ap (λ ps. dealt_to (memory_of ps)) is);
      blamed = blamed_later (view_with lay number old at blames) (view_with lay number left s blames) refl refl refl sound.lawful since x.blamed;
    }

-- The pass has rested, and its seat is s now.
module _ {allows : Layout → History → ℕ → Type 0} {mode : Mode} {lay : Layout} {number first : ℕ} {old : Remaining} {at : Seat ℕ SeatView} {blames : List ℕ} (x : IsPassWith IsSeated allows mode lay number first old at blames) (many : ¬ HasFewNames lay) (t : Lasting) (left : Remaining) (keeper : Keeper) (s : Seat ℕ SeatView) (same : IsSameSeat at s) (rests : DealsOn (IsSetNow allows t left keeper) at.me.0 s.me.0) where
  on : HasGoneOnDealing (seated_at lay number at) rests.later × IsSetToCall allows t rests.later left keeper
  on = from_dealing (IsSetNow allows t left keeper) at.me.0 s.me.0 (seated_at lay number at) x.seat.alone rests

  between_then : IsBetween rests.later left
  between_then = record { share = on.1.has.share; over = on.1.has.over }

  pub rest_says : HasOnlyRested allows (view_with lay number old at blames) (view_with lay number left s blames)
  rest_says = rested_says lay number at s rests.later rests.is on.0 left on.1.has.run between_then many old blames (left_now x).over same.0

  pub rest_pass : IsPassWith IsSeated allows mode lay number first left s blames
  rest_pass = rested_pass lay number at s rests.later rests.is on.0 left on.1.has.run between_then many x same.1 (sits_there lay number at s rests.later rests.is on.0 on.1.kept.books.slots.rested on.1.has.there) on.1.ends

  pub rest_keeps : IsKeeper t (seated_at lay number s) keeper
  rest_keeps = subst (λ (q : SeatedPass). IsKeeper t q keeper) (sym (seated_now lay number at s rests.later rests.is on.0)) on.1.kept

-- The pass has gone away, or is back, and its seat is s now.
module _ {One : ℕ → Layout → List SeatedPass → Type 0} {allows : Layout → History → ℕ → Type 0} {mode : Mode} {lay : Layout} {number first : ℕ} {left : Remaining} {at : Seat ℕ SeatView} {blames : List ℕ} (x : IsPassWith One allows mode lay number first left at blames) (map : IsMap lay.mode) (many : ¬ HasFewNames lay) (so : SeatedPass → SeatedPass → Type 0) (s : Seat ℕ SeatView) (same : IsSameSeat at s) (alone : at.me.0.passes ≡ seated_at lay number at ∷ []) (steps : RestsOn allows so at.me.0 s.me.0) where
  now_rests : HasGoneOnResting allows (seated_at lay number at) steps.later × so (seated_at lay number at) steps.later
  now_rests = from_pass allows so at.me.0 s.me.0 (seated_at lay number at) alone steps

  now_deals : HasGoneOnDealing (seated_at lay number at) steps.later
  now_deals = resting_deals (seated_at lay number at) steps.later now_rests.0

  -- what is left of its share is left, and would be if it were there
  left_there : HasShareLeft allows (record steps.later { memory = record steps.later.memory { away = false } }) left
  left_there =
      let goes = now_rests.0 in
      left_rested allows (seated_at lay number at) (record steps.later { memory = record steps.later.memory { away = false } }) left
      record { number = goes.number; layout = goes.layout; planting = goes.planting; others = goes.others; by_others = goes.by_others; known = goes.known; sound = goes.sound }
      refl x.is_pass x.sound (between_now x)

  between_there : IsBetween steps.later left
  between_there = record { share = left_there.share; over = left_there.over }

  pub gone_says : HasOnlyRested allows (view_with lay number left at blames) (view_with lay number left s blames)
  gone_says = rested_says lay number at s steps.later steps.is now_deals left left_there.run between_there many left blames (between_now x).over same.0

  -- it has made no row of a call
  pub gone_steps : rows_of number (known_of s.me.0.passes) ≡ rows_of number (known_of at.me.0.passes)
  gone_steps = let goes = now_rests.0 in ap (λ ps. rows_of number (known_of ps)) steps.is ∙ ap (rows_of number) goes.known ∙ rows_by_others number goes.others (known_of at.me.0.passes) goes.by_others

  pub gone_pass : {Other : ℕ → Layout → List SeatedPass → Type 0} → Other number lay s.me.0.passes → DealsNoMore (memory_of at.me.0.passes) steps.later.memory → IsPassWith Other allows mode lay number first left s blames
  gone_pass sits deals = rested_pass lay number at s steps.later steps.is now_deals left left_there.run between_there many x same.1 sits (ends_still (memory_of at.me.0.passes) steps.later.memory left deals (x.dealt map))

  pub gone_away : (kept : Option PassKeeper) → (so (seated_at lay number at) steps.later → HasGoneAway kept (seated_at lay number at) steps.later) → IsPassWith IsSeatedOrAway allows mode lay number first left s blames × ComesBack kept (seated_at lay number s)
  gone_away kept to = let y = to now_rests.1 in (
    gone_pass (sits_or_away lay number at s steps.later steps.is now_deals y.rested) y.deals,
    subst (λ (q : SeatedPass). ComesBack kept q) (sym (seated_now lay number at s steps.later steps.is now_deals)) y.comes_back,
  )

  pub come_back : (kept : Option PassKeeper) → (so (seated_at lay number at) steps.later → HasComeBack kept (seated_at lay number at) steps.later) → IsPassWith IsSeated allows mode lay number first left s blames × KeepsRight kept (seated_at lay number s)
  come_back kept to = let y = to now_rests.1 in (
    gone_pass (sits_there lay number at s steps.later steps.is now_deals y.rested y.there) y.deals,
    subst (λ (q : SeatedPass). KeepsRight kept q) (sym (seated_now lay number at s steps.later steps.is now_deals)) y.keeps,
  )
