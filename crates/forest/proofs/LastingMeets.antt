-- What a pass of a table that lasts has once it has come to know more of the run.
use Rattle.std.specs.List.{All}
use Rattle.std.proofs.lemmas.List.Elements.{All-nil, All-cons}
use Rattle.std.proofs.Common.{◌≡◌, ◌≢◌, ℕ, List, [], ◌∷◌, ◌++◌, refl, sym, ◌∙◌, ap, subst}
use Rattle.atomic_table.specs.declared.shared.Seat.{Seat}
use Rattle.arena.proofs.Lemmas.{ends_trans}
use Rattle.histories.specs.Common.{Extends, HasScx, History, IsRun, Layout, Lawful, Mode, Row}
use Rattle.ordered_map.specs.Runs.{IsMapRun}
use Rattle.planting.specs.Plantings.{PlantingView}
use Rattle.forest.specs.declared.pass.Pass.TheInside.{Inside}
use Rattle.tables.specs.declared.rule.Plot.{Plot}
use Rattle.tables.specs.declared.view.SeatView.{SeatView}
use Rattle.tables.specs.declared.view.SeatedPass.{SeatedPass}
use Rattle.forest.specs.LastingMeets.{AreBehind, HasOnlyLearnt, SharedRun, all_aware, aware_of}
use Rattle.tables.specs.Passes.{HaveLeftShares, HoldsOfOwn, IsLaterView, PassView, run_of}
use Rattle.forest.specs.PassInvariant.{IsPass, layout_in, pass_view, seated_in}
use Rattle.tables.specs.TableRule.{Behind, dealt_to, first_of, history_of, plot_of, rest_of, seated_pass}
use Rattle.upkeep.specs.UpkeepKeeper.{StaysOut}
use Rattle.forest.specs.UpkeepKept.{KeepsRight}
use Rattle.upkeep.specs.UpkeepSteps.{HasGoneOnResting}
use Rattle.tables.specs.Traces.{known_of, memory_of, planting_of, rest_at, rows_of, run_at}
use Rattle.straight.proofs.Advances.{keeps_all, rows_by_others, seat_back}
use Rattle.forest.proofs.Blames.{blames_left}
use Rattle.forest.proofs.Called.{own_others, own_start}
use Rattle.straight.proofs.AfterCalls.{IsQuiet, quiet_other, quiet_start}
use Rattle.forest.proofs.Meets.{behind_ends}
use Rattle.forest.proofs.Passes.{HasOnlyLoaded, called_nothing, called_pass, can_use_later, seated}
use Rattle.forest.proofs.Rested.{between_now}
use Rattle.upkeep.proofs.UpkeepDeals.{resting_deals}
use Rattle.forest.proofs.UpkeepKept.{keeps_right}
use Rattle.upkeep.proofs.UpkeepStays.{PutsInNone, stays_out}

module _ {allows : Layout → History → ℕ → Type 0} {mode : Mode} {T : Type 0} (p : Inside T) (x : IsPass allows mode p) (s : Seat ℕ SeatView) (rows : List Row) (behind : Behind rows (seated_in p)) (run : IsRun allows (layout_in p) (history_of (planting_of p.seat.me.0.passes) rows)) (are : s.me.0.passes ≡ aware_of rows (seated_in p) ∷ []) where
  abbrev planting : PlantingView
  planting = planting_of p.seat.me.0.passes

  abbrev start : History
  start = run_of (pass_view p)

  -- it knows those rows now
  pub aware_run : run_at s.me.0.passes ≡ history_of planting rows
  aware_run = ap run_at are

  -- it has gone on by rows of others alone
  aware_quiet : IsQuiet allows (layout_in p) p.number.0 start p.share (history_of planting rows)
  aware_quiet = subst (λ l. IsQuiet allows (layout_in p) p.number.0 start p.share (history_of planting l)) (sym behind.1)
      (keeps_all allows (layout_in p) p.number.0 (IsQuiet allows (layout_in p) p.number.0 start p.share) planting
      (λ h r run other z. quiet_other allows (layout_in p) p.number.0 start p.share x.is_pass h r run other z) behind.0 (known_of p.seat.me.0.passes) behind.2
      (subst (λ l. IsRun allows (layout_in p) (history_of planting l)) behind.1 run) (quiet_start allows (layout_in p) p.number.0 start p.share x.sound x.rest))

  aware_own : (P : Row → Type 0) → HoldsOfOwn P p.number.0 start (run_at s.me.0.passes)
  aware_own P = subst (HoldsOfOwn P p.number.0 start) (sym aware_run)
      (subst (λ l. HoldsOfOwn P p.number.0 start (history_of planting l)) (sym behind.1) (own_others P p.number.0 start planting behind.0 (known_of p.seat.me.0.passes) behind.2 (own_start P p.number.0 start)))

  pub learnt_called : HasOnlyLoaded allows p s 0 (λ h. h ≡ history_of planting rows)
  learnt_called = record {
    seat = seat_back s.me.0.passes p.number.0 (layout_in p) planting (memory_of p.seat.me.0.passes) rows are (ends_trans (history_of planting rows) start (rest_at p.seat.me.0.passes) (behind_ends rows (seated_in p) behind) x.seat.since) x.seat.there;
    answers = aware_run;
    goes = subst (IsQuiet allows (layout_in p) p.number.0 start p.share) (sym aware_run) aware_quiet;
    calls = aware_own (λ r. r.call ≡ 0);
    dealt = λ map. ap (λ ps. dealt_to (memory_of ps)) are;
  }

  aware_seated : seated_in (seated p s) ≡ aware_of rows (seated_in p)
  aware_seated = ap (λ ps. seated_pass p.number.0 (layout_in p) (planting_of ps) (memory_of ps) (known_of ps)) are

  module _ (law : PutsInNone) (maps : (h : History) → IsRun allows (layout_in p) h → IsMapRun (layout_in p) h) where
    -- what was never put in is out still
    aware_out : StaysOut (seated_in p) (aware_of rows (seated_in p))
    aware_out = stays_out law (seated_in p) (aware_of rows (seated_in p)) (resting_deals (seated_in p) (aware_of rows (seated_in p)) goes) x.is_pass (between_now x).over x.sound.lawful (maps (history_of planting rows) run)
      where
        goes : HasGoneOnResting allows (seated_in p) (aware_of rows (seated_in p))
        goes = record { number = refl; layout = refl; planting = refl; others = behind.0; by_others = behind.2; known = behind.1; sound = λ was. run }

    -- and what it keeps is right still
    pub aware_keeps : KeepsRight p.kept (seated_in p) → KeepsRight p.kept (seated_in (seated p s))
    aware_keeps k = subst (KeepsRight p.kept) (sym aware_seated) (keeps_right p.kept (seated_in p) (aware_of rows (seated_in p)) refl refl refl refl (behind_ends rows (seated_in p) behind) aware_out k)

  pub only_learnt : s.table_id ≡ p.seat.table_id → s.me.1 ≡ p.seat.me.1 → HasOnlyLearnt allows (pass_view p) (pass_view (seated p s))
  only_learnt table bare = record {
    later = later;
    lawful = learnt_called.goes.sound;
    no_row = aware_own (λ r. ⊥);
    steps = ap (λ ps. rows_of p.number.0 (known_of ps)) are ∙ ap (rows_of p.number.0) behind.1 ∙ rows_by_others p.number.0 behind.0 (known_of p.seat.me.0.passes) behind.2;
    blamed_same = refl;
    takes_nothing = called_nothing p s 0 (λ h. h ≡ history_of planting rows) learnt_called;
    rest = (called_pass p x s 0 (λ h. h ≡ history_of planting rows) bare learnt_called).rest;
    usable = can_use_later (pass_view p) (pass_view (seated p s)) later learnt_called.goes.sound.lawful;
  }
    where
      later : IsLaterView (pass_view p) (pass_view (seated p s))
      later = record { table = table; layout = refl; number = refl; run = learnt_called.goes.since }

-- Two passes

-- the run that two passes have come to know
pub record KnowBoth (allows : Layout → History → ℕ → Type 0) (p q : SeatedPass) (ps qs : List SeatedPass) : Type 0 where
  pub rows : List Row
  pub apart : p.number.0 ≢ q.number.0
  pub same : plot_of q ≡ plot_of p
  pub one : Behind rows p
  pub other : Behind rows q
  pub run : IsRun allows p.layout (history_of p.planting rows)
  pub is_one : ps ≡ aware_of rows p ∷ []
  pub is_other : qs ≡ aware_of rows q ∷ []

-- so it is of the seats of two, of which the second was the first of both
pub know_both : {allows : Layout → History → ℕ → Type 0} (p q : SeatedPass) (ps qs new_ps new_qs : List SeatedPass) → ps ≡ p ∷ [] → qs ≡ q ∷ [] → (x : SharedRun allows (qs ++ ps)) → new_ps ≡ all_aware x.rows ps → new_qs ≡ all_aware x.rows qs → KnowBoth allows p q new_ps new_qs
know_both {allows} p q ps qs new_ps new_qs was_one was_other x one other = record {
  rows = x.rows;
  apart = both.2.0;
  same = both.0 ∙ sym both.3.0;
  one = both.3.1;
  other = both.1;
  run = subst (λ (g : Plot). IsRun allows g.layout (history_of g.planting x.rows)) (sym both.3.0) x.run;
  is_one = one ∙ ap (all_aware x.rows) was_one;
  is_other = other ∙ ap (all_aware x.rows) was_other;
}
  where
    both : AreBehind x.plot x.rows (q ∷ p ∷ [])
    both = subst (λ l. AreBehind x.plot x.rows l) (λ i. was_other i ++ was_one i) x.behind

-- and it is so of the seats of two, of which the second took in the first, and gave it back
pub learnt_both : {allows : Layout → History → ℕ → Type 0} (p q : SeatedPass) (ps qs joined learnt new_ps new_qs : List SeatedPass) → ps ≡ p ∷ [] → qs ≡ q ∷ [] → joined ≡ qs ++ ps → ((x : SharedRun allows joined) × (learnt ≡ all_aware x.rows joined)) → new_ps ≡ rest_of learnt → new_qs ≡ first_of learnt → (x : SharedRun allows (qs ++ ps)) × (new_ps ≡ all_aware x.rows ps) × (new_qs ≡ all_aware x.rows qs)
learnt_both {allows} p q ps qs joined learnt new_ps new_qs one other both x rest first = (
  go.0,
  rest ∙ ap rest_of go.1 ∙ ap (λ l. rest_of (all_aware go.0.rows l)) are ∙ sym (ap (all_aware go.0.rows) one),
  first ∙ ap first_of go.1 ∙ ap (λ l. first_of (all_aware go.0.rows l)) are ∙ sym (ap (all_aware go.0.rows) other),
)
  where
    go : (x : SharedRun allows (qs ++ ps)) × (learnt ≡ all_aware x.rows (qs ++ ps))
    go = subst (λ l. (x : SharedRun allows l) × (learnt ≡ all_aware x.rows l)) both x

    are : qs ++ ps ≡ q ∷ p ∷ []
    are = λ i. other i ++ one i

module _ {allows : Layout → History → ℕ → Type 0} {mode : Mode} {T : Type 0} (p q : Inside T) (x : IsPass allows mode p) (y : IsPass allows mode q) (s t : Seat ℕ SeatView) (k : KnowBoth allows (seated_in p) (seated_in q) s.me.0.passes t.me.0.passes) where
  -- the run is that of the second pass too
  pub run_other : IsRun allows (layout_in q) (history_of (planting_of q.seat.me.0.passes) k.rows)
  run_other = subst (λ (g : Plot). IsRun allows g.layout (history_of g.planting k.rows)) (sym k.same) k.run

  pub called_one : HasOnlyLoaded allows p s 0 (λ h. h ≡ history_of (planting_of p.seat.me.0.passes) k.rows)
  called_one = learnt_called p x s k.rows k.one k.run k.is_one

  pub called_other : HasOnlyLoaded allows q t 0 (λ h. h ≡ history_of (planting_of q.seat.me.0.passes) k.rows)
  called_other = learnt_called q y t k.rows k.other run_other k.is_other

  -- both know the same run
  pub know_same : run_at s.me.0.passes ≡ run_at t.me.0.passes
  know_same = called_one.answers ∙ ap (λ (g : Plot). history_of g.planting k.rows) (sym k.same) ∙ sym called_other.answers

  -- what either has blamed has left both shares
  pub both_left : HaveLeftShares (pass_view (seated p s) ∷ pass_view (seated q t) ∷ [])
  both_left = both (λ a. All (λ b. All (λ n. ¬ HasScx b.share n) a.blamed) (d ∷ e ∷ [])) d e
      (both (λ b. All (λ n. ¬ HasScx b.share n) d.blamed) d e
      (blames_left (layout_in p) _ (pass_view p) d p.number.0 _ _ x.sound.lawful called_one.goes.since called_one.goes.share x.blamed)
      (blames_left (layout_in q) _ (pass_view p) e q.number.0 _ _ (subst (λ (l : Layout). Lawful l (run_of (pass_view p))) (sym same) x.sound.lawful) (subst (λ h. Extends h (run_of (pass_view p))) know_same called_one.goes.since) called_other.goes.share x.blamed))
      (both (λ b. All (λ n. ¬ HasScx b.share n) e.blamed) d e
      (blames_left (layout_in p) _ (pass_view q) d p.number.0 _ _ (subst (λ (l : Layout). Lawful l (run_of (pass_view q))) same y.sound.lawful) (subst (λ h. Extends h (run_of (pass_view q))) (sym know_same) called_other.goes.since) called_one.goes.share y.blamed)
      (blames_left (layout_in q) _ (pass_view q) e q.number.0 _ _ y.sound.lawful called_other.goes.since called_other.goes.share y.blamed))
    where
      d : PassView
      d = pass_view (seated p s)

      e : PassView
      e = pass_view (seated q t)

      same : (layout_in q) ≡ (layout_in p)
      same = ap (λ (g : Plot). g.layout) k.same

      both : (P : PassView → Type 0) (a b : PassView) → P a → P b → All P (a ∷ b ∷ [])
      both P a b here there = All-cons P a (b ∷ []) here (All-cons P b [] there (All-nil P))
