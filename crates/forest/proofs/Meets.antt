-- How two passes meet.
use Rattle.std.specs.List.{All}
use Rattle.std.proofs.lemmas.List.Elements.{All-nil, All-cons}
use Rattle.std.proofs.Common.{◌≡◌, ◌≢◌, ℕ, suc, List, [], ◌∷◌, ◌++◌, refl, sym, ◌∙◌, ap, subst, eq-eqb, inr, arith}
use Rattle.atomic_table.specs.declared.shared.Seat.{Seat}
use Rattle.histories.specs.Common.{HasScx, Layout, Mode, Row, History, ◌⊳◌, Extends, Lawful, IsRun}
use Rattle.arena.proofs.Lemmas.{ends_self, ends_trans}
use Rattle.tables.specs.declared.view.SeatedPass.{SeatedPass}
use Rattle.tables.specs.declared.view.SeatView.{SeatView}
use Rattle.forest.specs.declared.pass.Pass.TheInside.{Inside}
use Rattle.tables.specs.TableRule.{dealt_to, history_of, seated_pass, row, look, Looked, HasLookedBehind, Met, after_look, Behind, plot_of}
use Rattle.tables.specs.Traces.{known_of, rows_of, planting_of, rest_at, memory_of, run_at}
use Rattle.tables.specs.Passes.{PassView, HoldsOfOwn, IsLook, HasLookedOnce, HaveLeftShares, IsLaterView, run_of, steps_of}
use Rattle.forest.specs.PassInvariant.{pass_view, layout_in, IsPass}
use Rattle.straight.proofs.Advances.{keeps_all, rows_by_others, same_knower, seat_back}
use Rattle.straight.proofs.AfterCalls.{IsQuiet, quiet_start, quiet_other, quiet_step}
use Rattle.forest.proofs.Blames.{blames_left}
use Rattle.forest.proofs.Called.{own_start, own_more, own_others}
use Rattle.forest.proofs.Passes.{HasOnlyLoaded, seated, called_pass, called_nothing, can_use_later}
use Rattle.planting.specs.Plantings.{PlantingView}
use Rattle.tables.specs.declared.rule.Plot.{Plot}

-- Two looks

first_is : (a b : SeatedPass) (more others : List SeatedPass) → a ∷ more ≡ b ∷ others → a ≡ b
first_is a b more others e = cc

second_is : (a b p q : SeatedPass) → p ∷ a ∷ [] ≡ q ∷ b ∷ [] → a ≡ b
second_is a b p q e = cc

module _ (allows : Layout → History → ℕ → Type 0) (p q : SeatedPass) where
  -- the first of two, which is q, looks
  pub looks_first : (ps qs : List SeatedPass) → ps ≡ q ∷ p ∷ [] → Looked allows ps qs → (early : List Row) × Behind early p × HasLookedBehind allows q early × (q.number.0 ≢ p.number.0) × (plot_of p ≡ plot_of q) × (qs ≡ p ∷ after_look q early ∷ [])
  looks_first ps qs e x = from (first_is x.first q _ _ (sym x.were ∙ e)) (second_is x.second p x.first q (sym x.were ∙ e))
    where
      from : x.first ≡ q → x.second ≡ p → (early : List Row) × Behind early p × HasLookedBehind allows q early × (q.number.0 ≢ p.number.0) × (plot_of p ≡ plot_of q) × (qs ≡ p ∷ after_look q early ∷ [])
      from a b = subst (λ (z : SeatedPass). (early : List Row) × Behind early p × HasLookedBehind allows z early × (z.number.0 ≢ p.number.0) × (plot_of p ≡ plot_of z) × (qs ≡ p ∷ after_look z early ∷ [])) a
          (subst (λ (z : SeatedPass). (early : List Row) × Behind early z × HasLookedBehind allows x.first early × (x.first.number.0 ≢ z.number.0) × (plot_of z ≡ plot_of x.first) × (qs ≡ z ∷ after_look x.first early ∷ [])) b
          (x.run, x.behind_second, record { behind = x.behind_first; before = x.before; after = x.after }, x.apart, x.same, x.are))

-- What a look leaves

pub ends_more : (planting : PlantingView) (rows known : List Row) → Extends (history_of planting (rows ++ known)) (history_of planting known)
ends_more planting [] known = ends_self (history_of planting known)
ends_more planting (r ∷ rs) known = inr (ends_more planting rs known)

pub behind_ends : (run : List Row) (p : SeatedPass) → Behind run p → Extends (history_of p.planting run) (history_of p.planting p.known)
behind_ends run p b = subst (λ rows. Extends (history_of p.planting rows) (history_of p.planting p.known)) (sym b.1) (ends_more p.planting b.0 p.known)

-- a pass that has looked at the table after this run
module _ {T : Type 0} (p : Inside T) (s : Seat ℕ SeatView) (run : List Row) (behind : Behind run (seated_pass p.number.0 (layout_in p) (planting_of p.seat.me.0.passes) (memory_of p.seat.me.0.passes) (known_of p.seat.me.0.passes))) (are : s.me.0.passes ≡ after_look (seated_pass p.number.0 (layout_in p) (planting_of p.seat.me.0.passes) (memory_of p.seat.me.0.passes) (known_of p.seat.me.0.passes)) run ∷ []) where
  -- what holds of the look holds of each row of the pass after what it knew
  look_own : (P : Row → Type 0) → P (row p.number.0 look (history_of (planting_of p.seat.me.0.passes) run)) → HoldsOfOwn P p.number.0 (run_of (pass_view p)) (run_of (pass_view (seated p s)))
  look_own P holds =
      let planting = planting_of p.seat.me.0.passes in
      let start = run_of (pass_view p) in
      let quiet = own_others P p.number.0 start planting behind.0 (known_of p.seat.me.0.passes) behind.2 (own_start P p.number.0 start) in
      subst (λ l. HoldsOfOwn P p.number.0 start (run_at l)) (sym are)
      (own_more P p.number.0 start (history_of planting run) (row p.number.0 look (history_of planting run)) (λ own. holds) (subst (λ l. HoldsOfOwn P p.number.0 start (history_of planting l)) (sym behind.1) quiet))

  pub look_looks : HoldsOfOwn IsLook p.number.0 (run_of (pass_view p)) (run_of (pass_view (seated p s)))
  look_looks = look_own IsLook (refl, refl, refl)

  -- the pass has made one step more
  pub look_steps : steps_of (pass_view (seated p s)) ≡ suc (steps_of (pass_view p))
  look_steps = ap (λ l. rows_of p.number.0 (known_of l)) are ∙ rw (eq-eqb p.number.0 p.number.0 refl) (ap suc (ap (rows_of p.number.0) behind.1 ∙ rows_by_others p.number.0 behind.0 _ behind.2))

-- a pass that has looked knows what it knew, and its look
pub look_called : {allows : Layout → History → ℕ → Type 0} {mode : Mode} {T : Type 0} (p : Inside T) (x : IsPass allows mode p) (s : Seat ℕ SeatView) (run : List Row) → HasLookedBehind allows (seated_pass p.number.0 (layout_in p) (planting_of p.seat.me.0.passes) (memory_of p.seat.me.0.passes) (known_of p.seat.me.0.passes)) run → s.me.0.passes ≡ after_look (seated_pass p.number.0 (layout_in p) (planting_of p.seat.me.0.passes) (memory_of p.seat.me.0.passes) (known_of p.seat.me.0.passes)) run ∷ [] → HasOnlyLoaded allows p s 0 (λ h. Extends h (history_of (planting_of p.seat.me.0.passes) run))
look_called {allows} p x s run y e =
    let planting = planting_of p.seat.me.0.passes in
    let start = history_of planting (known_of p.seat.me.0.passes) in
    let r : Row = row p.number.0 look (history_of planting run) in
    let now : r ⊳ history_of planting run ≡ run_at s.me.0.passes = sym (ap run_at e) in
    let rows = y.behind.0 in
    let before : IsRun allows (layout_in p) (history_of planting (rows ++ known_of p.seat.me.0.passes)) = subst (λ l. IsRun allows (layout_in p) (history_of planting l)) y.behind.1 y.before in
    let quiet = keeps_all allows (layout_in p) p.number.0 (IsQuiet allows (layout_in p) p.number.0 start p.share) planting (λ h r run other z. quiet_other allows (layout_in p) p.number.0 start p.share x.is_pass h r run other z) rows (known_of p.seat.me.0.passes) y.behind.2 before (quiet_start allows (layout_in p) p.number.0 start p.share x.sound x.rest) in
    record {
      seat = seat_back s.me.0.passes p.number.0 (layout_in p) planting (memory_of p.seat.me.0.passes) (r ∷ run) e (inr (ends_trans (history_of planting run) start (rest_at p.seat.me.0.passes) (behind_ends run (seated_pass p.number.0 (layout_in p) planting (memory_of p.seat.me.0.passes) (known_of p.seat.me.0.passes)) y.behind) x.seat.since)) x.seat.there;
      answers = subst (λ h. Extends h (history_of planting run)) now (inr (ends_self (history_of planting run)));
      goes = subst (IsQuiet allows (layout_in p) p.number.0 start p.share) now (quiet_step allows (layout_in p) p.number.0 start p.share (history_of planting run) r y.after (λ k. cc) (subst (λ l. IsQuiet allows (layout_in p) p.number.0 start p.share (history_of planting l)) (sym y.behind.1) quiet));
      calls = look_own p s run y.behind e (λ r. r.call ≡ 0) refl;
      dealt = λ map. ap (λ ps. dealt_to (memory_of ps)) e;
    }

-- so it has looked once
pub looked_once : {allows : Layout → History → ℕ → Type 0} {mode : Mode} {T : Type 0} (p : Inside T) (x : IsPass allows mode p) (s : Seat ℕ SeatView) (A : History → Type 0) → s.table_id ≡ p.seat.table_id → s.me.1 ≡ p.seat.me.1 → HasOnlyLoaded allows p s 0 A → steps_of (pass_view (seated p s)) ≡ suc (steps_of (pass_view p)) → HoldsOfOwn IsLook p.number.0 (run_of (pass_view p)) (run_of (pass_view (seated p s))) → HasLookedOnce allows (pass_view p) (pass_view (seated p s))
looked_once p x s A table bare y one looks = record {
  goes_on = record {
    later = later;
    lawful = y.goes.sound;
    calls = y.calls;
    steps = omega arith;
    blamed_these = refl;
    blames = (called_pass p x s 0 A bare y).blamed;
    rest = (called_pass p x s 0 A bare y).rest;
    usable = can_use_later (pass_view p) (pass_view (seated p s)) later y.goes.sound.lawful;
  };
  takes_nothing = called_nothing p s 0 A y;
  one_step = one;
  looks = looks;
}
  where
    later : IsLaterView (pass_view p) (pass_view (seated p s))
    later = record { table = table; layout = refl; number = refl; run = y.goes.since }

-- What two passes have once they have met

pub record HaveMet (allows : Layout → History → ℕ → Type 0) {T : Type 0} (p q : Inside T) (s t : Seat ℕ SeatView) : Type 0 where
  pub early : List Row
  pub late : List Row
  pub apart : p.number.0 ≢ q.number.0
  pub one : HasOnlyLoaded allows p s 0 (λ h. Extends h (history_of (planting_of p.seat.me.0.passes) late))
  pub other : HasOnlyLoaded allows q t 0 (λ h. Extends h (history_of (planting_of q.seat.me.0.passes) early))
  pub goes_on : Extends (history_of (planting_of p.seat.me.0.passes) late) (run_of (pass_view (seated q t)))
  pub knew : Extends (history_of (planting_of q.seat.me.0.passes) early) (run_of (pass_view p))
  pub one_step : steps_of (pass_view (seated p s)) ≡ suc (steps_of (pass_view p))
  pub other_step : steps_of (pass_view (seated q t)) ≡ suc (steps_of (pass_view q))
  pub one_looks : HoldsOfOwn IsLook p.number.0 (run_of (pass_view p)) (run_of (pass_view (seated p s)))
  pub other_looks : HoldsOfOwn IsLook q.number.0 (run_of (pass_view q)) (run_of (pass_view (seated q t)))

pub have_met : {allows : Layout → History → ℕ → Type 0} {mode : Mode} {T : Type 0} (p q : Inside T) (x : IsPass allows mode p) (y : IsPass allows mode q) (s t : Seat ℕ SeatView) → Met allows p.seat.me.0.passes q.seat.me.0.passes s.me.0.passes t.me.0.passes → HaveMet allows p q s t
have_met {allows} p q x y s t m = record {
  early = m.early;
  late = m.late;
  apart = λ e. m.apart (ap (λ (k : SeatedPass). k.number.0) one ∙ e ∙ sym (ap (λ (k : SeatedPass). k.number.0) other));
  one = look_called p x s m.late one_looked one_is;
  other = look_called q y t m.early other_looked other_is;
  goes_on = subst (λ (g : Plot). Extends (history_of g.planting m.late) (run_of (pass_view (seated q t)))) (sym same) (subst (λ (l : List SeatedPass). Extends (history_of (planting_of q.seat.me.0.passes) m.late) (run_at l)) (sym other_is) (behind_ends m.late (after_look the_other m.early) goes_on));
  knew = subst (λ (g : Plot). Extends (history_of g.planting m.early) (run_of (pass_view p))) same (behind_ends m.early the_one (subst (λ (k : SeatedPass). Behind m.early k) one m.knew_one));
  one_step = look_steps p s m.late one_looked.behind one_is;
  other_step = look_steps q t m.early other_looked.behind other_is;
  one_looks = look_looks p s m.late one_looked.behind one_is;
  other_looks = look_looks q t m.early other_looked.behind other_is;
}
  where
    the_one : SeatedPass
    the_one = seated_pass p.number.0 (layout_in p) (planting_of p.seat.me.0.passes) (memory_of p.seat.me.0.passes) (known_of p.seat.me.0.passes)

    the_other : SeatedPass
    the_other = seated_pass q.number.0 (layout_in q) (planting_of q.seat.me.0.passes) (memory_of q.seat.me.0.passes) (known_of q.seat.me.0.passes)

    one : m.one ≡ the_one
    one = same_knower p.seat.me.0.passes m.one the_one m.was_one x.seat.alone

    other : m.other ≡ the_other
    other = same_knower q.seat.me.0.passes m.other the_other m.was_other y.seat.alone

    same : plot_of the_one ≡ plot_of the_other
    same = sym (ap plot_of one) ∙ m.same ∙ ap plot_of other

    one_looked : HasLookedBehind allows the_one m.late
    one_looked = subst (λ (k : SeatedPass). HasLookedBehind allows k m.late) one m.one_looked

    other_looked : HasLookedBehind allows the_other m.early
    other_looked = subst (λ (k : SeatedPass). HasLookedBehind allows k m.early) other m.other_looked

    one_is : s.me.0.passes ≡ after_look the_one m.late ∷ []
    one_is = subst (λ (k : SeatedPass). s.me.0.passes ≡ after_look k m.late ∷ []) one m.is_one

    other_is : t.me.0.passes ≡ after_look the_other m.early ∷ []
    other_is = subst (λ (k : SeatedPass). t.me.0.passes ≡ after_look k m.early ∷ []) other m.is_other

    goes_on : Behind m.late (after_look the_other m.early)
    goes_on = subst (λ (k : SeatedPass). Behind m.late (after_look k m.early)) other m.goes_on

-- what either has blamed has left both shares
pub met_left : {allows : Layout → History → ℕ → Type 0} {mode : Mode} {T : Type 0} (p q : Inside T) (x : IsPass allows mode p) (y : IsPass allows mode q) (s t : Seat ℕ SeatView) → (layout_in p) ≡ (layout_in q) → HaveMet allows p q s t → HaveLeftShares (pass_view (seated p s) ∷ pass_view (seated q t) ∷ [])
met_left {allows} {mode} {T} p q x y s t same m = both (λ a. All (λ b. All (λ n. ¬ HasScx b.share n) a.blamed) (d ∷ e ∷ [])) d e
    (both (λ b. All (λ n. ¬ HasScx b.share n) d.blamed) d e
    (blames_left (layout_in p) _ (pass_view p) d p.number.0 _ _ x.sound.lawful m.one.goes.since m.one.goes.share x.blamed)
    (blames_left (layout_in q) _ (pass_view p) e q.number.0 _ _ (subst (λ (l : Layout). Lawful l (run_of (pass_view p))) same x.sound.lawful) (ends_trans _ _ _ m.other.answers m.knew) m.other.goes.share x.blamed))
    (both (λ b. All (λ n. ¬ HasScx b.share n) e.blamed) d e
    (blames_left (layout_in p) _ (pass_view q) d p.number.0 _ _ (subst (λ (l : Layout). Lawful l (run_of (pass_view q))) (sym same) y.sound.lawful) (ends_trans _ _ _ (ends_trans _ _ _ m.one.answers m.goes_on) m.other.goes.since) m.one.goes.share y.blamed)
    (blames_left (layout_in q) _ (pass_view q) e q.number.0 _ _ y.sound.lawful m.other.goes.since m.other.goes.share y.blamed))
  where
    d : PassView
    d = pass_view (seated p s)

    e : PassView
    e = pass_view (seated q t)

    both : (P : PassView → Type 0) (a b : PassView) → P a → P b → All P (a ∷ b ∷ [])
    both P a b here there = All-cons P a (b ∷ []) here (All-cons P b [] there (All-nil P))
