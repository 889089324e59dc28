-- What a pass has entered since the start of a call, and what the call leaves of the pass, if
-- both are known of the call's end alone, without its course.
use Rattle.std.proofs.Common.{◌≡◌, ◌≢◌, ◌≤◌, ◌+◌, ℕ, inl, inr, List, ◌∷◌, Option, refl, sym, ◌∙◌, ap, subst, arith}
use Rattle.atomic_table.specs.declared.shared.Seat.{Seat}
use Rattle.arena.specs.Layout.{IsMap}
use Rattle.histories.specs.Common.{Layout, Mode, Row, Step, Remaining, History, Opened, ◌⊳◌, Extends, IsOwnScx, HasWon, IsWin, Lawful, log, owner, Call, IsRun, descriptor}
use Rattle.arena.proofs.Lemmas.{ends_self, ends_trans, owner_is}
use Rattle.histories.proofs.Lemmas.{IsOwned, Logs, UpdateWins, entry_of, facts_before, lawful_row, lawful_since, lawful_tail, logs, same as log_same, update_about, update_is_first, update_win, wins as log_wins, won_since}
use Rattle.prims.specs.Shares.{IsUpperEnd}
use Rattle.prims.proofs.Lemmas.{over_begins}
use Rattle.ordered_map.specs.OrderedMap.{MapEdit}
use Rattle.edits.specs.Known.{HasMade, RestsWith}
use Rattle.edits.specs.Tries.{HasEnteredNone}
use Rattle.tables.specs.declared.memory.PassMemory.{PassMemory}
use Rattle.tables.specs.declared.view.SeatView.{SeatView}
use Rattle.forest.specs.declared.pass.Pass.TheInside.{Inside}
use Rattle.tables.specs.TableRule.{history_of}
use Rattle.tables.specs.Traces.{IsSeated, Trace, HoldsForCall, memory_of, seat_steps, run_at, kept_of}
use Rattle.tables.specs.Shares.{HasFewNames, EndsAsDealt, IsBetweenCalls, entries_of}
use Rattle.tables.specs.Passes.{AreOfCall, HasBlamed, HasGoneOn, IsLaterView, run_of}
use Rattle.upkeep.specs.UpkeepKeeper.{StaysOut}
use Rattle.forest.specs.UpkeepKept.{KeepsRight}
use Rattle.forest.proofs.UpkeepKept.{keeps_right}
use Rattle.planting.specs.Plantings.{PlantingView}
use Rattle.forest.specs.PassInvariant.{pass_view, layout_in, IsPass, seated_in}
use Rattle.tables.proofs.Frames.{entry_mine, entry_others}
use Rattle.forest.proofs.Called.{course_calls, course_since}
use Rattle.forest.proofs.Passes.{call_of, can_use_later, steps_are}
use Rattle.straight.proofs.Advances.{call_back}

-- Entries

win_won : (h : History) (r : Row) (s : ℕ) → IsWin h r s → HasWon (r ⊳ h) s
unfolding HasWon
win_won h r s w = inl w

-- an SCX-record wins once
wins_first : (lay : Layout) (h : History) (r : Row) (s : ℕ) → Lawful lay (r ⊳ h) → IsWin h r s → ¬ HasWon h s
wins_first lay h r s l w = update_is_first (facts_before lay h r l) record { kind = w.kind; update = w.update; before = (lawful_row lay h r l).before; found = w.found; stored = w.update.exchange.won w.found }

module _ (lay : Layout) (c : ℕ) where
  -- a row by which no update of the pass wins leaves its entries
  leaves : (h : History) (r : Row) → Lawful lay (r ⊳ h) → ((t : ℕ) → IsWin h r t → ¬ IsOwnScx lay c t) → entries_of c (log lay (r ⊳ h)) ≡ entries_of c (log lay h)
  leaves h r l none = go (logs lay h r l)
    where
      apart : (u : ℕ) → UpdateWins h r u → owner lay u ≢ c
      apart u w same =
          let owned : IsOwned lay (descriptor h u) u = (update_about (facts_before lay h r l) w).owned in
          let is : owned.pass ≡ c = sym (owner_is lay owned.pass u owned.scx) ∙ same in
          none u (update_win (facts_before lay h r l) w) (subst (λ (k : ℕ). IsOwnScx lay k u) is owned.scx)

      go : Logs lay h r → entries_of c (log lay (r ⊳ h)) ≡ entries_of c (log lay h)
      go (log_same e back) = ap (entries_of c) e
      go (log_wins u w e) = ap (entries_of c) e ∙ entry_others c (entry_of lay h u) (log lay h) (apart u w)

  -- the pass has as many entries as at the start, where no update of it has won since
  pub none_entered : (h start : History) → Lawful lay h → Extends h start → HasEnteredNone lay c h start → entries_of c (log lay h) ≡ entries_of c (log lay start)
  none_entered (Opened o) start l e x = ap (λ k. entries_of c (log lay k)) (sym e)
  none_entered (r ⊳ h) start l (inl e) x = ap (λ k. entries_of c (log lay k)) (sym e)
  none_entered (r ⊳ h) start l (inr e) x = leaves h r l (λ t w. x r h t (ends_self (r ⊳ h)) e w) ∙ none_entered h start (lawful_tail lay h r l) e (λ row before t p q w. x row before t (inr p) q w)

-- one that has made an edit has its entry more, and no other
pub one_entered : {edit : MapEdit} {number : ℕ} {old : Option ℕ} (c : Call) (h : History) → Lawful c.layout h → (m : HasMade edit c h number old) → entries_of c.pass (log c.layout h) ≡ m.entry ∷ entries_of c.pass (log c.layout c.start)
one_entered c h l m =
    none_entered c.layout c.pass h (m.row ⊳ m.before) l m.within behind
    ∙ ap (entries_of c.pass) m.logged
    ∙ entry_mine c.pass m.entry (log c.layout m.before) m.owner
    ∙ ap (λ es. m.entry ∷ es) (none_entered c.layout c.pass m.before c.start (lawful_tail c.layout m.before m.row here) m.since ahead)
  where
    here : Lawful c.layout (m.row ⊳ m.before)
    here = lawful_since c.layout h (m.row ⊳ m.before) l m.within

    ahead : HasEnteredNone c.layout c.pass m.before c.start
    ahead row before t within since w own =
        let same : t ≡ m.scx = m.once row before t (ends_trans h (m.row ⊳ m.before) (row ⊳ before) m.within (inr within)) since w own in
        wins_first c.layout m.before m.row m.scx here m.wins (won_since c.layout m.before (row ⊳ before) m.scx (lawful_tail c.layout m.before m.row here) within (subst (HasWon (row ⊳ before)) same (win_won before row t w)))

    behind : HasEnteredNone c.layout c.pass h (m.row ⊳ m.before)
    behind row before t within since w own =
        let then : Lawful c.layout (row ⊳ before) = lawful_since c.layout h (row ⊳ before) l within in
        let same : t ≡ m.scx = m.once row before t within (ends_trans before (m.row ⊳ m.before) c.start since (inr m.since)) w own in
        wins_first c.layout before row t then w (won_since c.layout before (m.row ⊳ m.before) t (lawful_tail c.layout before row then) since (subst (HasWon (m.row ⊳ m.before)) (sym same) (win_won m.before m.row m.scx m.wins)))

-- What a call leaves

-- after an answer at which it rests with the upper end of its names, the pass is between two calls
pub rests_between : (c : Call) (h : History) (left : Remaining) → RestsWith c h left → (HasFewNames c.layout → IsUpperEnd c.layout c.pass left) → IsBetweenCalls c.layout c.pass h left
rests_between c h left x upper = record { share = x.share; upper = upper; over = over_begins c.layout c.pass left.next_scx h x.over }

-- a call of any machine has ended, and A holds of the run that its pass knows now
pub record HasEnded (allows : Layout → History → ℕ → Type 0) {T : Type 0} (p : Inside T) (s : Seat ℕ SeatView) (number : ℕ) (A : History → Type 0) : Type 0 where
  pub seat : IsSeated p.number.0 (layout_in p) s.me.0.passes
  pub sound : IsRun allows (layout_in p) (run_at s.me.0.passes)
  pub since : Extends (run_at s.me.0.passes) (run_at p.seat.me.0.passes)
  pub answers : A (run_at s.me.0.passes)
  pub calls : AreOfCall p.number.0 number (run_at p.seat.me.0.passes) (run_at s.me.0.passes)

pub ended : {allows : Layout → History → ℕ → Type 0} {mode : Mode} {T : Type 0} (p : Inside T) (x : IsPass allows mode p) (s : Seat ℕ SeatView) (number : ℕ) {M : Type 0} (waits : M → Call → History → Step → Type 0) (same : M → M → Type 0) (first m : M) (A : History → Type 0) {left : PassMemory → Type 0} → HoldsForCall allows left s.me.0.passes (call_of p x number) (λ h. A h × Trace allows waits same (call_of p x number) first m h) → HasEnded allows p s number A
ended {allows} p x s number waits same first m A y =
    let run : history_of y.planting y.known ≡ run_at s.me.0.passes = sym (ap run_at y.is.alone) in
    record {
      seat = call_back s.me.0.passes (call_of p x number) y.planting y.known y.is (course_since (call_of p x number) m _ y.so.1);
      sound = subst (IsRun allows (layout_in p)) run y.sound;
      since = subst (λ h. Extends h (run_at p.seat.me.0.passes)) run (course_since (call_of p x number) m _ y.so.1);
      answers = subst A run y.so.0;
      calls = subst (λ h. AreOfCall p.number.0 number (run_at p.seat.me.0.passes) h) run (course_calls (call_of p x number) m _ y.so.1);
    }

module _ {allows : Layout → History → ℕ → Type 0} {mode : Mode} {T : Type 0} (p : Inside T) (x : IsPass allows mode p) (s : Seat ℕ SeatView) (number : ℕ) (A : History → Type 0) (left : Remaining) (blamed : List ℕ) where
  -- the pass with its seat, what is left of its share, and its blame list as they are now
  abbrev pub left_with : Inside T
  left_with = record p { share = left; seat = s; blamed = blamed }

  -- it is a pass again
  pub ended_pass : s.me.1 ≡ p.seat.me.1 → HasEnded allows p s number A → IsBetweenCalls (layout_in p) p.number.0 (run_of (pass_view left_with)) left → (IsMap (layout_in p).mode → EndsAsDealt left (memory_of s.me.0.passes)) → HasBlamed (pass_view left_with) → IsPass allows mode left_with
  ended_pass bare y rest dealt blames = record { seat = y.seat; bare = bare ∙ x.bare; is_mode = x.is_mode; is_pass = x.is_pass; first_is = x.first_is; few = x.few; sound = y.sound; rest = rest; dealt = dealt; blamed = blames }

  -- what it keeps of its own records is right still, if what it has lost stays out
  pub ended_keeps : HasEnded allows p s number A → kept_of s.me.0.passes ≡ kept_of p.seat.me.0.passes → StaysOut (seated_in p) (seated_in left_with) → KeepsRight p.kept (seated_in p) → KeepsRight p.kept (seated_in left_with)
  ended_keeps y same out keeps = keeps_right p.kept (seated_in p) (seated_in left_with) refl refl (ap (λ (k : PlantingView × PassMemory). k.0) same) (ap (λ (k : PlantingView × PassMemory). k.1) same) y.since out keeps

  -- and its run is extended
  pub ended_goes_on : (few most : ℕ) → s.table_id ≡ p.seat.table_id → HasEnded allows p s number A → seat_steps s.me.0.passes ≤ seat_steps p.seat.me.0.passes + few → few ≤ most → IsBetweenCalls (layout_in p) p.number.0 (run_of (pass_view left_with)) left → HasBlamed (pass_view left_with) → HasGoneOn allows (pass_view p) (pass_view left_with) number most blamed
  ended_goes_on few most table y steps small rest blames = record {
    later = later;
    lawful = y.sound;
    calls = y.calls;
    steps = let a = steps_are p.number.0 (layout_in p) s.me.0.passes y.seat in let b = steps_are p.number.0 (layout_in p) p.seat.me.0.passes x.seat in omega arith;
    blamed_these = refl;
    blames = blames;
    rest = rest;
    usable = can_use_later (pass_view p) (pass_view left_with) later y.sound.lawful;
  }
    where
      later : IsLaterView (pass_view p) (pass_view left_with)
      later = record { table = table; layout = refl; number = refl; run = y.since }
