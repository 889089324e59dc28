-- With a hand by a copy of the plan, a call continues as with the hand itself.
use Rattle.std.proofs.Common.{◌≡◌, ◌+◌, ◌≤◌, ℕ, Bool, Result, subst, sym}
use Rattle.atomic_table.specs.declared.shared.Seat.{Seat}
use Rattle.histories.specs.Common.{Layout, Mode}
use Rattle.arena.specs.declared.machine.Machine.{Ghosts as Machine}
use Rattle.arena.specs.declared.machine.Shape.{Ghosts as Shape}
use Rattle.edits.specs.Edits.{EditMeaning}
use Rattle.edits.specs.Next.{left_then as update_left_then}
use Rattle.edits.specs.declared.update.Next.{Next}
use Rattle.edits.specs.declared.update.Stop.{Stop}
use Rattle.edits.specs.declared.update.UpdateRun.{UpdateRun}
use Rattle.order.specs.Meaning.{ReadMeaning}
use Rattle.order.specs.declared.read.ReadNext.{ReadNext}
use Rattle.order.specs.declared.run.ReadRun.{ReadRun}
use Rattle.template.specs.declared.walk.Found.{Found}
use Rattle.tables.specs.Slotted.{names_of_table}
use Rattle.tables.specs.Traces.{shared_nodes}
use Rattle.tables.specs.declared.memory.PassMemory.{PassMemory}
use Rattle.tables.specs.declared.view.SeatView.{SeatView}
use Rattle.straight.specs.CallKinds.{Calls, calls}
use Rattle.straight.specs.Hands.{IsAt, hand_calls, names}
use Rattle.straight.specs.Leads.{steps_made}
use Rattle.straight.specs.StraightReads.{ReadGoesOn, Reader, ReaderGoesOn, ReaderWaits, StandsToRead, left_then}
use Rattle.straight.specs.StraightUpdate.{StandsToTry, TryGoesOn, Updater, UpdaterGoesOn}
use Rattle.straight.specs.declared.hand.Hand.{Hand}
use Rattle.straight.specs.declared.ordered_read.ReadStop.{ReadStop}

module _ {S : Type 0} (own hand : Hand S) (words : own.words ≡ hand.words) where
  same_names : names own ≡ names hand
  same_names i = names_of_table (words i).now.table.shared.key

  -- its table and its seat are the same
  pub at_copy : {mode : Mode} {lasts : Bool} (seat : Seat ℕ SeatView) → own.plan.now ≡ hand.plan.now → IsAt mode lasts hand seat → IsAt mode lasts own seat
  at_copy seat plan x = rw (words, plan) x

  module _ (number : own.number ≡ hand.number) where
    same_calls : {T M A : Type 0} (s : Shape T) (m : Machine M T A) (left : M → PassMemory → Type 0) → hand_calls s m left own ≡ hand_calls s m left hand
    same_calls s m left i = calls s m left (names_of_table (words i).now.table.shared.key) (number i)

    -- a read that may continue with the hand may do so with the other
    pub reads_by_copy : {T M A R B : Type 0} (s : Shape T) (m : Machine M T A) (left : M → PassMemory → Type 0) (means : ReadMeaning R B) (old : Seat ℕ SeatView) (run : ReadRun R) (next : ReadNext) → StandsToRead s m left means hand old run next → StandsToRead s m left means own old run next
    reads_by_copy {M = M} s m left means old run next x = subst (λ (c : Calls M). (r : Reader c means) × ReaderWaits r old.me.0.passes run next) (sym (same_calls s m left)) x

    -- so may a try
    pub tries_by_copy : {T M A E B : Type 0} (s : Shape T) (m : Machine M T A) (left : M → PassMemory → Type 0) (e : EditMeaning E) (f : Found) (old : Seat ℕ SeatView) (run : UpdateRun E B) (next : Result Next Stop) → StandsToTry s m left e hand f old run next → StandsToTry s m left e own f old run next
    tries_by_copy {M = M} s m left e f old run next x = subst (λ (c : Calls M). (u : Updater c e) × UpdaterGoesOn u old.me.0.passes run f next) (sym (same_calls s m left)) x

    module _ {T M A : Type 0} {s : Shape T} {m : Machine M T A} {left : M → PassMemory → Type 0} {old new : Seat ℕ SeatView} where
      -- what a read did with the other it did with the hand
      pub reads_own : {R B : Type 0} {means : ReadMeaning R B} {run now : ReadRun R} {fewer : ℕ} {next behind : Result ReadNext ReadStop} → ReadGoesOn s m left means own fewer old run next new now behind → ReadGoesOn s m left means hand fewer old run next new now behind
      reads_own {means = means} {run} {now} {fewer} {next} {behind} x = record {
        table = x.table;
        to = subst (λ (c : Calls M). (r : Reader c means) → ReaderGoesOn r old.me.0.passes run next → ReaderGoesOn r new.me.0.passes now behind) (same_calls s m left) x.to;
        nearer = subst (λ (l : Layout). fewer + left_then means (shared_nodes l) now behind ≤ left_then means (shared_nodes l) run next) same_names x.nearer;
        steps = subst (λ (l : Layout). steps_made new + left_then means (shared_nodes l) now behind ≤ steps_made old + left_then means (shared_nodes l) run next) same_names x.steps;
      }

      -- and a try
      pub tries_own : {E B C : Type 0} {e : EditMeaning E} {f : Found} {run : UpdateRun E B} {now : UpdateRun E C} {next behind : Result Next Stop} → TryGoesOn s m left e own f old run next new now behind → TryGoesOn s m left e hand f old run next new now behind
      tries_own {e = e} {f} {run} {now} {next} {behind} x = record {
        table = x.table;
        to = subst (λ (c : Calls M). (u : Updater c e) → UpdaterGoesOn u old.me.0.passes run f next → UpdaterGoesOn u new.me.0.passes now f behind) (same_calls s m left) x.to;
        later = x.later;
        steps = subst (λ (l : Layout). steps_made new + update_left_then e now f behind (shared_nodes l) ≤ steps_made old + update_left_then e run f next (shared_nodes l)) same_names x.steps;
      }
