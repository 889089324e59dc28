-- Counts of calls and replies.
use Rattle.std.proofs.Common.{◌≡◌, ◌≢◌, List, [], ◌∷◌, ℕ, ◌+◌, ◌-◌, ◌^◌, ◌<◌, ◌≤◌, Bool, true, false, refl, sym, ◌∙◌, arith, length, min, suc, cond, eqb}
use Rattle.std.proofs.lemmas.Bool.{eqb-true, eqb-false}
use Rattle.record.specs.Common.{Call, answered}
use Rattle.report.specs.declared.count.Counts.{Counts}
use Rattle.report.specs.Report.{calls_by}
use Rattle.record.specs.declared.record.Line.{Line}
use Rattle.record.specs.declared.record.Line.TheVariants.{Step, Log, Reply}
use Rattle.record.specs.declared.record.TurnRow.TheVariants.{Step as Made, Idle}
use Rattle.record.specs.declared.record.Finished.{Finished}
use Rattle.report.specs.Numbered.{AreNumbered, IsOfNextCall}
use Rattle.report.specs.Counts.{HasCounted, HasCountedReplies, calls_counted}

-- a client has no more calls than there are
pub calls_by_bound : (client : ℕ) (calls : List Call) → calls_by client calls ≤ length calls
calls_by_bound client [] = omega arith
calls_by_bound client (call ∷ calls) = go (eqb call.client.0 client) (calls_by_bound client calls) where
  go : (same : Bool) → calls_by client calls ≤ length calls → cond same (suc (calls_by client calls)) (calls_by client calls) ≤ suc (length calls)
  go true bound = omega (arith, bound)
  go false bound = omega (arith, bound)

-- the count of a client after one more of some client
one_more : (old new : Counts) (c client n : ℕ) → calls_counted old client ≡ n → n < 2 ^ 64 - 1
    → (c ≡ client → calls_counted new c ≡ min (calls_counted old c + 1) (2 ^ 64 - 1))
    → (client ≢ c → calls_counted new client ≡ calls_counted old client)
    → calls_counted new client ≡ cond (eqb c client) (suc n) n
one_more old new c client n before fits more other = go (eqb c client) refl where
  go : (same : Bool) → eqb c client ≡ same → calls_counted new client ≡ cond same (suc n) n
  go true same =
      let is : c ≡ client = eqb-true c client same in
      let told : calls_counted new client ≡ min (calls_counted old client + 1) (2 ^ 64 - 1) = rw (← is) (more is) in
      omega (arith, told, before, fits)
  go false same = other (λ is. eqb-false c client same (sym is)) ∙ before

-- the counts after one more call
pub counted_more : (old new : Counts) (earlier : List Call) (call : Call) → HasCounted old earlier → length earlier < 2 ^ 64 - 1
    → calls_counted new call.client.0 ≡ min (calls_counted old call.client.0 + 1) (2 ^ 64 - 1)
    → ((other : ℕ) → other ≢ call.client.0 → calls_counted new other ≡ calls_counted old other)
    → HasCounted new (call ∷ earlier)
counted_more old new earlier call counted fits more others client =
    one_more old new call.client.0 client (calls_by client earlier) (counted client) (omega (arith, fits, calls_by_bound client earlier)) (λ _. more) (others client)

-- a client has no more replies than there are lines
answered_bound : (client : ℕ) (lines : List Line) → answered lines client ≤ length lines
answered_bound client [] = omega arith
answered_bound client (Step row ∷ lines) = omega (arith, answered_bound client lines)
answered_bound client (Log entry ∷ lines) = omega (arith, answered_bound client lines)
answered_bound client (Reply reply ∷ lines) = go (eqb reply.client.0 client) (answered_bound client lines) where
  go : (same : Bool) → answered lines client ≤ length lines → cond same (suc (answered lines client)) (answered lines client) ≤ suc (length lines)
  go true bound = omega (arith, bound)
  go false bound = omega (arith, bound)

-- the counts after one more reply
pub counted_reply : (old new : Counts) (passes : ℕ) (lines : List Line) (reply : Finished) → HasCountedReplies old passes lines → length lines < 2 ^ 64 - 1
    → (reply.client.0 < passes → calls_counted new reply.client.0 ≡ min (calls_counted old reply.client.0 + 1) (2 ^ 64 - 1))
    → ((other : ℕ) → other < passes → other ≢ reply.client.0 → calls_counted new other ≡ calls_counted old other)
    → HasCountedReplies new passes (Reply reply ∷ lines)
counted_reply old new passes lines reply counted fits more others client below =
    one_more old new reply.client.0 client (answered lines client) (counted client below) (omega (arith, fits, answered_bound client lines)) (λ is. more (rw is below)) (others client below)

-- a step of the call that comes next, after numbered lines
pub numbered_more : (passes : ℕ) (counts : Counts) (lines : List Line) (line : Line) → HasCountedReplies counts passes lines → IsOfNextCall (calls_counted counts) line → AreNumbered passes lines → AreNumbered passes (line ∷ lines)
numbered_more passes counts lines (Step (Made number row)) counted next numbered = (λ below. next ∙ counted row.pass.0 below, numbered)
numbered_more passes counts lines (Step (Idle number client)) counted next numbered = numbered
numbered_more passes counts lines (Log entry) counted next numbered = numbered
numbered_more passes counts lines (Reply reply) counted next numbered = numbered

-- nor does another line count
pub counted_other : (counts : Counts) (passes : ℕ) (lines : List Line) (line : Line) → ((r : Finished) → line ≢ Reply r) → HasCountedReplies counts passes lines → HasCountedReplies counts passes (line ∷ lines)
counted_other counts passes lines (Step row) other counted = counted
counted_other counts passes lines (Log entry) other counted = counted
counted_other counts passes lines (Reply r) other counted = absurd (other r refl)
