-- What a run remembers of the steps, where it hands on its calls as a slice.
use Rattle.std.proofs.Common.{◌≡◌, ℕ, List, ◌∷◌, refl, sym, subst}
use Rattle.arena.specs.declared.layout.Layout.{Layout}
use Rattle.script.specs.declared.call.Call.{Call}
use Rattle.record.specs.declared.record.Line.{Line}
use Rattle.record.specs.declared.record.Line.TheVariants.{Reply as ReplyLine}
use Rattle.record.specs.declared.record.Finished.{Finished}
use Rattle.audit.specs.declared.client.ClientState.{ClientState}
use Rattle.audit.specs.declared.steps.Steps.{Steps}
use Rattle.audit.specs.After.{IsClientAfter}
use Rattle.audit.specs.Remembered.{AreRemembered, AreRememberedInCall}

-- the call of this client has begun, or begins now
pub begun_of : (lay : Layout) (calls given : List Call) (lines : List Line) (old new : Steps) (client : ClientState) (c : ℕ) → given ≡ calls → client.pass.0 ≡ c → ((lay : Layout) (lines : List Line) → AreRemembered lay given lines old → IsClientAfter lay given lines client.pass.0 client → AreRememberedInCall lay given lines client.pass.0 new) → AreRemembered lay calls lines old → IsClientAfter lay calls lines c client → AreRememberedInCall lay calls lines c new
begun_of lay calls given lines old new client c same own begins x y =
    subst (λ (n : ℕ). AreRememberedInCall lay calls lines n new) own
    (subst (λ (k : List Call). AreRememberedInCall lay k lines client.pass.0 new) same
    (begins lay lines
    (subst (λ (k : List Call). AreRemembered lay k lines old) (sym same) x)
    (subst (λ (k : List Call). IsClientAfter lay k lines client.pass.0 client) (sym same) (subst (λ (n : ℕ). IsClientAfter lay calls lines n client) (sym own) y))))

-- the call of this client is answered
pub kept_behind : (lay : Layout) (calls given : List Call) (lines : List Line) (old new : Steps) (client : ClientState) (reply : Finished) → given ≡ calls → reply.client ≡ client.pass → ((lay : Layout) (lines : List Line) (r : Finished) → AreRemembered lay given lines old → IsClientAfter lay given lines client.pass.0 client → r.client ≡ client.pass → r.answer ≡ reply.answer → AreRemembered lay given (ReplyLine r ∷ lines) new) → AreRemembered lay calls lines old → IsClientAfter lay calls lines client.pass.0 client → AreRemembered lay calls (ReplyLine reply ∷ lines) new
kept_behind lay calls given lines old new client reply same own keeps x y =
    subst (λ (k : List Call). AreRemembered lay k (ReplyLine reply ∷ lines) new) same
    (keeps lay lines reply
    (subst (λ (k : List Call). AreRemembered lay k lines old) (sym same) x)
    (subst (λ (k : List Call). IsClientAfter lay k lines client.pass.0 client) (sym same) y)
    own refl)
