-- Turns of one client that follow one another.
use Rattle.std.specs.Prelude.{◌≡◌, ◌≢◌, ℕ, ◌+◌, ◌<◌, List, [], ◌∷◌, ◌++◌, IsSome, IsNone}
use Rattle.arena.specs.declared.step.Kind.{Kind}
use Rattle.script.specs.declared.call.Call.{Call}
use Rattle.record.specs.declared.record.Line.{Line}
use Rattle.record.specs.declared.record.Line.TheVariants.{Step, Log, Reply}
use Rattle.record.specs.Turns.{client_of, answered, made}
use Rattle.record.specs.Commands.{next_command}

-- the client has a call that is not answered
abbrev pub HasCall : List Call → ℕ → List Line → Type 0
HasCall calls c lines = IsSome (next_command calls lines c)

-- all calls of the client are answered
abbrev pub HasNoCall : List Call → ℕ → List Line → Type 0
HasNoCall calls c lines = IsNone (next_command calls lines c)

-- the client has a call that is not answered, and has had no reply since the older lines
abbrev pub AwaitsReply : List Call → ℕ → List Line → List Line → Type 0
AwaitsReply calls c older lines = HasCall calls c lines × (answered lines c ≡ answered older c)

-- the client has a call that is not answered, and has not made so
-- that many more steps of the kind since the older lines
abbrev pub AwaitsSteps : List Call → ℕ → Kind → ℕ → List Line → List Line → Type 0
AwaitsSteps calls c kind times older lines = HasCall calls c lines × (made lines c kind < made older c kind + times)

-- the lines after the older ones are turns of this client, each with its entry or reply after it,
-- and each was made where `so` held of the lines before it
unfoldable pub AreMadeWhile : (List Line → Type 0) → ℕ → List Line → List Line → Type 0
AreMadeWhile so c older [] = Unit {0}
AreMadeWhile so c older (Step row ∷ behind) = AreMadeWhile so c older behind × (client_of row ≡ c) × so (behind ++ older)
AreMadeWhile so c older (Log entry ∷ behind) = AreMadeWhile so c older behind × (behind ≢ [])
AreMadeWhile so c older (Reply reply ∷ behind) = AreMadeWhile so c older behind × (behind ≢ [])
