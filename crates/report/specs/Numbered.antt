-- In which call of its client a step was made, which a report does not say.
use Rattle.std.specs.Prelude.{◌≡◌, ◌<◌, ⊤, ℕ, List, [], ◌∷◌}
use Rattle.record.specs.declared.record.Line.{Line}
use Rattle.record.specs.declared.record.Line.TheVariants.{Step, Log, Reply}
use Rattle.record.specs.declared.record.TurnRow.TheVariants.{Step as Made, Idle}
use Rattle.record.specs.Turns.{answered}

-- a step in this line is of the call that comes next after as many of its client
abbrev pub IsOfNextCall : (ℕ → ℕ) → Line → Type 0
IsOfNextCall calls (Step (Made number row)) = row.call ≡ calls row.pass.0
IsOfNextCall calls (Step (Idle number client)) = ⊤
IsOfNextCall calls (Log entry) = ⊤
IsOfNextCall calls (Reply reply) = ⊤

-- each step of one of the clients below this number is of its client's first
-- call without a reply; the newest line comes first
abbrev pub AreNumbered : ℕ → List Line → Type 0
AreNumbered passes [] = ⊤
AreNumbered passes (Step (Made number row) ∷ lines) = (row.pass.0 < passes → row.call ≡ answered lines row.pass.0) × AreNumbered passes lines
AreNumbered passes (Step (Idle number client) ∷ lines) = AreNumbered passes lines
AreNumbered passes (Log entry ∷ lines) = AreNumbered passes lines
AreNumbered passes (Reply reply ∷ lines) = AreNumbered passes lines
