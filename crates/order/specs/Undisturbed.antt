-- What an ordered read answers and leaves that is a call by itself.
use Rattle.std.specs.Prelude.{◌≡◌, ℕ, ◌<◌, List, Option, Result, Ok, Err, Vec}
use Rattle.std.specs.Global.{Global}
use Rattle.histories.specs.Common.{History, value, log, Call, MatchTurn, Turn, Side}
use Rattle.template.specs.Common.{Pair, neighbour, range, Spells}
use Rattle.order.specs.declared.refused.Refused.{Refused}
use Rattle.order.specs.declared.refused.Refused.TheVariants.{Contended, NoMemory}

-- where a turn asks for a step, fewer are left then in this try than were before it
abbrev pub HasLessOfTry : {A : Type 0} → Turn A → ℕ → ℕ → Type 0
HasLessOfTry turn now before = MatchTurn turn (λ _. now < before) (λ _. Unit {0})

-- the log is what it was as the call began, and the map is still this
pub record HasLeftAll (c : Call) (h : History) (map : List Pair) : Type 0 where
  pub entries : log c.layout h ≡ log c.layout c.start
  pub spelled : Spells c.layout (value h) map

-- a search tells of this map the pair beside the key on its side, or that there is none; it is not
-- contended
abbrev pub TellsNext : Side → List Pair → ℕ → Result (Option Pair) Refused → Type 0
TellsNext side map k (Ok found) = found ≡ neighbour side k map
TellsNext side map k (Err (Contended n s)) = ⊥
TellsNext side map k (Err NoMemory) = Unit {0}

-- a range answers the first pairs of this map within the bounds; it is not contended
abbrev pub TellsRange : List Pair → ℕ → ℕ → ℕ → Result (Vec Pair Global) Refused → Type 0
TellsRange map low high most (Ok told) = told.items ≡ range low high most map
TellsRange map low high most (Err (Contended n s)) = ⊥
TellsRange map low high most (Err NoMemory) = Unit {0}
