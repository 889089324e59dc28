-- The fields of a row that name clients.
use Rattle.std.specs.Prelude.{ℕ, ◌≡◌, ◌<◌, List, decimal}

-- the field is the number of one of this many clients
abbrev pub NamesClient : ℕ → List ℕ → Type 0
NamesClient passes field = (client : ℕ) × (client < passes) × (field ≡ decimal client)
