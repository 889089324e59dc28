-- The rows of a script.
use Rattle.std.specs.Prelude.{ℕ, List, [], ◌∷◌, codes, decimal}
use Rattle.arena.specs.declared.limits.Limits.{Limits}

-- the first row of a script, which says its limits
abbrev pub limits_row : Limits → List (List ℕ)
limits_row l = codes "limits" ∷ decimal l.passes ∷ decimal l.nodes ∷ decimal l.scx ∷ decimal l.tries ∷ []
