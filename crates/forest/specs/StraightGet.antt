-- The call of a dictionary that gets the value of a key, with its walk at a place.
use Rattle.std.specs.Prelude.{ℕ}
use Rattle.arena.specs.Share.{Remaining}
use Rattle.dict.specs.declared.dict.DictRun.{DictRun}
use Rattle.dict.specs.declared.run.MapRun.TheVariants.{Get}
use Rattle.template.specs.declared.walk.WalkRun.{WalkRun}

-- the machine of a get of the key, whose pass has this share and whose calls make at most `tries`
-- tries, with its walk there
abbrev pub getting : {K V : Type 0} → Remaining → ℕ → ℕ → WalkRun → DictRun K V
getting share tries key walk = record { run = Get key walk share; tries = tries; types = record {} }
