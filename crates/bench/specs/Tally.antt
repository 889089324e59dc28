-- How many rounds are counted.
use Rattle.std.specs.Prelude.{◌+◌, ℕ}
use Rattle.bench.specs.declared.tally.Tally.{Tally}

-- how many rounds there were, however they ended
abbrev pub total : Tally → ℕ
total t = t.done + t.lost + t.fail
