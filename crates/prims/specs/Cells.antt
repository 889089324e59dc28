-- Cells require nothing of an SCX-record.
use Rattle.std.specs.Prelude.{ℕ}
use Rattle.histories.specs.Common.{Layout, History}

-- cells let every SCX-record begin
abbrev pub AllowsAll : Layout → History → ℕ → Type 0
AllowsAll lay h s = Unit {0}
