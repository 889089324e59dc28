-- What a pass has itself found in the info of a node.
use Rattle.std.specs.Prelude.{◌≡◌, ℕ}
use Rattle.histories.specs.Common.{Row, info, History, ◌⊳◌, value, Extends}

-- since the moment `start` the pass c has itself found s in the info of n: it has made a step
-- there, a load or an exchange, just before which the info was s
pub record HasFoundThere (c : ℕ) (h start : History) (n s : ℕ) : Type 0 where
  pub row : Row
  pub before : History
  pub within : Extends h (row ⊳ before)
  pub since : Extends before start
  pub own : row.pass.0 ≡ c
  pub word : row.word ≡ info n
  pub found : value before (info n) ≡ s
