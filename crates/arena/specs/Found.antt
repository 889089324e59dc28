-- What a pass has found in the info words of nodes.
use Rattle.std.specs.Prelude.{◌≡◌, ◌≢◌, ℕ}
use Rattle.arena.specs.declared.step.Row.{Row}
use Rattle.arena.specs.declared.step.Kind.{Kind}
use Rattle.arena.specs.Words.{info}
use Rattle.arena.specs.History.{History, ◌⊳◌, value, Extends}

-- the newest row of this kind that the pass c has made is this one, on
-- the info of n, right after the history `before`
pub record IsLastStep (c : ℕ) (h : History) (kind : Kind) (n : ℕ) (row : Row) (before : History) : Type 0 where
  pub within : Extends h (row ⊳ before)
  pub own : row.pass.0 ≡ c
  pub is_kind : row.kind ≡ kind
  pub word : row.word ≡ info n
  pub none_since : (later : Row) (k : History) → Extends h (later ⊳ k) → Extends k (row ⊳ before) → later.pass.0 ≡ c → later.kind ≢ kind

-- the newest row of this kind that the pass c has made, which is
-- after the moment `start`, found s in the info of n
pub record HasFound (c : ℕ) (h start : History) (kind : Kind) (n s : ℕ) : Type 0 where
  pub row : Row
  pub before : History
  pub since : Extends before start
  pub last : IsLastStep c h kind n row before
  pub found : value before (info n) ≡ s
