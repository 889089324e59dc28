-- A call by itself.
use Rattle.std.specs.Prelude.{◌≡◌, ℕ}
use Rattle.arena.specs.declared.step.Row.{Row}
use Rattle.arena.specs.Blame.{IsInProgress}
use Rattle.arena.specs.History.{History, ◌⊳◌, Extends}
use Rattle.arena.specs.Machines.{Call}

-- no SCX-record is in progress
abbrev pub IsAtRest : History → Type 0
IsAtRest h = (s : ℕ) → ¬ IsInProgress h s

-- Nothing was in progress as the call began, and each row since then is its pass's.
pub record IsUndisturbed (c : Call) (h : History) : Type 0 where
  pub since : Extends h c.start
  pub rest : IsAtRest c.start
  pub own : (row : Row) (before : History) → Extends h (row ⊳ before) → Extends before c.start → row.pass.0 ≡ c.pass
