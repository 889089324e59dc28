-- Words for machines and for those who make their steps.
use Rattle.std.specs.Prelude.{◌≡◌, ℕ, ◌<◌}
use Rattle.arena.specs.declared.layout.Layout.{Layout}
use Rattle.arena.specs.declared.step.Row.{Row}
use Rattle.arena.specs.declared.step.Step.{Step}
use Rattle.arena.specs.declared.step.Access.{Access}
use Rattle.arena.specs.declared.step.Access.TheVariants.{Load, Store, Exchange}
use Rattle.arena.specs.declared.machine.Turn.{Turn}
use Rattle.arena.specs.declared.machine.Turn.TheVariants.{Ask, Done}
use Rattle.arena.specs.Words.{word_after}
use Rattle.arena.specs.History.{History, value}
use Rattle.arena.specs.Lawful.{Lawful}
use Rattle.arena.specs.Shape.{Shaped}

-- what is said of a turn: P of the step that it asks for, or Q of the call's answer
abbrev pub MatchTurn : {A : Type 0} → Turn A → (Step → Type 0) → (A → Type 0) → Type 0
MatchTurn (Ask s) P Q = P s
MatchTurn (Done a) P Q = Q a

-- a lawful history in which the layer above allows each SCX-record that begins
pub record IsRun (allows : Layout → History → ℕ → Type 0) (lay : Layout) (h : History) : Type 0 where
  pub lawful : Lawful lay h
  pub shaped : Shaped allows lay h

-- a call of a machine: the pass that makes it, its number among
-- the pass's calls, and the history at its start
pub record Call : Type 0 where
  pub layout : Layout
  pub pass : ℕ
  pub is_pass : pass < layout.passes
  pub number : ℕ
  pub start : History

-- the same call, as if it had begun later
abbrev pub begun_at : Call → History → Call
begun_at c begin = record c { start = begin }

-- the row that a call's step leaves when it is made after the history
abbrev pub row_of : Call → Step → History → Row
row_of c s h = record { pass = record { 0 = c.pass }; call = c.number; kind = s.kind; word = s.word; before = value h s.word; after = word_after s.access (value h s.word) }

-- v may be what a machine gets of a step that found `found`: of a load or
-- an exchange what it found, of a store anything
abbrev pub IsTold : Access → ℕ → ℕ → Type 0
IsTold Load found v = v ≡ found
IsTold (Store new) found v = Unit {0}
IsTold (Exchange expected new) found v = v ≡ found
