-- What contracts see of a call that is held open.
use Rattle.std.specs.Prelude.{◌≡◌, ℕ, suc, ◌<◌, Bool, true, false, List, ◌∷◌, ◌++◌, Some, None}
use Rattle.histories.specs.Common.{Kind, Row}
use Rattle.ordered_map.specs.OrderedMap.{MapCall}
use Rattle.dict.specs.Calls.{AsksForPairs}
use Rattle.forest.specs.declared.open.Stepped.{Stepped}
use Rattle.forest.specs.declared.open.Stepped.TheVariants.{More, Done}
use Rattle.planting.specs.Plantings.{PlantingView}
use Rattle.tables.specs.Passes.{PassView, taken_of}
use Rattle.tables.specs.Traces.{IsStepBehind}

-- a call that is held open
pub record OpenView : Type 0 where
  -- its pass, as the call began
  pub began : PassView
  -- the run that its pass knows by now, newest row first, and what it began with
  pub planting : PlantingView
  pub known : List Row
  -- what it is a call of, and how often it may try
  pub call : MapCall
  pub tries : ℕ
  -- how many steps it has made, and how many it may still make
  pub made : ℕ
  pub left : ℕ
  -- whether it is over
  pub over : Bool

-- the pass as the call began, with the run that it knows by now
abbrev pub pass_now : OpenView → PassView
pass_now o = record o.began { planting = o.planting; known = o.known }

-- the call has made a step of this kind
abbrev pub HasMadeStep : OpenView → OpenView → Kind → Type 0
HasMadeStep old new kind = IsStepBehind old.known new.known old.began.number (taken_of old.began) kind

-- it has made one step; or none, which only a range that asks for no pairs answers
abbrev pub HasStepped : OpenView → OpenView → Stepped → Type 0
HasStepped old new (More kind) = (new.made ≡ suc old.made) × (new.left < old.left) × (new.over ≡ false) × HasMadeStep old new kind
HasStepped old new (Done (Some kind)) = (new.made ≡ suc old.made) × (new.over ≡ true) × (new.left ≡ 0) × HasMadeStep old new kind
HasStepped old new (Done None) = (new.made ≡ old.made) × (old.made ≡ 0) × (new.over ≡ true) × (new.left ≡ 0) × (new.known ≡ old.known) × ¬ AsksForPairs old.call

-- it is the same call, further on
pub record IsSameOpen (old new : OpenView) : Type 0 where
  pub began : new.began ≡ old.began
  pub call : new.call ≡ old.call
  pub tries : new.tries ≡ old.tries
