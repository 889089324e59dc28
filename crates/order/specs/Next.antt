-- What an ordered read does next in its try, before it is at the place for it.
use Rattle.std.specs.Prelude.{◌≡◌, ◌<◌, List, length, Result, Ok, Err}
use Rattle.histories.specs.Common.{History, value, Call}
use Rattle.template.specs.Common.{Snap, level, IsOwnMoment}
use Rattle.order.specs.Found.{IsAtLowFork, IsRightAt, Looks, Stands, StandsBefore, StandsIn, TakesPair, place_low}
use Rattle.order.specs.Meaning.{ReadMeaning}
use Rattle.order.specs.Reads.{Whenever}
use Rattle.order.specs.declared.load.ReadLoad.{ReadLoad}
use Rattle.order.specs.declared.load.ReadLoad.TheVariants.{Head, Key, More, Pair, Value, High}
use Rattle.order.specs.declared.read.ReadNext.{ReadNext}
use Rattle.order.specs.declared.read.ReadNext.TheVariants.{Load, Look, Validate}
use Rattle.order.specs.declared.refused.Refused.{Refused}
use Rattle.order.specs.declared.refused.Refused.TheVariants.{NoMemory}

module _ {R A : Type 0} (means : ReadMeaning R A) (r : R) (snaps : List Snap) (c : Call) (h : History) where
  -- at an own moment of its call it has looked at all that it needs, and what it has found is right
  -- as long as all infos are as they were found
  pub record MayValidate : Type 0 where
    pub asks : means.asks (means.call r)
    pub own : IsOwnMoment c h
    pub some : 0 < length snaps
    pub right : Whenever c.layout h snaps (λ b. IsRightAt means r c.layout b)

  -- what it knows when this word may be loaded
  abbrev pub MayLoad : ReadLoad → Type 0
  MayLoad (Head above n) = Stands means r snaps c h n.0 × (above < level (value h) n.0)
  MayLoad (Key low n) = IsAtLowFork means r snaps c h low n.0
  MayLoad (More n) = StandsBefore means r snaps c h n
  MayLoad (Pair p) = StandsIn means r snaps c h p
  MayLoad (Value p key) = TakesPair means r snaps c h p key
  MayLoad (High p key low) = TakesPair means r snaps c h p key × (place_low h p ≡ low)

  -- and when this may come next
  abbrev pub MayDo : ReadNext → Type 0
  MayDo (Load load) = MayLoad load
  MayDo (Look children low n) = Looks means r snaps c h children low n.0
  MayDo Validate = MayValidate

  -- it continues so; or it ends, for want of memory
  abbrev pub GoesOnSo : Result ReadNext Refused → Type 0
  GoesOnSo (Ok next) = MayDo next
  GoesOnSo (Err refused) = refused ≡ NoMemory
