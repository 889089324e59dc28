-- What passes of dictionaries that last do between two calls: they rest, go away and come back.
use Rattle.std.specs.Prelude.{◌≡◌, ◌≢◌, ◌<◌, ℕ, Bool, false, true, Option, Some, None, IfSome, Result, Ok, Err}
use Rattle.std.specs.Global.{Global}
use Rattle.std.specs.declared.sync.Arc.{Arc}
use Rattle.arena.specs.declared.number.PassNo.{PassNo}
use Rattle.dict.specs.Typed.{TypedAllows}
use Rattle.dict.specs.Words.{IsNumber, IsWideNumber}
use Rattle.forest.specs.LookUps.{HasRestedIn}
use Rattle.forest.specs.Rests.{HasOnlyRested}
use Rattle.tables.specs.Passes.{Ground, PassView, steps_of}
use Rattle.capi.specs.Owned.{lasts, owner_of, pass_of}
use Rattle.capi.specs.declared.away.AwayPass.{AwayPass}
use Rattle.capi.specs.declared.away.AwayPass.TheVariants as gone
use Rattle.capi.specs.declared.client.OwnedPass.{OwnedPass}
use Rattle.capi.specs.declared.client.OwnedPass.TheVariants as held
use Rattle.capi.specs.declared.presence.Presence.{Presence}
use Rattle.capi.specs.declared.presence.Presence.TheVariants.{Away, Here, Nobody}

-- the owner of its forest that a pass has while it is away
abbrev pub away_owner : AwayPass → Arc Ground Global
away_owner (gone.Tree held) = held.forest
away_owner (gone.Trie held) = held.forest

-- the pass
abbrev pub away_of : AwayPass → PassView
away_of (gone.Tree held) = held.away
away_of (gone.Trie held) = held.away

-- a pass of a dictionary of numbers has made no call
abbrev pub HasRested : PassView → PassView → Type 0
HasRested = HasOnlyRested (TypedAllows IsNumber IsWideNumber)

-- the pass stays in its forest, and keeps its share; it has made no step, and no call
pub record StaysAs (owner new_owner : Arc Ground Global) (old new : PassView) : Type 0 where
  pub same : new_owner ≡ owner
  pub share : new.share ≡ old.share
  pub steps : steps_of new ≡ steps_of old
  pub rested : HasRested old new

-- a pass of a dictionary that lasts has gone away; another is as it was
abbrev pub HasGoneAway : OwnedPass → Result AwayPass OwnedPass → Type 0
HasGoneAway (held.LastingTree h) (Ok a) = StaysAs h.forest (away_owner a) h.pass (away_of a)
HasGoneAway (held.LastingTrie h) (Ok a) = StaysAs h.forest (away_owner a) h.pass (away_of a)
HasGoneAway (held.LastingTree h) (Err c) = ⊥
HasGoneAway (held.LastingTrie h) (Err c) = ⊥
HasGoneAway (held.Tree h) told = told ≡ Err (held.Tree h)
HasGoneAway (held.Trie h) told = told ≡ Err (held.Trie h)

-- a pass that was away is back, in its dictionary that lasts
abbrev pub IsBack : AwayPass → OwnedPass → Type 0
IsBack a c = (lasts c ≡ true) × StaysAs (away_owner a) (owner_of c) (away_of a) (pass_of c)

-- the pass has rested, in a trie or in a tree, and waits for this other pass, if for one
pub record HasRestedBy (trie : Bool) (old new : PassView) (told : Option PassNo) : Type 0 where
  pub rested : HasRestedIn trie (TypedAllows IsNumber IsWideNumber) old new
  pub waits : IfSome told (λ other. (other.0 < new.layout.passes) × (other.0 ≢ new.number))

-- a pass has rested, if its dictionary lasts; another is as it was, and waits for nobody
abbrev pub HasRestedAs : OwnedPass → OwnedPass → Option PassNo → Type 0
HasRestedAs (held.LastingTree h) new told = (lasts new ≡ true) × HasRestedBy false h.pass (pass_of new) told
HasRestedAs (held.LastingTrie h) new told = (lasts new ≡ true) × HasRestedBy true h.pass (pass_of new) told
HasRestedAs (held.Tree h) new told = (new ≡ held.Tree h) × (told ≡ None)
HasRestedAs (held.Trie h) new told = (new ≡ held.Trie h) × (told ≡ None)

-- what `rest` answers of the pass that is waited for, whose number it leaves in this room
abbrev pub IsPassAnswer : Option PassNo → ℕ → ℕ → Type 0
IsPassAnswer (Some other) room status = (room ≡ other.0) × (status ≡ 1)
IsPassAnswer None room status = status ≡ 0

-- what `rest` says
abbrev pub RestSays : ℕ → OwnedPass → OwnedPass → ℕ → Type 0
RestSays room old new status = (told : Option PassNo) × IsPassAnswer told room status × HasRestedAs old new told

-- what `away` answers, and leaves in the handle: the pass is away, if it was there and its
-- dictionary lasts; else nothing is done
abbrev pub AwaySays : Option Presence → Option Presence → ℕ → Type 0
AwaySays (Some (Here c)) (Some (Away a)) status = (status ≡ 0) × HasGoneAway c (Ok a)
AwaySays (Some (Here c)) (Some (Here d)) status = (status ≡ 6) × HasGoneAway c (Err d)
AwaySays (Some (Here c)) (Some Nobody) status = ⊥
AwaySays (Some (Here c)) None status = ⊥
AwaySays (Some (Away a)) after status = (after ≡ Some (Away a)) × (status ≡ 6)
AwaySays (Some Nobody) after status = (after ≡ Some Nobody) × (status ≡ 6)
AwaySays None after status = (after ≡ None) × (status ≡ 6)

-- what `back` answers, and leaves in the handle: the pass is there, if it was away; else nothing is
-- done
abbrev pub BackSays : Option Presence → Option Presence → ℕ → Type 0
BackSays (Some (Away a)) (Some (Here c)) status = (status ≡ 0) × IsBack a c
BackSays (Some (Away a)) (Some (Away b)) status = ⊥
BackSays (Some (Away a)) (Some Nobody) status = ⊥
BackSays (Some (Away a)) None status = ⊥
BackSays (Some (Here c)) after status = (after ≡ Some (Here c)) × (status ≡ 6)
BackSays (Some Nobody) after status = (after ≡ Some Nobody) × (status ≡ 6)
BackSays None after status = (after ≡ None) × (status ≡ 6)
