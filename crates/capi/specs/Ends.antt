-- What `end` says, which ends a dictionary by all its passes at once. The handles are given by what
-- they hold.
use Rattle.std.specs.Prelude.{◌≡◌, ◌<◌, ◌≤◌, ◌⊎◌, ℕ, Bool, true, false, Option, Some, None, IsSome, List, [], ◌∷◌, length, map, take}
use Rattle.std.specs.Arc.{arc_value}
use Rattle.std.specs.List.{All}
use Rattle.std.specs.Option.{option_map}
use Rattle.arena.specs.declared.layout.Layout.{Layout}
use Rattle.tables.specs.Passes.{Ground, PassView}
use Rattle.capi.specs.Answers.{StandIn, counted, no_count}
use Rattle.capi.specs.Left.{AreLeftIn}
use Rattle.capi.specs.Handles.{holds_lasting, holds_trie}
use Rattle.capi.specs.Made.{IsHeldOf}
use Rattle.capi.specs.declared.answer.Count.{Count}
use Rattle.capi.specs.declared.answer.KeyValue.{KeyValue}
use Rattle.capi.specs.Owned.{owner_of, pass_of}
use Rattle.capi.specs.Presence.{here}
use Rattle.capi.specs.declared.presence.Presence.{Presence}
use Rattle.capi.specs.declared.presence.Presence.TheVariants.{Away, Here, Nobody}
use Rattle.capi.specs.declared.handle.HandleSlot.{HandleSlot}

-- what these handles hold
abbrev pub held_in : List HandleSlot → List (Option Presence)
held_in = map (λ (p : HandleSlot). p.handle.value)

-- a handle is empty
abbrev pub IsEmpty : Option Presence → Type 0
IsEmpty held = held ≡ None

-- the pass that a handle holds, if one is there
abbrev pub pass_in : Option Presence → Option PassView
pass_in held = option_map pass_of (here held)

-- no pass is there, or its forest is this one
abbrev pub IsIn : Ground → Option Presence → Type 0
IsIn f None = Unit {0}
IsIn f (Some (Here c)) = arc_value (owner_of c) ≡ f
IsIn f (Some (Away a)) = Unit {0}
IsIn f (Some Nobody) = Unit {0}

-- the passes that are there are of one dictionary
pub record AreOfOne (held : List (Option Presence)) : Type 0 where
  pub forest : Ground
  pub of_forest : All (IsIn forest) held

-- a handle holds a pass that is there
abbrev pub IsThere : Option Presence → Type 0
IsThere held = IsSome (here held)

-- there are handles, and each holds a pass that is there
abbrev pub AreHeld : List (Option Presence) → Type 0
AreHeld held = (0 < length held) × All IsThere held

-- a handle holds a pass of a trie
abbrev pub IsOfTrie : Option Presence → Type 0
IsOfTrie held = holds_trie held ≡ true

-- whether the first of these handles does: so do all that are of one dictionary
abbrev pub are_lasting : List (Option Presence) → Bool
are_lasting [] = false
are_lasting (held ∷ others) = holds_lasting held

-- each handle has a pass of one dictionary, which has more passes than these
pub record AreTooFew (held : List (Option Presence)) : Type 0 where
  pub forest : Ground
  pub of_forest : All (IsHeldOf forest) held
  pub few : length held < forest.layout.passes

-- the handles had all passes of a dictionary, which has ended with these pairs
pub record HaveEndedWith (held : List (Option Presence)) (pairs : List (ℕ × ℕ)) : Type 0 where
  pub passes : List PassView
  pub are : map pass_in held ≡ map Some passes
  pub layout : Layout
  pub left : AreLeftIn (are_lasting held) layout passes pairs

-- the pairs that are left are in the room, as far as they go in
pub record HasToldAll (held : List (Option Presence)) (room : List KeyValue) (a : Count) : Type 0 where
  pub pairs : List (ℕ × ℕ)
  pub left : HaveEndedWith held pairs
  pub count : a ≡ counted (length pairs)
  pub put : StandIn (take (length room) pairs) room

-- each handle holds a pass, and they are as many as their dictionary has passes
pub record AreEnough (held : List (Option Presence)) : Type 0 where
  pub each : AreHeld held
  pub enough : (f : Ground) → All (IsHeldOf f) held → f.layout.passes ≤ length held

-- the handles hold what they held: in one no pass was there, or they are too few
pub record IsNotEnded (before after : List (Option Presence)) (a : Count) : Type 0 where
  pub same : after ≡ before
  pub why : ((a ≡ no_count 6) × (¬ AreHeld before)) ⊎ ((a ≡ no_count 7) × AreTooFew before)

-- the handles had enough, and are empty: an allocation was refused, and the dictionary is gone; or
-- its pairs are answered
pub record HasEnded (before after : List (Option Presence)) (room : List KeyValue) (a : Count) : Type 0 where
  pub all : AreEnough before
  pub empty : All IsEmpty after
  pub told : (a ≡ no_count 4) ⊎ HasToldAll before room a

-- what `end` answers, and leaves in the handles and in its room
abbrev pub EndSays : List (Option Presence) → List (Option Presence) → List KeyValue → Count → Type 0
EndSays before after room a = IsNotEnded before after a ⊎ HasEnded before after room a
