-- Whether the pass that C holds is there, so that calls can be made with it, or away.
use Rattle.std.specs.Prelude.{Option, Some, None}
use Rattle.capi.specs.declared.client.OwnedPass.{OwnedPass}
use Rattle.capi.specs.declared.presence.Presence.{Presence}
use Rattle.capi.specs.declared.presence.Presence.TheVariants.{Away, Here, Nobody}

-- the pass that is there, if there is one
abbrev pub here : Option Presence → Option OwnedPass
here None = None
here (Some (Here c)) = Some c
here (Some (Away a)) = None
here (Some Nobody) = None

-- the pass is there
abbrev pub IsHere : Presence → Type 0
IsHere (Here c) = Unit {0}
IsHere (Away a) = ⊥
IsHere Nobody = ⊥
