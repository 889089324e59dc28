-- What the handles of a new dictionary hold.
use Rattle.std.specs.Prelude.{◌≡◌, Option, Some, None, List, map}
use Rattle.std.specs.List.{All}
use Rattle.std.specs.Arc.{arc_value}
use Rattle.std.specs.Option.{option_map}
use Rattle.arena.specs.Limits.{IsAccepted, IsLayoutOf}
use Rattle.arena.specs.declared.limits.Limits.{Limits}
use Rattle.arena.specs.declared.limits.Mode.{Mode}
use Rattle.planting.specs.Plantings.{nothing_planted}
use Rattle.tables.specs.LastingTables.{BeginsLasting}
use Rattle.tables.specs.Passes.{Ground, PassView, AreNew}
use Rattle.capi.specs.Owned.{owner_of, pass_of}
use Rattle.capi.specs.Presence.{here}
use Rattle.capi.specs.declared.presence.Presence.{Presence}
use Rattle.capi.specs.declared.presence.Presence.TheVariants.{Away, Here, Nobody}
use Rattle.capi.specs.declared.handle.HandleSlot.{HandleSlot}

-- a pass is there, and its forest is this one
abbrev pub IsHeldOf : Ground → Option Presence → Type 0
IsHeldOf f None = ⊥
IsHeldOf f (Some (Here c)) = arc_value (owner_of c) ≡ f
IsHeldOf f (Some (Away a)) = ⊥
IsHeldOf f (Some Nobody) = ⊥

-- the pass that a handle holds, if there is one
abbrev pub pass_at : HandleSlot → Option PassView
pass_at place = option_map pass_of (here place.handle.value)

-- The limits are accepted, and there is one forest of them, of this mode, which begins empty. The
-- handles hold all its passes, in order, before their first steps.
pub record AreMade (mode : Mode) (limits : Limits) (places : List HandleSlot) : Type 0 where
  pub accepted : IsAccepted limits
  pub forest : Ground
  pub layout : IsLayoutOf limits mode forest.layout
  pub tries : forest.tries ≡ limits.tries
  pub empty : forest.planting ≡ nothing_planted mode
  pub of_forest : All (λ p. IsHeldOf forest p.handle.value) places
  pub passes : List PassView
  pub new : AreNew forest passes
  pub held : map pass_at places ≡ map Some passes

-- The same of a forest whose records come back: each of its calls makes one try, and the limits are
-- of what a pass has in use at a time.
pub record AreMadeLasting (mode : Mode) (limits : Limits) (places : List HandleSlot) : Type 0 where
  pub accepted : IsAccepted limits
  pub forest : Ground
  pub passes : List PassView
  pub begins : BeginsLasting limits mode forest passes
  pub of_forest : All (λ p. IsHeldOf forest p.handle.value) places
  pub held : map pass_at places ≡ map Some passes
