-- One handle more of a new dictionary.
use Rattle.std.proofs.Common.{◌≡◌, List, [], ◌∷◌, ◌++◌, map, Option, Some, All, sym, ◌∙◌, ap, ap₂, subst}
use Rattle.std.specs.Option.{option_map}
use Rattle.std.proofs.lemmas.List.{map-append}
use Rattle.std.proofs.lemmas.List.Elements.{All-same, All-push}
use Rattle.tables.specs.Passes.{Ground, PassView}
use Rattle.capi.specs.Made.{IsHeldOf, pass_at}
use Rattle.capi.specs.Owned.{pass_of}
use Rattle.capi.specs.Presence.{here}
use Rattle.capi.specs.declared.presence.Presence.{Presence}
use Rattle.capi.specs.declared.handle.HandleSlot.{HandleSlot}

module _ (places grown : List HandleSlot) (place : HandleSlot) (items : grown ≡ places ++ place ∷ []) (value : Option Presence) (is : place.handle.value ≡ value) where
  -- it is of this forest too
  pub all_held_of : (f : Ground) → IsHeldOf f value → All (λ p. IsHeldOf f p.handle.value) places → All (λ p. IsHeldOf f p.handle.value) grown
  all_held_of f held all = All-same (λ p. IsHeldOf f p.handle.value) grown (places ++ place ∷ []) items (All-push (λ p. IsHeldOf f p.handle.value) places place all (subst (IsHeldOf f) (sym is) held))

  -- its pass is the next
  pub next_held : (passes : List PassView) (pass : PassView) → option_map pass_of (here value) ≡ Some pass → map pass_at places ≡ map Some passes → map pass_at grown ≡ map Some (passes ++ pass ∷ [])
  next_held passes pass held all =
      ap (map pass_at) items ∙ map-append pass_at places (place ∷ [])
      ∙ ap₂ (λ (l : List (Option PassView)) (r : Option PassView). l ++ r ∷ []) all (ap (λ (v : Option Presence). option_map pass_of (here v)) is ∙ held) ∙ sym (map-append Some passes (pass ∷ []))
