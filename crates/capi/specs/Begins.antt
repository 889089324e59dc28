-- What begins with pairs: a new dictionary that C has given them, or one that another was left
-- with, which has ended by all its passes at once.
use Rattle.std.specs.Prelude.{◌≡◌, ◌⊎◌, ◌↔◌, ◌*◌, ℕ, Bool, IsTrue, Some, List, length, map, take}
use Rattle.std.specs.List.{All}
use Rattle.arena.specs.Limits.{IsAccepted}
use Rattle.arena.specs.declared.limits.Limits.{Limits}
use Rattle.arena.specs.declared.limits.Mode.{Mode}
use Rattle.ordered_map.specs.declared.pair.Pair.{Pair}
use Rattle.ordered_map.specs.Replies.{word_pair}
use Rattle.regnubas.specs.Balance.{map_mode}
use Rattle.forest.specs.Beginnings.{BeginsWithPairs, HasLimits, IsRefusalOfPairs}
use Rattle.tables.specs.Passes.{Ground, PassView, AreNew}
use Rattle.forest.specs.declared.fault.PairsFault.{PairsFault}
use Rattle.forest.specs.declared.fault.PairsFault.TheVariants as faults
use Rattle.capi.specs.Answers.{StandIn, limits_of, no_count, pair_of}
use Rattle.capi.specs.Ends.{AreEnough, AreHeld, AreTooFew, HaveEndedWith, IsEmpty, IsOfTrie, held_in}
use Rattle.capi.specs.Made.{IsHeldOf, pass_at}
use Rattle.capi.specs.declared.answer.Count.{Count}
use Rattle.capi.specs.declared.answer.KeyValue.{KeyValue}
use Rattle.capi.specs.declared.answer.PassLimits.{PassLimits}
use Rattle.capi.specs.declared.handle.HandleSlot.{HandleSlot}

-- pairs of numbers as those of a map
abbrev pub map_pairs : List (ℕ × ℕ) → List Pair
map_pairs = map (word_pair (λ k. k) (λ v. v))

-- The limits are accepted, and there is one forest of them, of this mode, that begins with these
-- pairs. The handles hold all its passes, in order, before their first steps.
pub record HaveBegun (mode : Mode) (limits : Limits) (pairs : List (ℕ × ℕ)) (places : List HandleSlot) : Type 0 where
  pub accepted : IsAccepted limits
  pub forest : Ground
  pub layout : HasLimits limits mode forest.layout
  pub tries : forest.tries ≡ limits.tries
  pub begins : BeginsWithPairs forest (map_pairs pairs)
  pub of_forest : All (λ p. IsHeldOf forest p.handle.value) places
  pub passes : List PassView
  pub new : AreNew forest passes
  pub held : map pass_at places ≡ map Some passes

-- why none begins with some pairs, as C is told: 5 limits, 8 order, 9 too many, 4 no memory
abbrev pub pairs_status : PairsFault → ℕ
pairs_status faults.Limits = 5
pairs_status (faults.Order place) = 8
pairs_status (faults.TooMany room) = 9
pairs_status faults.NoMemory = 4

-- none begins with these pairs, a trie or a tree, for what the status tells
pub record IsNotBegun (trie : Bool) (limits : Limits) (pairs : List (ℕ × ℕ)) (status : ℕ) : Type 0 where
  pub fault : PairsFault
  pub of_limits : (fault ≡ faults.Limits) ↔ (¬ IsAccepted limits)
  pub why : IsRefusalOfPairs trie (limits.passes * limits.nodes) (map_pairs pairs) fault
  pub told : status ≡ pairs_status fault

-- what `make_of_pairs` answers, and what handles hold: those of a new dictionary that begins with
-- these pairs, or what they held
abbrev pub BeginSays : Bool → PassLimits → List KeyValue → List HandleSlot → List HandleSlot → ℕ → Type 0
BeginSays trie each pairs before after status =
    ((status ≡ 0) × HaveBegun (map_mode trie) (limits_of each (length before)) (map pair_of pairs) after)
    ⊎ ((after ≡ before) × IsNotBegun trie (limits_of each (length before)) (map pair_of pairs) status)

-- the next dictionary has begun with the pairs of the one that has ended, and the handles hold its
-- passes; or it was refused, and they are empty
abbrev pub NextSays : Bool → Limits → List (ℕ × ℕ) → List HandleSlot → ℕ → Type 0
NextSays trie limits pairs after status =
    ((status ≡ 1) × HaveBegun (map_mode trie) limits pairs after)
    ⊎ (All IsEmpty (held_in after) × IsNotBegun trie limits pairs status)

-- The handles had all passes of a dictionary, which has ended. Its pairs, which are told, are in
-- the room, as far as they go in, also where the next, of the same shape, was refused.
pub record HasGoneOver (each : PassLimits) (before after : List HandleSlot) (room : List KeyValue) (a : Count) : Type 0 where
  pub pairs : List (ℕ × ℕ)
  pub left : HaveEndedWith (held_in before) pairs
  pub count : a.pairs ≡ length pairs
  pub put : StandIn (take (length room) pairs) room
  pub trie : Bool
  pub shape : IsTrue trie ↔ All IsOfTrie (held_in before)
  pub next : NextSays trie (limits_of each (length before)) pairs after a.status

-- the handles hold what they held: the limits are out of range, one was empty, or they are too few
pub record IsNotRenewed (each : PassLimits) (before after : List HandleSlot) (a : Count) : Type 0 where
  pub same : held_in after ≡ held_in before
  pub why : ((a ≡ no_count 5) × (¬ IsAccepted (limits_of each (length before))))
      ⊎ ((a ≡ no_count 6) × (¬ AreHeld (held_in before))) ⊎ ((a ≡ no_count 7) × AreTooFew (held_in before))

-- an allocation was refused before the pairs were read: the dictionary is gone
pub record IsGone (after : List HandleSlot) (a : Count) : Type 0 where
  pub empty : All IsEmpty (held_in after)
  pub told : a ≡ no_count 4

-- the limits are accepted, and the handles had enough
pub record HasRenewed (each : PassLimits) (before after : List HandleSlot) (room : List KeyValue) (a : Count) : Type 0 where
  pub accepted : IsAccepted (limits_of each (length before))
  pub all : AreEnough (held_in before)
  pub told : IsGone after a ⊎ HasGoneOver each before after room a

-- what `renew` answers, and leaves in the handles and in its room
abbrev pub RenewSays : PassLimits → List HandleSlot → List HandleSlot → List KeyValue → Count → Type 0
RenewSays each before after room a = IsNotRenewed each before after a ⊎ HasRenewed each before after room a
