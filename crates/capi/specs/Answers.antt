-- What calls answer to C.
use Rattle.std.specs.Prelude.{◌≡◌, ◌⊎◌, ◌^◌, ◌<◌, ℕ, Option, Some, None, Result, Ok, Err, List, length, vec_len, slice_get, take}
use Rattle.std.specs.Arc.{arc_value}
use Rattle.std.specs.Global.{Vec}
use Rattle.std.specs.Option.{option_map}
use Rattle.arena.specs.Limits.{IsAccepted}
use Rattle.arena.specs.declared.limits.Limits.{Limits}
use Rattle.arena.specs.declared.limits.Mode.{Mode}
use Rattle.ordered_map.specs.Holding.{wide_value}
use Rattle.ordered_map.specs.OrderedMap.{MapCall, Get, Range}
use Rattle.ordered_map.specs.declared.reply.Reply.{Reply}
use Rattle.ordered_map.specs.declared.reply.Reply.TheVariants as replies
use Rattle.forest.specs.declared.fault.OrderFault.{OrderFault}
use Rattle.forest.specs.declared.fault.OrderFault.TheVariants as reads
use Rattle.forest.specs.declared.fault.UpdateFault.{UpdateFault}
use Rattle.forest.specs.declared.fault.UpdateFault.TheVariants as updates
use Rattle.forest.specs.Dictionary.{HasCalledIn, order_reply, update_reply}
use Rattle.capi.specs.Left.{AreLeft}
use Rattle.capi.specs.Made.{AreMade, AreMadeLasting}
use Rattle.capi.specs.declared.answer.ValueAnswer.{ValueAnswer}
use Rattle.capi.specs.declared.answer.Count.{Count}
use Rattle.capi.specs.declared.answer.Left.{Left}
use Rattle.capi.specs.declared.answer.KeyValue.{KeyValue}
use Rattle.capi.specs.declared.answer.PassLimits.{PassLimits}
use Rattle.capi.specs.declared.answer.Value.{Value}
use Rattle.capi.specs.Owned.{in_trie, owner_of, pass_of}
use Rattle.capi.specs.declared.client.OwnedPass.{OwnedPass}
use Rattle.capi.specs.declared.presence.Presence.{Presence}
use Rattle.capi.specs.declared.presence.Presence.TheVariants.{Away, Here, Nobody}
use Rattle.capi.specs.declared.handle.HandleSlot.{HandleSlot}

-- Statuses are numbers here, as C has them: 0 none, 1 some, 2 contended, 3 full, 4 no memory,
-- 5 limits, 6 no pass, 7 shared, 8 order, 9 too many.

-- the number of a value's words
abbrev pub number : Value → ℕ
number v = wide_value v.low v.high

-- an answer with no value
abbrev pub no_value : ℕ → ValueAnswer
no_value status = record { value = record { low = 0; high = 0 }; status = status }

-- an answer with no number of pairs
abbrev pub no_count : ℕ → Count
no_count status = record { pairs = 0; status = status }

-- the answer that there are this many pairs
abbrev pub counted : ℕ → Count
counted n = record { pairs = n; status = 1 }

-- what `get` answers
abbrev pub IsValueAnswer : Option ℕ → ValueAnswer → Type 0
IsValueAnswer None a = a ≡ no_value 0
IsValueAnswer (Some v) a = (number a.value ≡ v) × (a.status ≡ 1)

-- why an edit was refused
abbrev pub update_status : UpdateFault → ℕ
update_status (updates.Contended node scx) = 2
update_status (updates.Full full) = 3

-- why an ordered read was refused
abbrev pub order_status : OrderFault → ℕ
order_status (reads.Contended node scx) = 2
order_status reads.NoMemory = 4

-- what an edit of a key answers
abbrev pub IsUpdateAnswer : Result (Option ℕ) UpdateFault → ValueAnswer → Type 0
IsUpdateAnswer (Ok old) a = IsValueAnswer old a
IsUpdateAnswer (Err fault) a = a ≡ no_value (update_status fault)

-- the pair that C has
abbrev pub pair_of : KeyValue → ℕ × ℕ
pair_of p = (p.key, number p.value)

-- what a call that answers a pair leaves in its room, and answers
abbrev pub IsPairAnswer : Option (ℕ × ℕ) → KeyValue → ℕ → Type 0
IsPairAnswer (Some p) room status = (pair_of room ≡ p) × (status ≡ 1)
IsPairAnswer None room status = status ≡ 0

-- the same where such a call may be refused
abbrev pub IsFoundAnswer : {F : Type 0} → (F → ℕ) → Result (Option (ℕ × ℕ)) F → KeyValue → ℕ → Type 0
IsFoundAnswer refusal (Ok found) room status = IsPairAnswer found room status
IsFoundAnswer refusal (Err fault) room status = status ≡ refusal fault

-- these pairs are in the first places of the room
abbrev pub StandIn : List (ℕ × ℕ) → List KeyValue → Type 0
StandIn pairs room = (j : ℕ) (p : ℕ × ℕ) → slice_get pairs j ≡ Some p → option_map pair_of (slice_get room j) ≡ Some p

-- what `range` leaves in its room, and answers
abbrev pub IsCountOfRange : Result (Vec (ℕ × ℕ)) OrderFault → List KeyValue → Count → Type 0
IsCountOfRange (Ok found) room a = StandIn found.items room × (a ≡ counted (vec_len found))
IsCountOfRange (Err fault) room a = a ≡ no_count (order_status fault)

-- What a call says of the pass that has made it

-- the pass has made this call, of numbers, and has this reply
abbrev pub HasClientCalled : OwnedPass → OwnedPass → MapCall → Reply ℕ ℕ → Type 0
HasClientCalled old new = HasCalledIn (in_trie old) (λ k. k < 2 ^ 64) (λ k. k) (λ v. v < 2 ^ 128) (λ v. v) (arc_value (owner_of old)) (pass_of old) (pass_of new)

-- what a handle held before and after a call, and what the call answered: with no pass, or one that
-- is away, nothing is done, and it answers this; else the pass, which stays in its forest, has made
-- this call
abbrev pub CallSays : {A : Type 0} → A → (OwnedPass → OwnedPass → A → Type 0) → Option Presence → Option Presence → A → Type 0
CallSays no_pass made None after a = (after ≡ None) × (a ≡ no_pass)
CallSays no_pass made (Some (Away gone)) after a = (after ≡ Some (Away gone)) × (a ≡ no_pass)
CallSays no_pass made (Some Nobody) after a = (after ≡ Some Nobody) × (a ≡ no_pass)
CallSays no_pass made (Some (Here old)) None a = ⊥
CallSays no_pass made (Some (Here old)) (Some (Away gone)) a = ⊥
CallSays no_pass made (Some (Here old)) (Some Nobody) a = ⊥
CallSays no_pass made (Some (Here old)) (Some (Here new)) a = (owner_of new ≡ owner_of old) × made old new a

-- what `get` says
abbrev pub GetSays : ℕ → OwnedPass → OwnedPass → ValueAnswer → Type 0
GetSays key old new a = (told : Option ℕ) × IsValueAnswer told a × HasClientCalled old new (Get key) (replies.Value told)

-- what an edit of a key says
abbrev pub EditSays : MapCall → OwnedPass → OwnedPass → ValueAnswer → Type 0
EditSays call old new a = (told : Result (Option ℕ) UpdateFault) × IsUpdateAnswer told a × HasClientCalled old new call (update_reply replies.Value told)

-- what a pop says, which leaves the pair that it has taken in this room
abbrev pub TakenSays : MapCall → KeyValue → OwnedPass → OwnedPass → ℕ → Type 0
TakenSays call room old new status = (told : Result (Option (ℕ × ℕ)) UpdateFault) × IsFoundAnswer update_status told room status × HasClientCalled old new call (update_reply replies.Pair told)

-- what `successor` and `predecessor` say, which leave the pair that they have found in this room
abbrev pub FoundSays : MapCall → KeyValue → OwnedPass → OwnedPass → ℕ → Type 0
FoundSays call room old new status = (told : Result (Option (ℕ × ℕ)) OrderFault) × IsFoundAnswer order_status told room status × HasClientCalled old new call (order_reply replies.Pair told)

-- what `range` says, which may answer this many pairs, and leaves them in this room
abbrev pub BetweenSays : ℕ → ℕ → ℕ → List KeyValue → OwnedPass → OwnedPass → Count → Type 0
BetweenSays low high most room old new a = (told : Result (Vec (ℕ × ℕ)) OrderFault) × IsCountOfRange told room a × HasClientCalled old new (Range low high most) (order_reply replies.Pairs told)

-- what `left` answers
abbrev pub LeftSays : Option Presence → Left → Type 0
LeftSays None a = a ≡ record { nodes = 0; scx = 0 }
LeftSays (Some (Away gone)) a = a ≡ record { nodes = 0; scx = 0 }
LeftSays (Some Nobody) a = a ≡ record { nodes = 0; scx = 0 }
LeftSays (Some (Here c)) a = a ≡ record { nodes = (pass_of c).share.nodes; scx = (pass_of c).share.scx }

-- What `close` and `make` say

-- the pairs that are left are in the room, as far as they go in
pub record HasClosed (c : OwnedPass) (room : List KeyValue) (a : Count) : Type 0 where
  pub pairs : List (ℕ × ℕ)
  pub left : AreLeft (pass_of c) pairs
  pub count : a ≡ counted (length pairs)
  pub put : StandIn (take (length room) pairs) room

-- what `close` answers, and leaves in the handle and in its room
abbrev pub CloseSays : Option Presence → Option Presence → List KeyValue → Count → Type 0
CloseSays None after room a = (after ≡ None) × (a ≡ no_count 6)
CloseSays (Some (Away gone)) after room a = (after ≡ Some (Away gone)) × (a ≡ no_count 6)
CloseSays (Some Nobody) after room a = (after ≡ Some Nobody) × (a ≡ no_count 6)
CloseSays (Some (Here c)) (Some d) room a = (d ≡ Here c) × (a ≡ no_count 7)
CloseSays (Some (Here c)) None room a = (a ≡ no_count 4) ⊎ HasClosed c room a

-- the limits of this many passes
abbrev pub limits_of : PassLimits → ℕ → Limits
limits_of each passes = record { passes = passes; nodes = each.nodes; scx = each.scx; tries = each.tries }

-- there is no new dictionary, since the limits are out of range or an allocation was refused: the
-- handles are as they were
pub record IsNotMade (each : PassLimits) (before after : List HandleSlot) (status : ℕ) : Type 0 where
  pub same : after ≡ before
  pub why : ((status ≡ 5) × (¬ IsAccepted (limits_of each (length before)))) ⊎ (status ≡ 4)

-- what `make` answers, and what handles hold: those of a new dictionary, or what they held
abbrev pub MakeSays : Mode → PassLimits → List HandleSlot → List HandleSlot → ℕ → Type 0
MakeSays mode each before after status = ((status ≡ 0) × AreMade mode (limits_of each (length before)) after) ⊎ IsNotMade each before after status

-- the same of `make_lasting`
abbrev pub MakeLastingSays : Mode → PassLimits → List HandleSlot → List HandleSlot → ℕ → Type 0
MakeLastingSays mode each before after status = ((status ≡ 0) × AreMadeLasting mode (limits_of each (length before)) after) ⊎ IsNotMade each before after status
