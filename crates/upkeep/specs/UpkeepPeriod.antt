-- Which other passes have rested since a moment, as a pass knows by its polls.
use Rattle.std.specs.Prelude.{◌≡◌, ◌≢◌, ◌<◌, ◌==◌, if◌then◌else◌, ℕ, List, [], ◌∷◌, Option, Some, None, slice_index_or}
use Rattle.histories.specs.Common.{Row, Extends}
use Rattle.tables.specs.TableRule.{history_of}
use Rattle.upkeep.specs.UpkeepSteps.{KeepsSlots}
use Rattle.tables.specs.declared.memory.Polled.{Polled}
use Rattle.upkeep.specs.declared.period.Period.{Period}
use Rattle.tables.specs.declared.view.SeatedPass.{SeatedPass}

-- a poll of pass k at this moment: nothing if it has rested since, else how often it had rested
abbrev pub poll_of : ℕ → List Row → Option ℕ → Polled
poll_of k moment waits = record { pass = record { 0 = k }; since = moment; waits = waits }

-- the last poll of pass k
abbrev pub last_poll : ℕ → List Polled → Option Polled
last_poll k [] = None
last_poll k (poll ∷ polls) = if poll.pass.0 == k then Some poll else last_poll k polls

-- the pass p, which is q now, has polled pass k; of the others its last polls are the same, and so is
-- all else that it remembers
pub record HasPolledOnce (k : ℕ) (poll : Polled) (p q : SeatedPass) : Type 0 where
  pub keeps : KeepsSlots p.memory q.memory
  pub last : last_poll k q.memory.polls ≡ Some poll
  pub others : (j : ℕ) → j ≢ k → last_poll j q.memory.polls ≡ last_poll j p.memory.polls

-- a first look at pass k has told this
abbrev pub HasLookedFirst : ℕ → Option ℕ → SeatedPass → SeatedPass → Type 0
HasLookedFirst k waits p q = HasPolledOnce k (poll_of k q.known waits) p q

-- and so has another look at pass k, which had rested so often at the moment of the first
abbrev pub HasLookedAgain : ℕ → (seen : ℕ) → Option ℕ → SeatedPass → SeatedPass → Type 0
HasLookedAgain k seen waits p q = (moment : List Row) → last_poll k p.memory.polls ≡ Some (poll_of k moment (Some seen)) → HasPolledOnce k (poll_of k moment waits) p q

-- the pass p has first looked at pass k when it knew these rows or more, and this has come of it
pub record IsPolledSince (p : SeatedPass) (rows : List Row) (k : ℕ) (waits : Option ℕ) : Type 0 where
  pub moment : List Row
  pub last : last_poll k p.memory.polls ≡ Some (poll_of k moment waits)
  pub since : Extends (history_of p.planting moment) (history_of p.planting rows)

-- how often pass k had rested, if the period waits for it
abbrev pub waited_for : Period → ℕ → Option ℕ
waited_for period k = slice_index_or period.waits k None

-- The period of pass p began when it knew these rows: each other pass with a number below `count`
-- has been polled since, and the period waits for those of them that have not rested since then.
pub record HasPeriod (count : ℕ) (p : SeatedPass) (rows : List Row) (period : Period) : Type 0 where
  pub began : Extends (history_of p.planting p.known) (history_of p.planting rows)
  pub polled : (k : ℕ) → k < count → k ≢ p.number.0 → IsPolledSince p rows k (waited_for period k)
  pub others : (k often : ℕ) → waited_for period k ≡ Some often → (k < count) × (k ≢ p.number.0)

-- The pass, which is q now, has polled others: what the period was of the passes below `from`, it is
-- now of those below `to`.
pub record PollsOn (from to : ℕ) (old new : Period) (p q : SeatedPass) : Type 0 where
  pub keeps : KeepsSlots p.memory q.memory
  pub period : (rows : List Row) → HasPeriod from p rows old → HasPeriod to q rows new

-- the period has begun when the pass knew what it knew as p, and waits for passes below `count`
pub record BeginsPeriod (count : ℕ) (period : Period) (p q : SeatedPass) : Type 0 where
  pub keeps : KeepsSlots p.memory q.memory
  pub begins : HasPeriod count q p.known period

-- the period waits for nobody
abbrev pub WaitsForNobody : Period → Type 0
WaitsForNobody period = (k : ℕ) → waited_for period k ≡ None

-- it waits for this pass, and for none before it
pub record IsFirstWaited (period : Period) (k : ℕ) : Type 0 where
  pub often : ℕ
  pub waits : waited_for period k ≡ Some often
  pub before : (j : ℕ) → j < k → waited_for period j ≡ None
