-- What a pass keeps from one call to the next so that its records come back, and what it is to be
-- right.
use Rattle.std.specs.Prelude.{◌≡◌, ◌<◌, ◌⊎◌, ℕ, false, List, [], Option, Some, None}
use Rattle.histories.specs.Common.{Layout, Remaining, Row, History, Extends, IsOwnNode, IsTakenNode}
use Rattle.prims.specs.Moments.{AreFinished}
use Rattle.prims.specs.Shares.{IsShare}
use Rattle.resting.specs.Dead.{IsUnborn}
use Rattle.slots.specs.Lasting.{Lasting}
use Rattle.tables.specs.TableRule.{history_of, past_of}
use Rattle.upkeep.specs.UpkeepBook.{AreLostBy, IsBook, KnowsRest, LosesNoMore}
use Rattle.tables.specs.Shares.{EndsAsDealt}
use Rattle.upkeep.specs.UpkeepDeals.{HasShareLeft}
use Rattle.upkeep.specs.UpkeepPeriod.{HasPeriod, IsFirstWaited, WaitsForNobody}
use Rattle.tables.specs.declared.memory.PassMemory.{PassMemory}
use Rattle.upkeep.specs.declared.keeper.Keeper.{Keeper}
use Rattle.upkeep.specs.declared.kind.RecordKind.TheVariants.{Node, Scx}
use Rattle.upkeep.specs.declared.period.Period.{Period}
use Rattle.tables.specs.declared.view.SeatedPass.{SeatedPass}

-- how often a pass rests at most, so that twice as much fits a word
abbrev pub most_rests : ℕ
most_rests = 4611686018427387904

-- the period is one since these rows, if one runs
abbrev pub RunsSince : (count : ℕ) → SeatedPass → List Row → Option Period → Type 0
RunsSince count p rows None = Unit {0}
RunsSince count p rows (Some period) = HasPeriod count p rows period

-- The pass p, which knows these rows or more, keeps what is right of its rests and slots: what was
-- found, or is dying, was so after these rows or before.
pub record KeepsSlotsSince (t : Lasting) (p : SeatedPass) (rows : List Row) (keeper : Keeper) : Type 0 where
  pub known : Extends (past_of p []) (history_of p.planting rows)
  pub rested : KnowsRest p
  pub often : keeper.often ≡ p.memory.often
  pub node_kind : keeper.nodes.kind ≡ Node
  pub scx_kind : keeper.scxs.kind ≡ Scx
  pub nodes : IsBook t p rows keeper.nodes
  pub scxs : IsBook t p rows keeper.scxs

-- What the pass p keeps is right, but for what is lost: of its slots since some moment, and if a
-- period runs, it is one since then. And the pass is there, or can come back.
pub record KeepsBooks (t : Lasting) (p : SeatedPass) (keeper : Keeper) : Type 0 where
  pub there : (keeper.often < most_rests) ⊎ (p.memory.away ≡ false)
  pub since : List Row
  pub slots : KeepsSlotsSince t p since keeper
  pub period : RunsSince t.table.passes p since keeper.period

-- what is lost of its slots, was so after these rows
pub record HasLostBy (p : SeatedPass) (rows : List Row) (keeper : Keeper) : Type 0 where
  pub nodes : AreLostBy p.layout p.number.0 (history_of p.planting rows) keeper.nodes
  pub scxs : AreLostBy p.layout p.number.0 (history_of p.planting rows) keeper.scxs

-- the pass p had taken all nodes of its own below this one as it rested last
abbrev pub HasTakenByRest : SeatedPass → (next : ℕ) → Type 0
HasTakenByRest p next = (n : ℕ) → IsOwnNode p.layout p.number.0 n → n < next → IsTakenNode (history_of p.planting p.memory.rested) n

-- What the pass p keeps is right.
pub record IsKeeper (t : Lasting) (p : SeatedPass) (keeper : Keeper) : Type 0 where
  pub books : KeepsBooks t p keeper
  pub lost : HasLostBy p p.known keeper
  pub taken : HasTakenByRest p keeper.taken

-- each slot that is lost was so before, and slots are of the same kinds
pub record LosesNone (old new : Keeper) : Type 0 where
  pub node_kind : new.nodes.kind ≡ old.nodes.kind
  pub scx_kind : new.scxs.kind ≡ old.scxs.kind
  pub nodes : LosesNoMore old.nodes new.nodes
  pub scxs : LosesNoMore old.scxs new.scxs

-- each node that the pass p has taken, and that was never in the tree or the trie, is so still
abbrev pub StaysOut : SeatedPass → SeatedPass → Type 0
StaysOut p q = (n : ℕ) → IsUnborn p.layout p.number.0 (past_of p []) n → IsUnborn p.layout p.number.0 (past_of q []) n

-- the pass is between two calls, and so much is left of its share
pub record IsBetween (p : SeatedPass) (left : Remaining) : Type 0 where
  pub share : IsShare p.layout (past_of p []) p.number.0 left left.next_node left.next_scx
  pub over : AreFinished p.layout p.number.0 0 (past_of p [])

-- as many names of the pass are dealt as before
pub record DealsNoMore (m n : PassMemory) : Type 0 where
  pub nodes_to : n.nodes_to ≡ m.nodes_to
  pub scx_to : n.scx_to ≡ m.scx_to

-- The pass p, which is q now, is there, and keeps what is right, but for what is lost; and as many of
-- its names are dealt as before.
pub record HasTakenRest (t : Lasting) (keeper : Keeper) (p q : SeatedPass) : Type 0 where
  pub kept : KeepsBooks t q keeper
  pub there : q.memory.away ≡ false
  pub taken : HasTakenByRest q keeper.taken
  pub deals : DealsNoMore p.memory q.memory

-- The pass p, which is q now, keeps what is right if it did, of whatever table, and if what was never
-- in the tree or the trie is so still; and as many of its names are dealt as before.
pub record KeepsStill (old new : Keeper) (p q : SeatedPass) : Type 0 where
  pub kept : (t : Lasting) → StaysOut p q → IsKeeper t p old → IsKeeper t q new
  pub deals : DealsNoMore p.memory q.memory

-- so it is, and the pass is back
pub record IsBackWith (old new : Keeper) (p q : SeatedPass) : Type 0 where
  pub keeps : KeepsStill old new p q
  pub there : (t : Lasting) → IsKeeper t p old → q.memory.away ≡ false

-- What the pass keeps of its slots is right since it became q, and it is there.
pub record HasTurnedSlots (t : Lasting) (keeper : Keeper) (p q : SeatedPass) : Type 0 where
  pub slots : KeepsSlotsSince t q q.known keeper
  pub there : q.memory.away ≡ false
  pub rested : q.memory.rested ≡ p.memory.rested
  pub deals : DealsNoMore p.memory q.memory

-- What the pass keeps of its slots is right since these rows, and it is there.
pub record IsBack (t : Lasting) (p : SeatedPass) (rows : List Row) (keeper : Keeper) : Type 0 where
  pub slots : KeepsSlotsSince t p rows keeper
  pub there : p.memory.away ≡ false

-- and it has rested since then, in this period
pub record IsBackDuring (t : Lasting) (p : SeatedPass) (rows : List Row) (period : Period) (keeper : Keeper) : Type 0 where
  pub back : IsBack t p rows keeper
  pub rested : Extends (history_of p.planting p.memory.rested) (history_of p.planting rows)
  pub runs : HasPeriod t.table.passes p rows period

-- no period runs, or it waits for nobody any more
abbrev pub AwaitsNobody : Option Period → Type 0
AwaitsNobody None = Unit {0}
AwaitsNobody (Some period) = WaitsForNobody period

-- a period runs, and waits for this pass first
abbrev pub IsAwaited : Option Period → ℕ → Type 0
IsAwaited None k = ⊥
IsAwaited (Some period) k = IsFirstWaited period k

-- The pass is there and between two calls, and has so much left of its share, which ends where its
-- dealt names end; and what it keeps is right.
pub record IsSetToCall (allows : Layout → History → ℕ → Type 0) (t : Lasting) (p : SeatedPass) (left : Remaining) (keeper : Keeper) : Type 0 where
  pub kept : IsKeeper t p keeper
  pub has : HasShareLeft allows p left
  pub ends : EndsAsDealt left p.memory

-- so it is but for what is lost
pub record IsSetToDeal (allows : Layout → History → ℕ → Type 0) (t : Lasting) (p : SeatedPass) (left : Remaining) (keeper : Keeper) : Type 0 where
  pub kept : KeepsBooks t p keeper
  pub has : HasShareLeft allows p left
  pub ends : EndsAsDealt left p.memory

-- it is so of the pass that it is now
abbrev pub IsStillSet : (Layout → History → ℕ → Type 0) → Lasting → Remaining → Keeper → SeatedPass → SeatedPass → Type 0
IsStillSet allows t left keeper p q = IsSetToDeal allows t q left keeper

abbrev pub IsSetNow : (Layout → History → ℕ → Type 0) → Lasting → Remaining → Keeper → SeatedPass → SeatedPass → Type 0
IsSetNow allows t left keeper p q = IsSetToCall allows t q left keeper
