-- What a pass reads of leaves of its own.
use Rattle.std.specs.Prelude.{◌≡◌, ◌<◌, ◌+◌, ℕ, [], Option, Some, IfSome, slice_get}
use Rattle.resting.specs.Lookups.{WasLeafOf}
use Rattle.tables.specs.TableRule.{past_of}
use Rattle.tables.specs.declared.view.SeatedPass.{SeatedPass}
use Rattle.upkeep.specs.declared.book.SlotUse.TheVariants.{Used}
use Rattle.upkeep.specs.declared.keeper.Keeper.{Keeper}
use Rattle.upkeep.specs.declared.leaf.OwnLeaf.{OwnLeaf}

-- The pass p, which is q now, has read of the node whether it is a leaf of a pair, with this key.
pub record HasReadLeaf (name : ℕ) (key : Option ℕ) (p q : SeatedPass) : Type 0 where
  pub same : q.memory ≡ p.memory
  pub leaf : IfSome key (WasLeafOf (past_of q []) (past_of p []) name)

-- it has read this leaf, if there is one
pub record HasReadLeafAt (found : Option OwnLeaf) (p q : SeatedPass) : Type 0 where
  pub same : q.memory ≡ p.memory
  pub leaf : IfSome found (λ l. WasLeafOf (past_of q []) (past_of p []) l.name l.key)

-- The leaf is in the slot of this place, which is in use, and was taken as its pass began to rest.
pub record IsLeafAt (keeper : Keeper) (i : ℕ) (leaf : OwnLeaf) : Type 0 where
  pub index : leaf.index ≡ i
  pub place : leaf.slot ≡ keeper.nodes.first + i
  pub slot : slice_get keeper.nodes.slots.items i ≡ Some (record { name = leaf.name; known = Used })
  pub taken : leaf.name < keeper.taken
