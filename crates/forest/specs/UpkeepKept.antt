-- When what a pass keeps, if it keeps something, is right, and lets it come back.
use Rattle.std.specs.Prelude.{◌≡◌, false, Option, Some, None}
use Rattle.tables.specs.Slotted.{in_turns}
use Rattle.upkeep.specs.UpkeepBook.{KnowsRest}
use Rattle.upkeep.specs.UpkeepKeeper.{DealsNoMore, IsKeeper}
use Rattle.forest.specs.declared.kept.PassKeeper.{PassKeeper}
use Rattle.tables.specs.declared.view.SeatedPass.{SeatedPass}

abbrev pub KeepsRight : Option PassKeeper → SeatedPass → Type 0
KeepsRight None p = Unit {0}
KeepsRight (Some k) p = IsKeeper (in_turns k.layout k.turns) p k.keeper

-- the pass is there, or can come back by what it keeps
abbrev pub ComesBack : Option PassKeeper → SeatedPass → Type 0
ComesBack None p = p.memory.away ≡ false
ComesBack (Some k) p = IsKeeper (in_turns k.layout k.turns) p k.keeper

-- The pass p, which is q now, can come back; it knows what it knew as it rested, and as many of its
-- names are dealt as before.
pub record HasGoneAway (kept : Option PassKeeper) (p q : SeatedPass) : Type 0 where
  pub comes_back : ComesBack kept q
  pub rested : KnowsRest q
  pub deals : DealsNoMore p.memory q.memory

-- so it is, and it is back
pub record HasComeBack (kept : Option PassKeeper) (p q : SeatedPass) : Type 0 where
  pub keeps : KeepsRight kept q
  pub there : q.memory.away ≡ false
  pub rested : KnowsRest q
  pub deals : DealsNoMore p.memory q.memory
