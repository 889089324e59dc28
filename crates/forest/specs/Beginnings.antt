-- What is said of forests that begin with pairs.
use Rattle.std.specs.Prelude.{◌≡◌, ◌+◌, ◌*◌, ◌/◌, ◌<◌, ◌≤◌, ℕ, suc, Bool, false, List, length}
use Rattle.arena.specs.declared.limits.Limits.{Limits}
use Rattle.histories.specs.Common.{Mode, Tree, Layout, History, Opened, value}
use Rattle.ordered_map.specs.declared.pair.Pair.{Pair}
use Rattle.ordered_map.specs.Planted.{IsPlanted, first_pairs}
use Rattle.ordered_map.specs.Spelled.{Spells}
use Rattle.planting.specs.Orders.{FallsFirstAt}
use Rattle.planting.specs.Plantings.{IsPlantingOf, fork_levels, opening_for}
use Rattle.forest.specs.declared.fault.PairsFault.{PairsFault}
use Rattle.forest.specs.declared.fault.PairsFault.TheVariants.{Limits as LimitsFault, Order, TooMany, NoMemory}
use Rattle.tables.specs.declared.rule.Plot.{Plot}
use Rattle.tables.specs.Passes.{Ground}

-- the layout has these limits and is for this mode; nodes may be planted
pub record HasLimits (limits : Limits) (mode : Mode) (lay : Layout) : Type 0 where
  pub mode_is : lay.mode ≡ mode
  pub passes : lay.passes ≡ limits.passes
  pub nodes : lay.nodes ≡ limits.nodes
  pub scx : lay.scx ≡ limits.scx

-- the history of a forest as it begins, which each new pass knows
abbrev pub beginning_of : Ground → History
beginning_of f = Opened (opening_for f.planting)

-- The forest begins with these pairs: they are its first, and its words spell them. Their nodes are
-- beside the shares of the passes. A tree has as few leaves as hold them: a node for each four
-- pairs, and as many forks. It counts as no deeper than where each fork parts its pairs evenly.
pub record BeginsWithPairs (f : Ground) (ps : List Pair) : Type 0 where
  pub first : first_pairs (beginning_of f) ≡ ps
  pub spelled : Spells f.layout (value (beginning_of f)) ps
  pub planted : 0 < length ps → IsPlanted f.layout (beginning_of f) 0
  pub few : length f.planting.nodes ≤ 2 * length ps
  pub full : f.layout.mode ≡ Tree → length f.planting.nodes ≡ 2 * ((length ps + 3) / 4)
  pub balanced : f.layout.mode ≡ Tree → (opening_for f.planting).deep ≤ suc (fork_levels (length ps))
  pub room : f.layout.planted ≡ length f.planting.nodes

-- Why no forest begins with these pairs, where so many nodes are the passes' own: the keys do not
-- rise; or the room beside those nodes is too small, in a tree for a node for each four pairs and
-- as many forks; or an allocation was refused. The limits are a matter of their own.
abbrev pub IsRefusalOfPairs : Bool → ℕ → List Pair → PairsFault → Type 0
IsRefusalOfPairs _ shares ps LimitsFault = Unit {0}
IsRefusalOfPairs _ shares ps (Order place) = FallsFirstAt ps place
IsRefusalOfPairs in_trie shares ps (TooMany room) = (room + shares ≡ 1048576) × (room < 2 * length ps) × (in_trie ≡ false → room < 2 * ((length ps + 3) / 4))
IsRefusalOfPairs _ shares ps NoMemory = Unit {0}

-- a table with these shares begins with these pairs
pub record IsPlotWith (lay : Layout) (ps : List Pair) (plot : Plot) : Type 0 where
  pub mode_is : plot.layout.mode ≡ lay.mode
  pub passes : plot.layout.passes ≡ lay.passes
  pub nodes : plot.layout.nodes ≡ lay.nodes
  pub scx : plot.layout.scx ≡ lay.scx
  pub same_mode : plot.planting.mode ≡ plot.layout.mode
  pub planting : IsPlantingOf lay.mode ps plot.planting
  pub room : plot.layout.planted ≡ length plot.planting.nodes
