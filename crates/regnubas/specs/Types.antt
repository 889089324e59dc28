-- The types that contracts name, exported from one place. Declares nothing.
pub use Rattle.arena.specs.declared.layout.Layout.{Layout}
pub use Rattle.arena.specs.declared.limits.Mode.{Mode}
pub use Rattle.arena.specs.declared.limits.Mode.TheVariants.{Tree, Trie, Records}
pub use Rattle.arena.specs.declared.step.Row.{Row}
pub use Rattle.arena.specs.declared.word.Side.{Side}
pub use Rattle.arena.specs.declared.word.Side.TheVariants.{Left, Right}
pub use Rattle.arena.specs.declared.word.Word.{Word}
pub use Rattle.prims.specs.declared.snap.Snap.{Snap}
pub use Rattle.ordered_map.specs.declared.pair.Pair.{Pair}
pub use Rattle.ordered_map.specs.declared.rule.Goal.{Goal}
pub use Rattle.ordered_map.specs.declared.rule.Goal.TheVariants.{Key, End}
pub use Rattle.ordered_map.specs.declared.rule.Rule.{Rule}
pub use Rattle.ordered_map.specs.declared.rule.Rule.TheVariants as rules
pub use Rattle.forest.specs.declared.fault.NewFault.{NewFault}
pub use Rattle.forest.specs.declared.fault.OrderFault.{OrderFault}
pub use Rattle.forest.specs.declared.fault.PairsFault.{PairsFault}
pub use Rattle.forest.specs.declared.fault.UpdateFault.{UpdateFault}
