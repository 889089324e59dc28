-- What holds before an SCX-record begins, which it does by its owner's first freezing exchange.
use Rattle.std.specs.Prelude.{◌≡◌, ◌≢◌, ℕ, ◌<◌}
use Rattle.arena.specs.declared.layout.Layout.{Layout}
use Rattle.arena.specs.declared.word.Side.{Side}
use Rattle.arena.specs.declared.word.ScxWord.TheVariants.{New}
use Rattle.arena.specs.Layout.{all_nodes}
use Rattle.arena.specs.Words.{scx, info, marked, child, state}
use Rattle.arena.specs.History.{History, value, HasHeld}
use Rattle.arena.specs.ScxRecords.{IsPlan}
use Rattle.arena.specs.Fills.{IsOwnNode, IsOwnScx, IsNamed, IsNamedScx}
use Rattle.histories.specs.Descriptor.{Descriptor, count_in, field_index_in, field_in}

-- s is ready for its first freeze, by its owner c: no info word has named it yet
pub record Begins (lay : Layout) (d : Descriptor) (h : History) (c s : ℕ) : Type 0 where
  pub own : IsOwnScx lay c s
  pub free : ¬ IsNamedScx h s
  pub unfinished : value h (state s) ≡ 0
  pub planned : IsPlan d.plan
  pub inside : (j : ℕ) → j < count_in d → d.member j < all_nodes lay
  pub distinct : (j k : ℕ) → j < count_in d → k < count_in d → j ≢ k → d.member j ≢ d.member k
  -- what it covers others may know
  pub named : (j : ℕ) → j < count_in d → IsNamed lay h (d.member j)
  -- the SCX-records in its `i` words are finished
  pub rest : (j : ℕ) → j < count_in d → value h (state (d.seen j)) ≢ 0
  -- a node whose info still is what the snapshot found there has no mark
  pub unmarked : (j : ℕ) → j < count_in d → value h (info (d.member j)) ≡ d.seen j → value h (marked (d.member j)) ≡ 0
  -- the field still holds `old` where its node's info still is what the snapshot found there
  pub shows : value h (info (d.member (field_index_in d))) ≡ d.seen (field_index_in d) → value h (field_in d) ≡ d.old
  -- `new` is a node of the owner's that nobody else
  -- knows, and that no other SCX-record puts anywhere
  pub new_own : IsOwnNode lay c d.new
  pub new_unnamed : ¬ IsNamed lay h d.new
  pub new_in_no_field : (n : ℕ) (side : Side) → ¬ HasHeld h (child n side) d.new
  pub new_in_no_other : (u : ℕ) → u ≢ s → ¬ HasHeld h (scx u New) d.new
