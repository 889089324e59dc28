-- What a call knows of the leaf that it has found on its way to a key, or to the one at an end.
use Rattle.std.specs.Prelude.{◌≡◌, ◌≢◌, ◌⊎◌, ℕ, ◌^◌, ◌<◌, true, false, if◌then◌else◌, ◌==◌, length, Option, None}
use Rattle.std.specs.Option.{option_map}
use Rattle.histories.specs.Common.{Settled, Head, More, Key, Word, head_of, node, first_key, History, value, Call, taken_nodes}
use Rattle.arena.specs.declared.limits.Mode.TheVariants.{Trie as TrieMode}
use Rattle.ordered_map.specs.declared.pair.Pair.{Pair}
use Rattle.ordered_map.specs.Holding.{end_slot}
use Rattle.ordered_map.specs.OrderedMap.{pair}
use Rattle.ordered_map.specs.Bits.{Shares}
use Rattle.ordered_map.specs.Paths.{depth, end_key}
use Rattle.ordered_map.specs.TreeWords.{class, is_leaf, said}
use Rattle.ordered_map.specs.TrieShape.{Stays}
use Rattle.template.specs.Trails.{OnTrail}
use Rattle.template.specs.declared.walk.Found.{Found}
use Rattle.template.specs.declared.walk.Way.{Way}
use Rattle.template.specs.declared.walk.Way.TheVariants.{InTree, InTrie, Within}
use Rattle.ordered_map.specs.declared.rule.Goal.{Goal}
use Rattle.ordered_map.specs.declared.rule.Goal.TheVariants.{Key as ToKey, End}

-- the key on whose path a walk goes: beyond that at an end there is none
abbrev pub path_key : Goal → ℕ
path_key (ToKey k) = k
path_key (End side) = end_key side

-- the key whose value a walk answers: its own, or the one in the slot where it is
abbrev pub asked_key : Goal → ℕ → ℕ
asked_key (ToKey k) here = k
asked_key (End side) here = here

-- that key, of the leaf n: its own, or the one at that end of the leaf, and 0 above all keys
abbrev pub asked_in : Goal → (Word → ℕ) → ℕ → ℕ
asked_in (ToKey k) f n = k
asked_in (End side) f n = if class f n == 0 then f (node n (Settled (Key (end_slot side (f (node n (Settled More))))))) else 0

-- a walk goes to a key
abbrev pub IsToKey : Goal → Type 0
IsToKey (ToKey k) = Unit {0}
IsToKey (End side) = ⊥

-- The call has found the leaf to which its walk was to go: what its words say, and what it says of
-- the key asked for.
pub record HasFoundGoal (goal : Goal) (c : Call) (h : History) (f : Found) : Type 0 where
  pub trail : OnTrail c h (path_key goal) f.trail
  pub leaf : is_leaf (value h) f.trail.node.0 ≡ true
  pub head : head_of (value h (node f.trail.node.0 (Settled Head))) ≡ f.head
  -- it is not deeper than the taken nodes allow, or a trie
  pub deep : f.head.level < depth c.layout.mode (length (taken_nodes h))
  -- how many pairs it has after its first; one above all keys has none
  pub more : f.head.class ≡ 0 → value h (node f.trail.node.0 (Settled More)) ≡ f.more
  pub none : f.head.class ≢ 0 → f.more ≡ 0
  pub key : asked_in goal (value h) f.trail.node.0 ≡ f.key
  pub says : f.value ≡ said (value h) (asked_in goal (value h) f.trail.node.0) f.trail.node.0

-- the leaf is below a fork that stays on the key's path
pub record HasFoundBelow (goal : Goal) (c : Call) (h : History) (f : Found) : Type 0 where
  pub found : HasFoundGoal goal c h f
  pub stays : f.trail.node.0 ≢ 0 → Stays c.layout (value h) (path_key goal) f.trail.parent.0

-- The call has found a fork of a trie that its key does not share: its head and key. Below it, as
-- on its way, is no such key. The fork above stays on the key's path.
pub record HasFoundFork (goal : Goal) (c : Call) (h : History) (f : Found) : Type 0 where
  pub trie : c.layout.mode ≡ TrieMode
  pub to_key : IsToKey goal
  pub trail : OnTrail c h (path_key goal) f.trail
  pub below : f.trail.node.0 ≢ 0
  pub stays : Stays c.layout (value h) (path_key goal) f.trail.parent.0
  pub fork : is_leaf (value h) f.trail.node.0 ≡ false
  pub head : head_of (value h (node f.trail.node.0 (Settled Head))) ≡ f.head
  pub low : f.head.class ≡ 0
  pub key : value h (node f.trail.node.0 first_key) ≡ f.key
  pub small : f.key < 2 ^ 64
  pub outside : ¬ Shares (value h) f.trail.node.0 (path_key goal)
  pub none : f.value ≡ None

-- what a walk by this way finds
abbrev pub FoundBy : Way → Goal → Call → History → Found → Type 0
FoundBy InTree goal c h f = HasFoundGoal goal c h f
FoundBy InTrie goal c h f = HasFoundGoal goal c h f
FoundBy Within goal c h f = HasFoundBelow goal c h f ⊎ HasFoundFork goal c h f

-- the call has found the leaf where k is, or would be
abbrev pub HasFoundLeaf : Call → History → ℕ → Found → Type 0
HasFoundLeaf c h k f = HasFoundGoal (ToKey k) c h f

-- the pair at an end, as the leaf there has it: none if the leaf has no value
abbrev pub end_told : Found → Option Pair
end_told f = option_map (pair f.key) f.value
