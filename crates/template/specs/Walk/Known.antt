-- When a walk may continue, what it waits for, and what its answer says.
use Rattle.std.specs.Prelude.{◌≡◌, ◌≢◌, ℕ, ◌^◌, ◌<◌, Bool, true, false, ◌==◌, Option, Some, None}
use Rattle.arena.specs.declared.limits.Mode.TheVariants.{Trie as TrieMode}
use Rattle.arena.specs.declared.head.Head.{Head as HeadParts}
use Rattle.histories.specs.Common.{Layout, Tree as TreeMode, Turn, Ask, Done, Step, Kind, LoadSettled, LoadChild, NodeWord, Settled, Child as ChildWord, Head as HeadWord, More as MoreWord, Key as KeyWord}
use Rattle.histories.specs.Common.{Value as ValueWord, High as HighWord, Side, Left, Slot, First, Word, head_of, node, first_key, History, value, Extends, Call, MatchTurn}
use Rattle.prims.specs.Llx.Known.{load}
use Rattle.ordered_map.specs.Holding.{end_slot, held_pairs, held_from}
use Rattle.ordered_map.specs.OrderedMap.{get}
use Rattle.ordered_map.specs.Paths.{end_turn}
use Rattle.ordered_map.specs.Runs.{IsMapRun}
use Rattle.ordered_map.specs.Bits.{IsForkKey, IsInSpan}
use Rattle.ordered_map.specs.TreeWords.{is_leaf, level, toward}
use Rattle.ordered_map.specs.TrieShape.{Stays}
use Rattle.template.specs.FoundLeaf.{path_key, asked_key, FoundBy}
use Rattle.template.specs.Trails.{OnTrail, IsOwnMoment}
use Rattle.template.specs.declared.walk.Trail.{Trail}
use Rattle.template.specs.declared.walk.Found.{Found}
use Rattle.ordered_map.specs.declared.rule.Goal.{Goal}
use Rattle.ordered_map.specs.declared.rule.Goal.TheVariants.{Key as ToKey, End}
use Rattle.template.specs.declared.walk.Way.{Way}
use Rattle.template.specs.declared.walk.Way.TheVariants.{InTree, InTrie, Within}
use Rattle.template.specs.declared.walk.WalkRun.{WalkRun}
use Rattle.template.specs.declared.walk.WalkAt.{WalkAt}
use Rattle.template.specs.declared.walk.WalkAt.TheVariants.{Start, Root, Head, Key, Child, More, Pair, Value, High}

-- A walk may go to this goal by this way: within to a key alone.
abbrev pub MayGo : Layout → Way → Goal → Type 0
MayGo lay InTree goal = lay.mode ≡ TreeMode
MayGo lay InTrie goal = lay.mode ≡ TrieMode
MayGo lay Within (ToKey k) = lay.mode ≡ TrieMode
MayGo lay Within (End side) = ⊥

-- what a word of the node that the walk has reached holds
abbrev pub here : History → WalkRun → NodeWord → ℕ
here h m part = value h (node m.trail.node.0 part)

-- whether a walk loads the key of a fork with this head: not on its way to an end
abbrev pub asks_key : Goal → HeadParts → Bool
asks_key (ToKey k) head = head.class == 0
asks_key (End side) head = false

-- where a walk goes at a fork with this head whose key it does not load
abbrev pub open_side : Goal → HeadParts → Side
open_side (ToKey k) head = Left
open_side (End side) head = end_turn side head.class

-- the slot in which it begins at a leaf with this number of pairs after its first
abbrev pub goal_slot : Goal → ℕ → Slot
goal_slot (ToKey k) more = First
goal_slot (End side) more = end_slot side more

-- a walk to this goal by this trail is at a leaf of class 0 that has this head
pub record WalkStandsAtLeaf (c : Call) (h : History) (goal : Goal) (t : Trail) (parts : HeadParts) : Type 0 where
  pub trail : OnTrail c h (path_key goal) t
  pub head : head_of (value h (node t.node.0 (Settled HeadWord))) ≡ parts
  pub low : parts.class ≡ 0
  pub leaf : parts.leaf ≡ true

-- what a walk to this goal looks for in the leaf n is in this slot, or after it, if the leaf has
-- it: it looks for its key, or for the pair at an end
abbrev pub IsSlotFor : Goal → (Word → ℕ) → ℕ → Slot → Type 0
IsSlotFor (ToKey k) f n slot = get k (held_pairs f n) ≡ get k (held_from f n slot)
IsSlotFor (End side) f n slot = slot ≡ end_slot side (f (node n (Settled MoreWord)))

-- what holds while a walk waits at this place
abbrev pub WalkKnows : Call → History → WalkRun → WalkAt → Type 0
WalkKnows c h m Start = ⊥
WalkKnows c h m Root = m.trail.node.0 ≡ 0
WalkKnows c h m (Head above) = OnTrail c h (path_key m.goal) m.trail × (above < level (value h) m.trail.node.0)
WalkKnows c h m (Key head) = OnTrail c h (path_key m.goal) m.trail × (head_of (here h m (Settled HeadWord)) ≡ head) × (head.class ≡ 0) × (head.leaf ≡ false)
WalkKnows c h m (Child low side) = OnTrail c h (path_key m.goal) m.trail × (level (value h) m.trail.node.0 ≡ low) × (is_leaf (value h) m.trail.node.0 ≡ false) × (toward (value h) m.trail.node.0 (path_key m.goal) ≡ side)
WalkKnows c h m (More head) = WalkStandsAtLeaf c h m.goal m.trail head
WalkKnows c h m (Pair head more slot) = WalkStandsAtLeaf c h m.goal m.trail head × (here h m (Settled MoreWord) ≡ more) × IsSlotFor m.goal (value h) m.trail.node.0 slot
WalkKnows c h m (Value head more slot key) =
    WalkStandsAtLeaf c h m.goal m.trail head × (here h m (Settled MoreWord) ≡ more) × IsSlotFor m.goal (value h) m.trail.node.0 slot
    × (here h m (Settled (KeyWord slot)) ≡ key) × (asked_key m.goal key ≡ key)
WalkKnows c h m (High head more slot key low) =
    WalkStandsAtLeaf c h m.goal m.trail head × (here h m (Settled MoreWord) ≡ more) × IsSlotFor m.goal (value h) m.trail.node.0 slot
    × (here h m (Settled (KeyWord slot)) ≡ key) × (asked_key m.goal key ≡ key) × (here h m (Settled (ValueWord slot)) ≡ low)

-- the word that it loads at this place
abbrev pub walk_part : WalkAt → NodeWord
walk_part (Key head) = first_key
walk_part (Child low side) = ChildWord side
walk_part (More head) = Settled MoreWord
walk_part (Pair head more slot) = Settled (KeyWord slot)
walk_part (Value head more slot key) = Settled (ValueWord slot)
walk_part (High head more slot key low) = Settled (HighWord slot)
walk_part _ = Settled HeadWord

-- the kind of the load
abbrev pub walk_kind : WalkAt → Kind
walk_kind (Child low side) = LoadChild
walk_kind _ = LoadSettled

-- the step that it waits for at this place: a load of a word of its node
abbrev pub walk_step : WalkRun → WalkAt → Step
walk_step m at = load (walk_kind at) (node m.trail.node.0 (walk_part at))

-- the fork above its node stays on the path of its key
abbrev pub StaysAbove : WalkRun → Call → History → Type 0
StaysAbove m c h = m.trail.node.0 ≢ 0 → Stays c.layout (value h) (path_key m.goal) m.trail.parent.0

-- at this place it loads a field
abbrev pub LoadsChild : WalkAt → Type 0
LoadsChild (Child low side) = Unit {0}
LoadsChild _ = ⊥

-- so does its node, where it leaves it
pub record IsSure (m : WalkRun) (c : Call) (h : History) : Type 0 where
  pub above : StaysAbove m c h
  pub leaves : LoadsChild m.at → Stays c.layout (value h) (path_key m.goal) m.trail.node.0

-- a walk waits for this step, at a moment of its call
pub record WalkWaits (m : WalkRun) (c : Call) (h : History) (step : Step) : Type 0 where
  pub run : IsMapRun c.layout h
  pub may : MayGo c.layout m.way m.goal
  pub small : path_key m.goal < 2 ^ 64
  pub since : Extends h c.start
  pub known : WalkKnows c h m m.at
  pub sure : m.way ≡ Within → IsSure m c h
  pub asked : step ≡ walk_step m m.at

-- an own row has found v, which is what the word of its place holds
pub record WalkIsTold (m : WalkRun) (c : Call) (h : History) (v : ℕ) : Type 0 where
  pub run : IsMapRun c.layout h
  pub may : MayGo c.layout m.way m.goal
  pub small : path_key m.goal < 2 ^ 64
  pub own : IsOwnMoment c h
  pub known : WalkKnows c h m m.at
  pub sure : m.way ≡ Within → IsSure m c h
  pub told : here h m (walk_part m.at) ≡ v

-- a walk may begin, at the root
pub record WalkBegins (m : WalkRun) (c : Call) (h : History) : Type 0 where
  pub run : IsMapRun c.layout h
  pub may : MayGo c.layout m.way m.goal
  pub small : path_key m.goal < 2 ^ 64
  pub since : Extends h c.start
  pub at : m.at ≡ Start
  pub root : m.trail.node.0 ≡ 0

-- a walk may be called with this
abbrev pub WalkIsReady : WalkRun → Call → History → Option ℕ → Type 0
WalkIsReady m c h None = WalkBegins m c h
WalkIsReady m c h (Some v) = WalkIsTold m c h v

-- the walk has found this leaf, to which it was to go, or this fork
abbrev pub WalkAnswers : WalkRun → Call → History → Found → Type 0
WalkAnswers m c h f = FoundBy m.way m.goal c h f

-- a walk waits for the step of the turn, or its answer is right
abbrev pub WalkTurn : Call → History → WalkRun → Turn Found → Type 0
WalkTurn c h m turn = MatchTurn turn (WalkWaits m c h) (WalkAnswers m c h)

-- What its turns leave

-- it asks for a step, and is at this place
pub record WalkAsks (old now : WalkRun) (turn : Turn Found) (at : WalkAt) (step : Step) : Type 0 where
  pub stands : now ≡ record old { at = at }
  pub asked : turn ≡ Ask step

-- it ends at its node, of which it has found this
pub record WalkEnds (old now : WalkRun) (turn : Turn Found) (head : HeadParts) (more key : ℕ) (found : Option ℕ) : Type 0 where
  pub stands : now ≡ old
  pub done : turn ≡ Done record { trail = old.trail; head = head; more = more; key = key; value = found }

-- what a walk knows when it gets something, apart from that: it is at a node that was
-- on its path
pub record WalkStands (m : WalkRun) (c : Call) (h : History) : Type 0 where
  pub run : IsMapRun c.layout h
  pub may : MayGo c.layout m.way m.goal
  pub small : path_key m.goal < 2 ^ 64
  pub own : IsOwnMoment c h
  pub trail : OnTrail c h (path_key m.goal) m.trail
  pub sure : m.way ≡ Within → StaysAbove m c h

-- it ends at a fork of class 0 with this key just where it goes within, and its own key does not
-- share that
pub record EndsAt (m : WalkRun) (key : ℕ) (ends : Bool) : Type 0 where
  pub within : ends ≡ true → m.way ≡ Within
  pub outside : ends ≡ true → (level : ℕ) → IsForkKey key level → ¬ IsInSpan key level (path_key m.goal)
  pub inside : ends ≡ false → m.way ≡ Within → (k : ℕ) → m.goal ≡ ToKey k → (level : ℕ) → IsForkKey key level → IsInSpan key level k
