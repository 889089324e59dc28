-- What an ordered read knows of the nodes that it reaches.
use Rattle.std.specs.Prelude.{◌≡◌, ◌⊎◌, ℕ, ◌^◌, ◌<◌, ◌≤◌, false, List, [], ◌∷◌, length, Result, Ok, Err}
use Rattle.arena.specs.declared.head.Head.{Head as HeadParts}
use Rattle.histories.specs.Common.{Layout, NodeNo, Settled, Head as HeadWord, More as MoreWord, Key as KeyWord, Value as ValueWord, Side, head_of, child, marked, node, first_key, History, value, Call}
use Rattle.arena.specs.declared.word.Side.TheVariants as sides
use Rattle.template.specs.Common.{Snap, Pair, held_behind, pair_in, slot_behind, reply, Neighbour as NeighbourOf, IsOnPath, IsMapRun, Spells, class, is_leaf, level, toward}
use Rattle.order.specs.Meaning.{ReadMeaning}
use Rattle.order.specs.Reads.{Reads, Whenever, HasStood}
use Rattle.order.specs.LastTurns.{first_children, turned_at}
use Rattle.order.specs.declared.load.LeafPlace.{LeafPlace}
use Rattle.order.specs.declared.read.Children.{Children}
use Rattle.order.specs.declared.read.ReadBegin.{ReadBegin}
use Rattle.order.specs.declared.read.ReadBegin.TheVariants.{Walk, Root, Answer}
use Rattle.order.specs.declared.refused.Refused.{Refused}
use Rattle.order.specs.declared.refused.Refused.TheVariants.{NoMemory}

-- Settled words

abbrev pub head_at : History → ℕ → HeadParts
head_at h n = head_of (value h (node n (Settled HeadWord)))

abbrev pub key_at : History → ℕ → ℕ
key_at h n = value h (node n first_key)

-- how many pairs a leaf has after its first
abbrev pub more_at : History → ℕ → ℕ
more_at h n = value h (node n (Settled MoreWord))

-- the key at a place of a leaf
abbrev pub place_key : History → LeafPlace → ℕ
place_key h p = value h (node p.node.0 (Settled (KeyWord p.slot)))

-- the low half of the value there
abbrev pub place_low : History → LeafPlace → ℕ
place_low h p = value h (node p.node.0 (Settled (ValueWord p.slot)))

-- the whole value
abbrev pub place_value : History → LeafPlace → ℕ
place_value h p = (pair_in (value h) p.node.0 p.slot).value

-- and the whole pair
abbrev pub place_pair : History → LeafPlace → Pair
place_pair h p = pair_in (value h) p.node.0 p.slot

-- the pairs of the leaf after that place, as far as they may be read
abbrev pub pairs_behind : History → LeafPlace → List Pair
pairs_behind h p = held_behind (value h) p.node.0 (slot_behind p.more p.slot)

-- Nodes

-- the node is below some fork
abbrev pub IsThere : Call → History → NodeNo → Type 0
IsThere c h n = HasStood c h n.0 × (0 < level (value h) n.0)

-- all these do
abbrev pub AreThere : Call → History → List NodeNo → Type 0
AreThere c h [] = Unit {0}
AreThere c h (n ∷ ns) = IsThere c h n × AreThere c h ns

module _ {R A : Type 0} (means : ReadMeaning R A) (r : R) where
  -- The map that the words spell gives the reply that the read has found.
  abbrev pub IsRightAt : Layout → History → Type 0
  IsRightAt lay b = (map : List Pair) → Spells lay (value b) map → reply (means.call r) map ≡ means.found r

  -- What begins with a walk to this key goes down from the last fork where that turns to this side,
  -- which may have been removed by then. The pair beside a key is sought by a walk to that.
  pub record WalksTo (key : ℕ) (side : Side) : Type 0 where
    pub asks : means.asks (means.call r)
    pub small : means.suits (means.call r) → key < 2 ^ 64
    pub own : (of : Side) (k : ℕ) → means.call r ≡ NeighbourOf of k → k ≡ key
    pub waits : means.waiting r ≡ []
    pub turned : (b : History) (n : ℕ) → (value b (marked n) ≡ 0 → IsOnPath b key n) → toward (value b) n key ≡ turned_at side n → means.IsAtFork r b n (first_children side n)

  -- what begins at the root is there
  pub record BeginsAtRoot : Type 0 where
    pub asks : means.asks (means.call r)
    pub waits : means.waiting r ≡ []
    pub root : (lay : Layout) (b : History) → means.suits (means.call r) → IsMapRun lay b → means.IsAt r b 0

  -- so a try begins; or all maps give the answer
  abbrev pub BeginsSo : ReadBegin A → Type 0
  BeginsSo (Walk key side) = WalksTo key side
  BeginsSo Root = BeginsAtRoot
  BeginsSo (Answer answer) = ¬ means.asks (means.call r) × ((map : List Pair) → reply (means.call r) map ≡ means.told answer)

  module _ (snaps : List Snap) (c : Call) (h : History) where
    -- what a read with these snapshots knows all the way
    pub record IsReading : Type 0 where
      pub reads : Reads c h snaps
      pub suits : means.suits (means.call r)

    -- it is at this node: the root, or one below a fork of which it has a snapshot
    pub record Stands (n : ℕ) : Type 0 where
      pub stood : HasStood c h n
      pub asks : means.asks (means.call r)
      pub some : (n ≡ 0) ⊎ (0 < length snaps)
      pub waits : AreThere c h (means.waiting r)
      pub here : Whenever c.layout h snaps (λ b. means.IsAt r b n)

    -- it is at a fork of class 0 and of this level
    pub record IsAtLowFork (low n : ℕ) : Type 0 where
      pub stands : Stands n
      pub fork : is_leaf (value h) n ≡ false
      pub class : class (value h) n ≡ 0
      pub deep : level (value h) n ≡ low

    -- it is at a place of a leaf, below a fork of which it has a snapshot
    pub record StandsIn (p : LeafPlace) : Type 0 where
      pub stood : HasStood c h p.node.0
      pub asks : means.asks (means.call r)
      pub some : 0 < length snaps
      pub waits : AreThere c h (means.waiting r)
      pub here : Whenever c.layout h snaps (λ b. means.IsIn r b p)

    -- it is about to stand at the place of a leaf where it begins, once it is told of its count
    abbrev pub StandsBefore : NodeNo → Type 0
    StandsBefore n = StandsIn (record { node = n; more = more_at h n.0; slot = means.starts r (more_at h n.0) })

    -- it takes the pair at a place of a leaf, which has this key
    pub record TakesPair (p : LeafPlace) (key : ℕ) : Type 0 where
      pub stands : StandsIn p
      pub key_is : Whenever c.layout h snaps (λ b. place_key b p ≡ key)
      pub takes : means.Takes r key

    -- it may look at this fork, not above the level `low`, with these children to be visited
    pub record Looks (children : Children) (low n : ℕ) : Type 0 where
      pub stood : HasStood c h n
      pub asks : means.asks (means.call r)
      pub fork : is_leaf (value h) n ≡ false
      pub deep : low ≤ level (value h) n
      pub waits : AreThere c h (means.waiting r)
      pub here : Whenever c.layout h snaps (λ b. means.IsAtFork r b n children)

-- after a fork with these two it is at one of them, and the other may wait
pub record GoesTo {R A : Type 0} (means : ReadMeaning R A) (old now : R) (children : Children) (left right n : NodeNo) : Type 0 where
  pub one : (n ≡ left) ⊎ (n ≡ right)
  pub waits : (c : Call) (h : History) → AreThere c h (means.waiting old) → IsThere c h left → IsThere c h right → AreThere c h (means.waiting now)
  pub below : (lay : Layout) (b : History) (fork : ℕ) → IsMapRun lay b → is_leaf (value b) fork ≡ false → value b (marked fork) ≡ 0 → value b (child fork sides.Left) ≡ left.0 → value b (child fork sides.Right) ≡ right.0 → means.IsAtFork old b fork children → means.IsAt now b n.0

-- it continues so, or has no memory
abbrev pub GoesBelow : {R A : Type 0} → ReadMeaning R A → R → R → Children → NodeNo → NodeNo → Result NodeNo Refused → Type 0
GoesBelow means old now children left right (Ok n) = GoesTo means old now children left right n
GoesBelow means old now children left right (Err refused) = refused ≡ NoMemory
