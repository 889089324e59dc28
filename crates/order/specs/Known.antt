-- When an ordered read may continue, what it waits for, and what its answer says.
use Rattle.std.specs.Prelude.{◌≡◌, ◌⊎◌, ℕ, ◌+◌, ◌-◌, ◌≤◌, Bool, false, List, [], Option, Some, None, Result, Ok, Err}
use Rattle.histories.specs.Common.{Turn, Step, LoadSettled, Settled, Head as HeadWord, Side, node, History, value, Extends, Call, MatchTurn, begun_at}
use Rattle.template.specs.Common.{load, LlxIsReady, LlxWaits, AreFinished, VlxIsReady, VlxWaits, Snap, Pair, Neighbour as NeighbourOf, reply, TreeAllows, is_leaf, toward}
use Rattle.template.specs.Balance.{leaf_way, map_mode}
use Rattle.template.specs.Common.{IsContended, HasLostTriesTo, IsOwnMoment, HasTriedAtMost, WalkIsReady, WalkWaits, Key as ToKey}
use Rattle.template.specs.Trails.{IsSurelyOn}
use Rattle.template.specs.declared.walk.WalkAt.{WalkAt}
use Rattle.template.specs.declared.walk.WalkAt.TheVariants as walks
use Rattle.template.specs.declared.walk.WalkRun.{WalkRun}
use Rattle.order.specs.Found.{IsRightAt, Looks, Stands, WalksTo}
use Rattle.order.specs.Loads.{load_value, load_word}
use Rattle.order.specs.Meaning.{ReadMeaning}
use Rattle.order.specs.Near.{NearKnows, near_value, near_word}
use Rattle.order.specs.Next.{MayLoad}
use Rattle.order.specs.Reads.{AllHold, Reads}
use Rattle.order.specs.Replies.{IsReplyAt}
use Rattle.order.specs.Tries.{BeginsTry, IsInTry}
use Rattle.order.specs.LastTurns.{no_turns, turn_to}
use Rattle.order.specs.declared.near.NearRun.{NearRun}
use Rattle.order.specs.declared.read.Children.{Children}
use Rattle.order.specs.declared.refused.Refused.{Refused}
use Rattle.order.specs.declared.refused.Refused.TheVariants.{Contended, NoMemory}
use Rattle.order.specs.declared.run.ReadAt.{ReadAt}
use Rattle.order.specs.declared.run.ReadAt.TheVariants.{Start, Walk, Near, Root, Load, Look, Validate}
use Rattle.order.specs.declared.run.ReadRun.{ReadRun}
use Rattle.order.specs.declared.last_turns.LastTurns.{LastTurns}

-- Its walk

-- this fork was on the path of k when the call had passed it, and stays there; k is on this side of
-- it
pub record LastTurned (c : Call) (h : History) (k : ℕ) (side : Side) (n : ℕ) : Type 0 where
  pub sure : IsSurelyOn c h k n
  pub fork : is_leaf (value h) n ≡ false
  pub turn : toward (value h) n k ≡ side

-- so it is with the last fork that counts where the walk has turned to this side, or that is the
-- root
abbrev pub IsLastTurn : Call → History → ℕ → Side → ℕ → Type 0
IsLastTurn c h k side n = (n ≡ 0) ⊎ LastTurned c h k side n

-- and with both
abbrev pub AreLastTurns : Call → History → ℕ → LastTurns → Type 0
AreLastTurns c h k turns = (side : Side) → IsLastTurn c h k side (turn_to side turns).0

-- a run that has not begun, in a trie or in a tree, with so many tries in all
pub record HasNotBegun {R : Type 0} (m : ReadRun R) (trie : Bool) (tries : ℕ) : Type 0 where
  pub balance : m.trie ≡ trie
  pub start : m.at ≡ Start
  pub empty : m.snaps.items ≡ []
  pub limit : m.limit ≡ tries
  pub left : m.tries ≡ tries - 1

module _ {R A : Type 0} (means : ReadMeaning R A) where
  -- what a read with these snapshots knows all the way, in a trie or in a tree
  pub record ReadsIn (trie : Bool) (r : R) (snaps : List Snap) (c : Call) (h : History) : Type 0 where
    pub reads : Reads c h snaps
    pub suits : means.suits (means.call r)
    pub mode : c.layout.mode ≡ map_mode trie

  -- it walks to a key, from the last fork where that turns to this side it goes down
  pub record Walks (r : R) (trie : Bool) (c : Call) (h : History) (walk : WalkRun) (side : Side) (turns : LastTurns) : Type 0 where
    pub key : ℕ
    pub goal : walk.goal ≡ ToKey key
    pub way : walk.way ≡ leaf_way trie
    pub goes_to : WalksTo means r key side
    pub last : AreLastTurns c h key turns

  -- this search of a leaf is for what it looks for
  abbrev pub IsSearchFor : R → Call → History → NearRun → Type 0
  IsSearchFor r c h near = (means.call r ≡ NeighbourOf near.side near.key) × NearKnows near c h

  -- It searches the leaf where its walk has ended. If that does not have the pair, it may look at
  -- this fork.
  pub record SearchesLeaf (r : R) (snaps : List Snap) (c : Call) (h : History) (near : NearRun) (children : Children) (fork : ℕ) : Type 0 where
    pub looks : Looks means r snaps c h children 0 fork
    pub search : IsSearchFor r c h near

  -- its VLX has begun at an own moment of the call, at which what it has found was right if all
  -- infos were as found
  pub record Validates (r : R) (snaps : List Snap) (c : Call) (h begin : History) : Type 0 where
    pub asks : means.asks (means.call r)
    pub own : IsOwnMoment c begin
    pub within : Extends h begin
    pub reads : Reads c begin snaps
    pub right : AllHold begin snaps → IsRightAt means r c.layout begin

  -- the second is the first, further on: it has given up one try at most
  abbrev pub IsSameRead : ReadRun R → ReadRun R → Type 0
  IsSameRead old now = (means.call now.read ≡ means.call old.read) × (now.limit ≡ old.limit) × (now.tries ≤ old.tries) × (old.tries ≤ now.tries + 1) × (now.trie ≡ old.trie)

  module _ (m : ReadRun R) (c : Call) (h : History) where
    -- What it waits for

    abbrev pub ReadGoes : Type 0
    ReadGoes = ReadsIn m.trie m.read m.snaps.items c h

    abbrev pub RunStands : ℕ → Type 0
    RunStands n = Stands means m.read m.snaps.items c h n

    -- what holds while it waits for this step at this place
    abbrev pub ReadWaitsAt : Step → ReadAt → Type 0
    ReadWaitsAt s Start = ⊥
    ReadWaitsAt s (Walk walk side turns) = Walks m.read m.trie c h walk side turns × WalkWaits walk c h s
    ReadWaitsAt s (Near near children fork) = SearchesLeaf m.read m.snaps.items c h near children fork.0 × (s ≡ load LoadSettled (near_word near))
    ReadWaitsAt s Root = RunStands 0 × (s ≡ load LoadSettled (node 0 (Settled HeadWord)))
    ReadWaitsAt s (Load of) = MayLoad means m.read m.snaps.items c h of × (s ≡ load LoadSettled (load_word of))
    ReadWaitsAt s (Look children low llx) = Looks means m.read m.snaps.items c h children low llx.node.0 × ((begin : History) × Extends begin c.start × LlxWaits TreeAllows llx (begun_at c begin) h s)
    ReadWaitsAt s (Validate asked) = (begin : History) × Validates m.read m.snaps.items c h begin × VlxWaits m.snaps.items asked (begun_at c begin) h s

    -- what holds once the step of this place has found v
    abbrev pub ReadIsToldAt : ℕ → ReadAt → Type 0
    ReadIsToldAt v Start = ⊥
    ReadIsToldAt v (Walk walk side turns) = Walks m.read m.trie c h walk side turns × WalkIsReady walk c h (Some v)
    ReadIsToldAt v (Near near children fork) = SearchesLeaf m.read m.snaps.items c h near children fork.0 × (near_value near h ≡ v)
    ReadIsToldAt v Root = RunStands 0 × (value h (node 0 (Settled HeadWord)) ≡ v)
    ReadIsToldAt v (Load of) = MayLoad means m.read m.snaps.items c h of × (load_value h of ≡ v)
    ReadIsToldAt v (Look children low llx) = Looks means m.read m.snaps.items c h children low llx.node.0 × ((begin : History) × Extends begin c.start × LlxIsReady TreeAllows llx (begun_at c begin) h (Some v))
    ReadIsToldAt v (Validate asked) = (begin : History) × Validates m.read m.snaps.items c h begin × VlxIsReady m.snaps.items asked (begun_at c begin) h (Some v)

    -- Its try

    -- with the load of the root's head it begins a try, and has found nothing in that yet
    abbrev pub BeginsHere : Type 0
    BeginsHere = BeginsTry c h m.limit m.tries × (m.snaps.items ≡ []) × (means.waiting m.read ≡ [])

    module _ (begin : History) where
      -- with the first step of its walk it begins one; after that it is in the try that began at
      -- `begin`
      abbrev pub WalksInTry : LastTurns → WalkAt → Type 0
      WalksInTry turns walks.Root = BeginsHere × (turns ≡ no_turns)
      WalksInTry turns _ = IsInTry c h begin m.limit m.tries

      -- so it is at any place
      abbrev pub StandsInTry : ReadAt → Type 0
      StandsInTry (Walk walk side turns) = WalksInTry turns walk.at
      StandsInTry Root = BeginsHere
      StandsInTry _ = IsInTry c h begin m.limit m.tries

  module _ (m : ReadRun R) (c : Call) (h : History) where
    -- it waits for this step at its place; what it knows is of its try, which is the call from the
    -- moment `begin` on
    abbrev pub ReadWaits : Step → Type 0
    ReadWaits s = (begin : History) × StandsInTry m c h begin m.at × ReadGoes m (begun_at c begin) h × ReadWaitsAt m (begun_at c begin) h s m.at

    -- it may be called with this: nothing at its start, then what its step found by an own row
    abbrev pub ReadIsReady : Option ℕ → Type 0
    ReadIsReady None = ReadGoes m c h × (m.at ≡ Start) × BeginsTry c h m.limit m.tries
    ReadIsReady (Some v) = (begin : History) × IsInTry c h begin m.limit m.tries × ReadGoes m (begun_at c begin) h × IsOwnMoment (begun_at c begin) h × ReadIsToldAt m (begun_at c begin) h v m.at

    -- What it answers

    -- the map's reply at a moment of the call; or, where there is nothing to be found, that of
    -- every map
    abbrev pub HasReplied : A → Type 0
    HasReplied answer = IsReplyAt c h (means.call m.read) (means.told answer) ⊎ (¬ means.asks (means.call m.read) × ((map : List Pair) → reply (means.call m.read) map ≡ means.told answer))

    -- what its answer says: that; or that all tries were lost, and who was in the way of the last
    abbrev pub IsReadAnswer : Result A Refused → Type 0
    IsReadAnswer (Ok answer) = HasReplied answer
    IsReadAnswer (Err (Contended n s)) = IsContended c h n.0 s.0 × (m.tries ≡ 0) × HasLostTriesTo c.pass h c.start m.limit n.0 s.0
    IsReadAnswer (Err NoMemory) = Unit {0}

    -- and after it the pass is at rest, and has begun no more tries than it may, each as needed
    abbrev pub ReadAnswers : Result A Refused → Type 0
    ReadAnswers answer = AreFinished c.layout c.pass 0 h × IsReadAnswer answer × HasTriedAtMost c.layout c.pass h c.start m.limit

  -- it waits for the step that it asks for, or its answer is right
  abbrev pub ReadTurn : Call → History → ReadRun R → Turn (Result A Refused) → Type 0
  ReadTurn c h m turn = MatchTurn turn (ReadWaits m c h) (ReadAnswers m c h)
