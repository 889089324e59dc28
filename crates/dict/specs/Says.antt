-- What the reply of a call of the map says, in words.
use Rattle.std.specs.Prelude.{◌≡◌, ℕ, ◌<◌, List, Option, Some, None}
use Rattle.histories.specs.Common.{Tree as TreeMode, Full as FullOf, Resource, Nodes, Layout, Row, IsOthersScx, History, ◌⊳◌, value, Extends, Call, Remaining}
use Rattle.arena.specs.declared.fault.Resource.TheVariants.{Scx as ScxRecords}
use Rattle.template.specs.Common.{MapEdit, MapCall, Edit, End, Neighbour, Range, MapReply, reply, edit_of, Spells, Pair, HasLostTriesTo, most_nodes, need}
use Rattle.template.specs.Blame.{IsOverOrNew}
use Rattle.edits.specs.Known.{HasMade, IsUntouched}
use Rattle.edits.specs.Tries.{HasEnteredNone, HasOnlyLooked}
use Rattle.dict.specs.Calls.{AsksForPairs}
use Rattle.dict.specs.WordReplies.{WordReply, told_in}

-- A change: the call has made this edit, and answers what the map just before replies.
pub record HasMadeEdit (c : Call) (h : History) (call : MapCall) (told : MapReply) (edit : MapEdit) : Type 0 where
  -- the value that the edit's key had
  pub old : Option ℕ
  pub made : HasMade edit c h c.number old
  pub map : List Pair
  pub spelled : Spells c.layout (value made.before) map
  pub gives : reply call map ≡ told

-- by this moment the pass has made a row of its own since the start
pub record HasMadeRow (pass : ℕ) (start moment : History) : Type 0 where
  pub row : Row
  pub before : History
  pub within : Extends moment (row ⊳ before)
  pub since : Extends before start
  pub of_pass : row.pass.0 ≡ pass

-- Since the moment `begin` the pass has read the map: at a moment since then the words spell a map
-- that replies this. The moment is not before the pass's first own row; a range that takes no pair
-- needs none. A call that may take nodes has only looked in its newest try.
pub record HasReadSince (lay : Layout) (pass : ℕ) (now begin : History) (call : MapCall) (told : MapReply) : Type 0 where
  pub moment : History
  pub within : Extends now moment
  pub since : Extends moment begin
  pub own : AsksForPairs call → HasMadeRow pass begin moment
  pub map : List Pair
  pub spelled : Spells lay (value moment) map
  pub gives : reply call map ≡ told
  pub only_looked : 0 < most_nodes call → HasOnlyLooked pass now begin

-- A reading: the call has read the map, and its pass has entered nothing since it began.
pub record HasReadMap (c : Call) (h : History) (call : MapCall) (told : MapReply) : Type 0 where
  pub read : HasReadSince c.layout c.pass h c.start call told
  pub none : HasEnteredNone c.layout c.pass h c.start

-- the answer is that of a change by this edit, or of a reading
abbrev pub HasToldBy : Option MapEdit → Call → History → MapCall → MapReply → Type 0
HasToldBy (Some edit) c h call told = HasMadeEdit c h call told edit
HasToldBy None c h call told = HasReadMap c h call told

-- which of the two it is, and by which edit, follows from the call and its answer
abbrev pub HasTold : Call → History → MapCall → MapReply → Type 0
HasTold c h call told = HasToldBy (edit_of call told) c h call told

-- The call had something to do since the moment `begin`: the map of some moment, from its pass's
-- first own row since then on, needs some nodes of it.
pub record HasNeeded (lay : Layout) (pass : ℕ) (now begin : History) (call : MapCall) : Type 0 where
  pub moment : History
  pub within : Extends now moment
  pub since : Extends moment begin
  pub own : HasMadeRow pass begin moment
  pub map : List Pair
  pub spelled : Spells lay (value moment) map
  pub some : 0 < need call map

-- a call walks before it looks at a node: all do, but in a trie those that go to an end, which look
-- at node 2
abbrev pub WalksFirst : Layout → MapCall → Type 0
WalksFirst lay (Edit (End side) rule) = lay.mode ≡ TreeMode
WalksFirst lay _ = Unit {0}

-- Since the moment `begin` the pass has begun `tries` tries of the call, and lost them all. The
-- SCX-record s, which is another pass's, was in the way of the last over the node n, and in that
-- try the pass has itself found s in the info of n. It is finished now, or has reached n since
-- `begin`. A call that may take nodes had something to do in that try, if it walks first.
pub record HasLostSince (lay : Layout) (pass : ℕ) (now begin : History) (call : MapCall) (tries n s : ℕ) : Type 0 where
  pub others : IsOthersScx lay pass s
  pub all : HasLostTriesTo pass now begin tries n s
  pub over_or_new : IsOverOrNew now begin n s
  pub needed : 0 < most_nodes call → WalksFirst lay call → HasNeeded lay pass now all.lost.begin call

-- The call has lost all its `tries` tries, and its pass has entered nothing since it began.
pub record HasLost (c : Call) (h : History) (call : MapCall) (tries n s : ℕ) : Type 0 where
  pub lost : HasLostSince c.layout c.pass h c.start call tries n s
  pub none : HasEnteredNone c.layout c.pass h c.start

-- the share has fewer nodes than these, or some node but no SCX-record; this much is left
abbrev pub HasTooLittle : ℕ → Remaining → Resource → ℕ → Type 0
HasTooLittle many left Nodes k = (left.nodes < many) × (k ≡ left.nodes)
HasTooLittle many left ScxRecords k = (0 < left.nodes) × (left.scx ≡ 0) × (k ≡ 0)

-- The share has too little left for the newest try of the call that the pass has begun since the
-- moment `begin`. There was something to do in it: there are not enough nodes for what it needed,
-- or some, and no SCX-record. In that try the pass has only looked.
pub record HasTooLittleSince (lay : Layout) (pass : ℕ) (now begin : History) (call : MapCall) (share : Remaining) (full : FullOf) : Type 0 where
  pub only_looked : HasOnlyLooked pass now begin
  pub needed : HasNeeded lay pass now only_looked.begin call
  pub short : HasTooLittle (need call needed.map) share full.what full.left

-- The share has run out for the call. Nothing of it was taken since the call began, or another pass
-- was in the way. The pass has entered nothing.
pub record HasRunOut (c : Call) (h : History) (call : MapCall) (share : Remaining) (full : FullOf) : Type 0 where
  pub short : HasTooLittleSince c.layout c.pass h c.start call share full
  pub first : IsUntouched c h share
  pub none : HasEnteredNone c.layout c.pass h c.start

-- the call keeps lists, which grow
abbrev pub KeepsLists : MapCall → Type 0
KeepsLists (Neighbour side key) = Unit {0}
KeepsLists (Range low high most) = Unit {0}
KeepsLists _ = ⊥

-- what a reply says of the map, if it is one
abbrev pub TellsOfMap : Call → History → MapCall → Option MapReply → Type 0
TellsOfMap c h call None = Unit {0}
TellsOfMap c h call (Some told) = HasTold c h call told

-- why there is none, if the call has this share left, and this many tries in all
abbrev pub IsRefusal : Call → History → MapCall → Remaining → ℕ → WordReply → Type 0
IsRefusal c h call share tries (WordReply.Contended node scx) = HasLost c h call tries node.0 scx.0
IsRefusal c h call share tries (WordReply.Full full) = HasRunOut c h call share full
IsRefusal c h call share tries WordReply.NoMemory = KeepsLists call × HasEnteredNone c.layout c.pass h c.start
IsRefusal c h call share tries _ = Unit {0}

-- what the reply says
abbrev pub WordSays : Call → History → MapCall → Remaining → ℕ → WordReply → Type 0
WordSays c h call share tries reply = TellsOfMap c h call (told_in reply) × IsRefusal c h call share tries reply
