-- What contracts see of a pass, and what its calls say.
use Rattle.std.specs.Prelude.{◌≡◌, ◌≢◌, ◌+◌, ◌-◌, ◌<◌, ◌≤◌, ◌⊎◌, ◌↔◌, ℕ, suc, true, List, [], ◌∷◌, length, slice_get, Some, map, nat_eq}
use Rattle.std.specs.List.{All, AllPairs, Contains, count_by}
use Rattle.atomic_table.specs.Seated.{TableId}
use Rattle.histories.specs.Common.{Layout, Row, Freeze, LoadInfo, LoadSettled, Remaining, HasScx, NodeNo, Side, Settled, Head, Word, all_nodes, IsWord, IsRun}
use Rattle.histories.specs.Common.{Contents, word_at, info, state, child, node as node_word, first_value, History, ◌⊳◌, value, HasHeld, Extends, Records, IsNamedScx}
use Rattle.histories.specs.Common.{IsOthersScx, IsOwnNode, IsOwnScx, IsTakenNode, IsTakenScx, HasFailed, IsWin, Entry, log, has, fields, Full, Resource, Nodes}
use Rattle.arena.specs.Layout.{first_scx}
use Rattle.arena.specs.Share.{whole_share, IsFull}
use Rattle.template.specs.Common.{AllowsAll, HasFoundThere, IsSnapshot, HasJustLooked, Snap, Llx, Snapshot, Finalized, Fail, IsLeftAlone}
use Rattle.template.specs.Common.{HasChanged, nodes_of, IsUsable, IsAmong, ListsNode, snap_at, Scx, Done, Lost, Vlx, Same, Changed}
use Rattle.prims.specs.Llx.Known.{IsFinalBy}
use Rattle.prims.specs.Moments.{IsAsFound}
use Rattle.prims.specs.Vlx.Known.{HasFoundFirst}
use Rattle.arena.specs.declared.fault.Resource.TheVariants.{Scx as ScxRecords}
use Rattle.planting.specs.Plantings.{PlantingView}
use Rattle.tables.specs.TableRule.{history_of}
use Rattle.tables.specs.Traces.{rows_of}
use Rattle.tables.specs.Shares.{IsBetweenCalls, entries_of}

-- what contracts see of a pass: its table and layout, its number, and what is left of its share
pub record PassView : Type 0 where
  pub table : TableId
  pub layout : Layout
  -- what was planted in the table
  pub planting : PlantingView
  pub number : ℕ
  pub share : Remaining
  -- the run up to its own last step, newest row first
  pub known : List Row
  -- its blame list: the SCX-records that its refusals have named, the last first: `Fail` of an LLX
  -- of cells, `Contended` of a dictionary
  pub blamed : List ℕ

-- the run that the pass knows
abbrev pub run_of : PassView → History
run_of p = history_of p.planting p.known

-- the pass's seen list: the log of the run that it knows, the newest entry first
abbrev pub seen_of : PassView → List Entry
seen_of p = log p.layout (run_of p)

-- the pass's done list: its own entries in its seen list
abbrev pub done_of : PassView → List Entry
done_of p = entries_of p.number (seen_of p)

-- how many atomic steps the pass has made
abbrev pub steps_of : PassView → ℕ
steps_of p = rows_of p.number p.known

-- what contracts see of a forest: its table and layout, and how often a call of a map tries
pub record Ground : Type 0 where
  pub table : TableId
  pub layout : Layout
  pub planting : PlantingView
  pub tries : ℕ

-- the forest of this table and layout, planted so, whose calls make at most this many tries
abbrev pub ground : TableId → Layout → PlantingView → ℕ → Ground
ground table lay planting tries = record { table = table; layout = lay; planting = planting; tries = tries }

-- the pass is of this table and layout
abbrev pub IsOn : TableId → Layout → PassView → Type 0
IsOn table lay p = (p.table ≡ table) × (p.layout ≡ lay)

-- the pass is of this forest
abbrev pub IsOf : Ground → PassView → Type 0
IsOf f = IsOn f.table f.layout

-- the same pass, later on: the run that it knows extends what it knew
pub record IsLaterView (old new : PassView) : Type 0 where
  pub table : new.table ≡ old.table
  pub layout : new.layout ≡ old.layout
  pub number : new.number ≡ old.number
  pub run : Extends (run_of new) (run_of old)

-- how many SCX-records the pass has taken, which is the number of its next call
abbrev pub taken_of : PassView → ℕ
taken_of p = p.share.next_scx - first_scx p.layout p.number

-- after the start, P holds of each row of pass c
abbrev pub HoldsOfOwn : (Row → Type 0) → ℕ → History → History → Type 0
HoldsOfOwn P c start h = (r : Row) (before : History) → Extends h (r ⊳ before) → Extends before start → r.pass.0 ≡ c → P r

-- after the start, each row of pass c is of its call of this number
abbrev pub AreOfCall : ℕ → ℕ → History → History → Type 0
AreOfCall c number = HoldsOfOwn (λ r. r.call ≡ number) c

-- the row is a look at the table: it loads the head of node 0, and is of no call (its number is 0)
abbrev pub IsLook : Row → Type 0
IsLook r = (r.call ≡ 0) × (r.kind ≡ LoadSettled) × (r.word ≡ node_word 0 (Settled Head))

-- the pass may use the snapshot: it has a moment, and what it says of its node
-- holds as long as the node's info is what it found
abbrev pub CanUse : PassView → Snap → Type 0
CanUse p snap = (moment : History) × IsUsable p.layout (run_of p) snap moment

-- the pass has made no SCX over the snapshot's node since a moment of it: no SCX-record of the pass
-- has covered the node while in progress
abbrev pub HasLeftAlone : PassView → Snap → Type 0
HasLeftAlone p snap = IsLeftAlone p.layout p.number (run_of p) snap

-- P holds of each in the list. What a call asks of its snapshots is said of one after the other,
-- so that a caller that lists them has it without a proof by hand
abbrev pub Each : {A : Type 0} → (A → Type 0) → List A → Type 0
Each P [] = Unit {0}
Each P (x ∷ xs) = P x × Each P xs

-- Blame lists

-- how many times the SCX-record s is in a list
abbrev pub times_in : List ℕ → ℕ → ℕ
times_in blamed s = count_by (nat_eq s) blamed

-- In a run the SCX-record s has frozen these nodes, no two of them the same. It is in the blame
-- list once at most for each of them, and if it is finished there once more at most.
pub record IsBlamedFor (h : History) (blamed : List ℕ) (s : ℕ) : Type 0 where
  pub nodes : List ℕ
  pub different : AllPairs (λ n m. n ≢ m) nodes
  pub frozen : All (λ n. HasHeld h (info n) s) nodes
  pub running : value h (state s) ≡ 0 → times_in blamed s ≤ length nodes
  pub most : times_in blamed s ≤ suc (length nodes)

-- The blame list has SCX-records of other passes' shares, each of which an info word has named in
-- the run that the pass knows. None is there more than five times: once for each of the nodes
-- that it covers, at most four, and once when it is finished. In cells each is
-- finished in the run, and none of them is blamed twice; a call on a map may name one that is in
-- progress, and name it again.
pub record HasBlamed (p : PassView) : Type 0 where
  pub others : All (λ s. IsOthersScx p.layout p.number s) p.blamed
  pub begun : All (λ s. IsNamedScx (run_of p) s) p.blamed
  pub few : (s : ℕ) → times_in p.blamed s ≤ 5
  pub each : (s : ℕ) → IsBlamedFor (run_of p) p.blamed s
  pub over : p.layout.mode ≡ Records → All (λ s. value (run_of p) (state s) ≢ 0) p.blamed
  pub different : p.layout.mode ≡ Records → AllPairs (λ s t. s ≢ t) p.blamed

-- What every call leaves

-- the call of this number has brought the pass further
pub record HasGoneOn (allows : Layout → History → ℕ → Type 0) (old new : PassView) (number most : ℕ) (blamed : List ℕ) : Type 0 where
  -- the run that it knows extends what it knew, and is lawful
  pub later : IsLaterView old new
  pub lawful : IsRun allows new.layout (run_of new)
  -- its own rows there are of this call, and no more than `most`
  pub calls : AreOfCall new.number number (run_of old) (run_of new)
  pub steps : steps_of new ≤ steps_of old + most
  -- it has blamed these now
  pub blamed_these : new.blamed ≡ blamed
  pub blames : HasBlamed new
  -- it is between two calls, and what is left of its share is what the run has not taken
  pub rest : IsBetweenCalls new.layout new.number (run_of new) new.share
  -- it may use each snapshot that it could use
  pub usable : (snap : Snap) → CanUse old snap → CanUse new snap

-- a pass of this forest, which is one of cells, has made a call of at most `most` steps, and blames
-- these now
pub record HasCalledCells (forest : Ground) (old new : PassView) (most : ℕ) (blamed : List ℕ) : Type 0 where
  pub pass : IsOf forest new
  pub cells : new.layout.mode ≡ Records
  pub goes_on : HasGoneOn AllowsAll old new (taken_of old) most blamed

-- the pass has taken nothing of its share, made no entry, and
-- left each snapshot alone that it had left alone
pub record HasTakenNothing (old new : PassView) : Type 0 where
  pub share : new.share ≡ old.share
  pub done : done_of new ≡ done_of old
  pub alone : (snap : Snap) → HasLeftAlone old snap → HasLeftAlone new snap

-- What `llx` says

-- what an answer of `llx` of node n says
abbrev pub LlxSays : PassView → PassView → ℕ → Llx → Type 0
-- the snapshot gives the fields of the node in the run that is known now, in which it is not final;
-- it may be used, and the pass has made no SCX over the node since. The pass's last step, which is
-- of this call, has loaded the node's info
LlxSays old new n (Snapshot snap) = IsSnapshot new.layout (run_of new) n snap × CanUse new snap × HasLeftAlone new snap × HasJustLooked new.number (run_of new) (run_of old) n
-- the node is final in the run that is known now, and s finalizes it; the call has itself found s
-- in the node's info
LlxSays old new n (Finalized node s) = (node.0 ≡ n) × IsFinalBy new.layout (run_of new) n s.0 × HasFoundThere new.number (run_of new) (run_of old) n s.0
-- another pass's SCX-record was in the way
LlxSays old new n (Fail node s) = (node.0 ≡ n) × HasFailed new.layout new.number (run_of new) (run_of old) n s.0

-- the blame list after this answer: `Fail` blames its SCX-record
abbrev pub blamed_by : Llx → List ℕ → List ℕ
blamed_by (Snapshot snap) blamed = blamed
blamed_by (Finalized node s) blamed = blamed
blamed_by (Fail node s) blamed = s.0 ∷ blamed

-- the answer is that the node is finalized
abbrev pub IsFinalizedAnswer : Llx → Type 0
IsFinalizedAnswer (Snapshot snap) = ⊥
IsFinalizedAnswer (Finalized node s) = Unit {0}
IsFinalizedAnswer (Fail node s) = ⊥

-- Snapshots that a call is given

-- no two snapshots are of one node
abbrev pub AreApart : List Snap → Type 0
AreApart [] = Unit {0}
AreApart (snap ∷ snaps) = Each (λ other. snap.node.0 ≢ other.node.0) snaps × AreApart snaps

-- one of the snapshots is of node n
abbrev pub HasNodeOf : List Snap → ℕ → Type 0
HasNodeOf [] n = ⊥
HasNodeOf (snap ∷ snaps) n = (snap.node.0 ≡ n) ⊎ HasNodeOf snaps n

-- an SCX over these snapshots, which sets a field of node n, may be called: they are at most four,
-- of different nodes, one of them n, and each may be used
abbrev pub MayPut : PassView → List Snap → ℕ → Type 0
MayPut p snaps n = (length snaps ≤ 4) × AreApart snaps × HasNodeOf snaps n × Each (CanUse p) snaps

-- What `vlx` says

-- in the run that was known before, the nodes of the first k snapshots had the last entry that they
-- had at their snapshots, and were not final
abbrev pub AreAsFound : PassView → PassView → List Snap → ℕ → Type 0
AreAsFound old new snaps k = (i : ℕ) → i < k → IsAsFound new.layout (run_of new) (run_of old) (snap_at snaps i)

-- since what was known before, the pass has itself looked at the infos of the nodes of the first k
-- snapshots, and each was what the snapshot had found
abbrev pub AreAsked : PassView → PassView → List Snap → ℕ → Type 0
AreAsked old new snaps k = HasFoundFirst new.number (run_of new) (run_of old) snaps k

-- what an answer of `vlx` says: all nodes were as found, and the call has looked at each; or
-- another SCX-record had reached one of them, and those before it were as found and looked at
abbrev pub VlxSays : PassView → PassView → List Snap → Vlx → Type 0
VlxSays old new snaps Same = AreAsFound old new snaps (length snaps) × AreAsked old new snaps (length snaps)
VlxSays old new snaps (Changed node s) = (c : HasChanged new.layout new.number LoadInfo (run_of new) (run_of old) snaps node.0 s.0) × AreAsFound old new snaps c.index × AreAsked old new snaps c.index

-- What `scx` says

-- all that the share had of this resource is taken, in the run that the pass knows
abbrev pub IsAllTaken : PassView → Resource → Type 0
IsAllTaken p Nodes = (n : ℕ) → IsOwnNode p.layout p.number n → IsTakenNode (run_of p) n
IsAllTaken p ScxRecords = (s : ℕ) → IsOwnScx p.layout p.number s → IsTakenScx (run_of p) s

-- the refusal is right: the share has none left of what it names, and all of it is taken
abbrev pub IsUsedUp : PassView → Full → Type 0
IsUsedUp p f = IsFull p.share f × IsAllTaken p f.what

-- the call's update is in the log, once, as asked: e is its entry
pub record IsDoneCall (old new : PassView) (snaps : List Snap) (finalize : List NodeNo) (field : ℕ × Side) (value_of_cell : ℕ) (e : Entry) : Type 0 where
  -- the row that has put it there, which may be another pass's, is after what was known before
  pub row : Row
  pub before : History
  pub within : Extends (run_of new) (row ⊳ before)
  pub since : Extends before (run_of old)
  pub wins : IsWin before row e.scx
  pub logged : log new.layout (row ⊳ before) ≡ e ∷ log new.layout before
  -- it is the pass's only entry after what the pass had seen
  pub done : done_of new ≡ e ∷ done_of old
  -- it is of this call, and of the SCX-record and the node that were next in the share
  pub of_pass : e.owner ≡ old.number
  pub of_record : e.scx ≡ old.share.next_scx
  pub of_call : e.call ≡ taken_of old
  pub members : e.members ≡ nodes_of snaps
  pub removed : (n : ℕ) → (has e.removed n ≡ true) ↔ (IsAmong snaps n × ListsNode finalize n)
  pub node : e.node ≡ field.0
  pub side : e.side ≡ field.1
  pub fresh : e.new ≡ old.share.next_node
  -- just before it the fresh node had its value, and 0 in its two fields
  pub has_value : value before (node_word e.new first_value) ≡ value_of_cell
  pub empty_fields : (side : Side) → value before (child e.new side) ≡ 0
  -- just before it each node was as its snapshot found it
  pub found : (i : ℕ) → i < length snaps → IsAsFound new.layout (run_of new) before (snap_at snaps i)

-- what an answer of `scx` says
abbrev pub ScxSays : PassView → PassView → List Snap → List NodeNo → ℕ × Side → ℕ → Scx → Type 0
-- there is one entry more, of this call
ScxSays old new snaps finalize field v Done = (e : Entry) × IsDoneCall old new snaps finalize field v e
-- there is none, now or later: the SCX-record is aborted, and
-- another had reached a node since its snapshot
ScxSays old new snaps finalize field v (Lost node s) = HasChanged new.layout new.number Freeze (run_of new) (run_of old) snaps node.0 s.0 × (done_of new ≡ done_of old) × (value (run_of new) (state old.share.next_scx) ≡ 2)

-- Passes that come together

-- by one look at the table the pass has learned more; it has blamed nobody
pub record HasLookedOnce (allows : Layout → History → ℕ → Type 0) (old new : PassView) : Type 0 where
  pub goes_on : HasGoneOn allows old new 0 1 old.blamed
  pub takes_nothing : HasTakenNothing old new
  pub one_step : steps_of new ≡ suc (steps_of old)
  pub looks : HoldsOfOwn IsLook new.number (run_of old) (run_of new)

-- no share of these passes still holds an SCX-record that one of them has blamed
abbrev pub HaveLeftShares : List PassView → Type 0
HaveLeftShares passes = All (λ p. All (λ q. All (λ s. ¬ HasScx q.share s) p.blamed) passes) passes

-- New passes

-- pass c of the forest before its first step: it has its whole share and knows nothing
abbrev pub new_pass : Ground → ℕ → PassView
new_pass f c = record { table = f.table; layout = f.layout; planting = f.planting; number = c; share = whole_share f.layout c; known = []; blamed = [] }

-- these are all passes of the forest, in order, before their first steps
pub record AreNew (f : Ground) (passes : List PassView) : Type 0 where
  pub count : length passes ≡ f.layout.passes
  pub each : (j : ℕ) (d : PassView) → slice_get passes j ≡ Some d → d ≡ new_pass f j

-- All passes

-- one of these passes has the number n
abbrev pub HasPass : List PassView → ℕ → Type 0
HasPass passes n = Contains (map (λ (p : PassView). p.number) passes) n

-- each pass of the layout is among these
abbrev pub AreAllBack : Layout → List PassView → Type 0
AreAllBack lay passes = (n : ℕ) → n < lay.passes → HasPass passes n

-- these rows, in a table that is planted so, extend what each pass knew, by one row of its own,
-- which is a look at the table; its entries in them are those of its done list
abbrev pub AreBegun : List PassView → PlantingView → List Row → Type 0
AreBegun [] planting rows = Unit {0}
AreBegun (p ∷ ps) planting rows = Extends (history_of planting rows) (run_of p) × (entries_of p.number (log p.layout (history_of planting rows)) ≡ done_of p) × (rows_of p.number rows ≡ suc (steps_of p)) × HoldsOfOwn IsLook p.number (run_of p) (history_of planting rows) × AreBegun ps planting rows

-- The forest of this layout has ended: its words are those of one run, which extends what
-- these passes knew.
pub record IsClosed (allows : Layout → History → ℕ → Type 0) (lay : Layout) (passes : List PassView) (words : Contents) : Type 0 where
  pub layout : words.layout ≡ lay
  pub planting : PlantingView
  pub rows : List Row
  pub sound : IsRun allows lay (history_of planting rows)
  pub holds : (w : Word) → IsWord lay w → word_at words w ≡ value (history_of planting rows) w
  -- the fields are what the log of the run says
  pub fields : (n : ℕ) (side : Side) → n < all_nodes lay → word_at words (child n side) ≡ fields lay (history_of planting rows) n side
  pub begun : AreBegun passes planting rows
  -- no share still holds an SCX-record that a pass has blamed
  pub blamed : HaveLeftShares passes
