-- A range, as an ordered read.
use Rattle.std.specs.Prelude.{ℕ, ◌+◌, ◌-◌, ◌*◌, ◌^◌, ◌<◌, ◌≤◌, List, length, reverse, Vec}
use Rattle.std.specs.Global.{Global}
use Rattle.histories.specs.Common.{NodeNo, History, value, Call, First}
use Rattle.template.specs.Common.{Snap, Pair, MapCall, Range as RangeOf, ManyPairs, rank, IsOwnMoment}
use Rattle.order.specs.Found.{AreThere}
use Rattle.order.specs.Meaning.{ReadMeaning}
use Rattle.order.specs.Paths.{path_left}
use Rattle.order.specs.Reads.{HasStood, Whenever}
use Rattle.order.specs.Visits.{Bounds, IsVisiting, IsVisitingIn, HasVisited, HasVisitedIn}
use Rattle.order.specs.declared.load.LeafPlace.{LeafPlace}
use Rattle.order.specs.declared.range.Range.{Range}
use Rattle.order.specs.declared.read.Children.{Children}
use Rattle.order.specs.declared.read.Children.TheVariants.{Left, Right, Both}

-- what is asked for
abbrev pub bounds_of : Range → Bounds
bounds_of r = record { low = r.low; high = r.high; most = r.most }

-- the nodes that wait, the next one first
abbrev pub waiting_of : Range → List NodeNo
waiting_of r = reverse r.waiting.items

-- the keys of a range are words, and it asks for few pairs
abbrev pub IsSmallRange : MapCall → Type 0
IsSmallRange (RangeOf low high most) = (high < 2 ^ 64) × (most ≤ 64)
IsSmallRange _ = ⊥

-- there may be keys, and pairs, to be answered
abbrev pub AsksForSome : MapCall → Type 0
AsksForSome (RangeOf low high most) = (0 < most) × (low ≤ high)
AsksForSome _ = ⊥

-- which children of a fork of this rank are to be visited
abbrev pub AreWithin : Range → ℕ → Children → Type 0
AreWithin r rank Both = (r.low < rank) × (rank ≤ r.high)
AreWithin r rank Left = r.high < rank
AreWithin r rank Right = rank ≤ r.low

-- it visits this node, and may take a pair
abbrev pub Visits : Range → History → ℕ → Type 0
Visits r b n = (length r.taken.items < r.most) × IsVisiting b (bounds_of r) n r.taken.items (waiting_of r) r.leaves

-- so it does at a place of a leaf
abbrev pub VisitsIn : Range → History → LeafPlace → Type 0
VisitsIn r b p = (length r.taken.items < r.most) × IsVisitingIn b (bounds_of r) p r.taken.items (waiting_of r) r.leaves

-- it is past a pair of a leaf, and has taken that if it is within the bounds
pub record GoesOnBehind (r : Range) (snaps : List Snap) (c : Call) (h : History) (p : LeafPlace) : Type 0 where
  pub own : IsOwnMoment c h
  pub asks : (0 < r.most) × (r.low ≤ r.high)
  pub some : 0 < length snaps
  pub stood : HasStood c h p.node.0
  pub waits : AreThere c h (waiting_of r)
  pub visited : Whenever c.layout h snaps (λ b. (length r.taken.items ≤ r.most) × HasVisitedIn b (bounds_of r) p r.taken.items (waiting_of r) r.leaves)

-- a leaf is visited, and it has taken what that has
pub record GoesBehind (r : Range) (snaps : List Snap) (c : Call) (h : History) (leaves : ℕ) : Type 0 where
  pub own : IsOwnMoment c h
  pub asks : (0 < r.most) × (r.low ≤ r.high)
  pub some : 0 < length snaps
  pub waits : AreThere c h (waiting_of r)
  pub visited : Whenever c.layout h snaps (λ b. (length r.taken.items < r.most) × HasVisited b (bounds_of r) r.taken.items (waiting_of r) leaves)

-- how many steps a try of a range may ask for, where no more nodes than these are taken
abbrev pub range_try_left : ℕ → ℕ → ℕ
range_try_left most nodes = (most + 2) * path_left nodes

abbrev pub call_left : MapCall → ℕ → ℕ
call_left (RangeOf low high most) nodes = range_try_left most nodes
call_left _ nodes = 0

-- how many leaves it may visit after the next one
abbrev pub leaves_left : ℕ → ℕ → ℕ
leaves_left leaves nodes = (leaves - 1) * path_left nodes

abbrev pub range_means : ReadMeaning Range (Vec Pair Global)
range_means = record {
  call = λ r. RangeOf r.low r.high r.most;
  found = λ r. ManyPairs r.taken.items;
  told = λ (told : Vec Pair Global). ManyPairs told.items;
  suits = IsSmallRange;
  asks = AsksForSome;
  waiting = waiting_of;
  starts = λ r more. First;
  IsAt = Visits;
  IsAtFork = λ r b n children. AreWithin r (rank (value b) n) children × Visits r b n;
  IsIn = VisitsIn;
  Takes = λ r key. (r.low ≤ key) × (key ≤ r.high);
  try_left = call_left;
  behind = λ r nodes. leaves_left r.leaves nodes;
}
