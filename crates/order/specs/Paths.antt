-- How many steps a read may ask for on its way down to a leaf: 67 a node of the path. At the leaf
-- it needs fourteen of them at most.
use Rattle.std.specs.Prelude.{◌≡◌, ℕ, ◌+◌, ◌*◌, ◌-◌, ◌<◌, ◌≤◌, false}
use Rattle.arena.specs.declared.head.Head.{Head as HeadParts}
use Rattle.histories.specs.Common.{head_of, slot_no}
use Rattle.order.specs.Meaning.{ReadMeaning}
use Rattle.order.specs.Near.{near_most}
use Rattle.order.specs.declared.load.LeafPlace.{LeafPlace}
use Rattle.order.specs.declared.load.ReadLoad.{ReadLoad}
use Rattle.order.specs.declared.load.ReadLoad.TheVariants.{Head, Key, More, Pair, Value, High}
use Rattle.order.specs.declared.read.ReadBegin.{ReadBegin}
use Rattle.order.specs.declared.read.ReadBegin.TheVariants.{Walk, Root, Answer}
use Rattle.order.specs.declared.read.ReadNext.{ReadNext}
use Rattle.order.specs.declared.read.ReadNext.TheVariants.{Load, Look, Validate}

-- how many steps a path from the root to a leaf may need, where no more nodes than these are taken
abbrev pub path_left : ℕ → ℕ
path_left nodes = 67 * (2 + nodes)

-- a node of this head is not deeper than the taken nodes allow, nor are the children of a fork
abbrev pub HeadFits : HeadParts → ℕ → Type 0
HeadFits head nodes = (head.level < 2 + nodes) × (head.leaf ≡ false → head.level + 1 < 2 + nodes)

-- what a load finds does not lead deeper than that
abbrev pub LoadFits : ℕ → ℕ → ReadLoad → Type 0
LoadFits v nodes (Head above n) = (above < (head_of v).level) × HeadFits (head_of v) nodes
LoadFits v nodes (Key low n) = low + 1 < 2 + nodes
LoadFits v nodes _ = Unit {0}

-- three steps a slot from this place of a leaf on: its key, and the two words of its value
abbrev pub slots_left : LeafPlace → ℕ
slots_left p = 12 - 3 * slot_no p.slot

module _ {R A : Type 0} (means : ReadMeaning R A) (r : R) (nodes : ℕ) where
  -- a try that begins so takes no more steps than a try may
  abbrev pub BeginsNear : ReadBegin A → Type 0
  BeginsNear (Walk key side) = 3 * (2 + nodes) + 5 + near_most + path_left nodes + means.behind r nodes ≤ means.try_left (means.call r) nodes
  BeginsNear Root = path_left nodes + means.behind r nodes ≤ means.try_left (means.call r) nodes
  BeginsNear (Answer answer) = Unit {0}

  -- how many steps are left before this load has begun, without those of a VLX over the snapshots
  -- that it has by now
  abbrev pub load_left : ReadLoad → ℕ
  load_left (Head above n) = 67 * (1 + nodes - above) + means.behind r nodes
  load_left (Key low n) = 67 * (2 + nodes - low) - 1 + means.behind r nodes
  load_left (More n) = 13 + means.behind r nodes
  load_left (Pair p) = slots_left p + means.behind r nodes
  load_left (Value p key) = slots_left p - 1 + means.behind r nodes
  load_left (High p key low) = slots_left p - 2 + means.behind r nodes

  -- and before anything else has
  abbrev pub next_left : ReadNext → ℕ
  next_left (Load load) = load_left load
  next_left (Look children level n) = 65 + 67 * (1 + nodes - level) + means.behind r nodes
  next_left Validate = 0

  -- a load is a step at least
  abbrev pub IsStep : ReadNext → Type 0
  IsStep (Load load) = 0 < load_left load
  IsStep _ = Unit {0}

  -- how many steps are left then, at most
  abbrev pub ComesNearer : ReadNext → ℕ → Type 0
  ComesNearer next n = IsStep next × (next_left next ≤ n)
