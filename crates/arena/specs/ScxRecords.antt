-- What the words of an SCX-record say: the nodes that it covers, those
-- that it finalizes, and the field that it changes.
use Rattle.std.specs.Prelude.{ℕ, ◌+◌, ◌*◌, ◌/◌, ◌%◌, ◌^◌, ◌<◌, Bool, if◌then◌else◌, ◌&&◌, ◌==◌, nat_lt, nat_le, List, [], ◌∷◌}
use Rattle.arena.specs.declared.word.Side.{Side}
use Rattle.arena.specs.declared.word.Side.TheVariants.{Left, Right}
use Rattle.arena.specs.declared.word.ScxWord.TheVariants.{Plan, New, Old, Member, Seen}
use Rattle.arena.specs.declared.word.Word.{Word}
use Rattle.arena.specs.Words.{scx, child}
use Rattle.arena.specs.History.{History, value}

-- A plan word packs n + 8 * R + 128 * at + 512 * side: how many nodes, a bit for each node that is
-- finalized, which node has the field, and its side.

-- how many nodes a word names in its lowest bits, be it a plan or not
abbrev pub raw_count : ℕ → ℕ
raw_count p = p % 8

-- how many nodes a plan word covers, at most four; a word that says more of them, or is 1024 or
-- more, is no plan and covers none
abbrev pub count_of : ℕ → ℕ
count_of p = if nat_lt p 1024 && nat_le (p % 8) 4 then p % 8 else 0

-- whether the plan word has the j-th node finalized
abbrev pub plan_finalizes : ℕ → ℕ → Bool
plan_finalizes p j = p / 8 / 2 ^ j % 2 == 1

-- which of the covered nodes has the field: its place among them, 0 to 3
abbrev pub field_index_of : ℕ → ℕ
field_index_of p = p / 128 % 4

-- on which side of its node the field is
abbrev pub side_of : ℕ → Side
side_of p = if p / 512 == 0 then Left else Right

-- the side as a plan word packs it
abbrev pub side_no : Side → ℕ
side_no Left = 0
side_no Right = 1

-- a bit, and the bits of the nodes that are to be finalized, the first node's lowest
abbrev pub bit : Bool → ℕ
bit b = if b then 1 else 0

abbrev pub removed_bits : List Bool → ℕ
removed_bits [] = 0
removed_bits (b ∷ bs) = bit b + 2 * removed_bits bs

-- a plan: of one to four nodes, with those that are finalized and that of the field among them
pub record IsPlan (p : ℕ) : Type 0 where
  pub some : 0 < count_of p
  -- it finalizes none beyond the nodes that it covers
  pub removed : p / 8 % 16 < 2 ^ count_of p
  pub field : field_index_of p < count_of p

-- the plan word of s after a history
abbrev pub plan : History → ℕ → ℕ
plan h s = value h (scx s Plan)

-- the j-th of the nodes that s covers, counted from 0: its `v` word
abbrev pub member : History → ℕ → ℕ → ℕ
member h s j = value h (scx s (Member j))

-- what the info of its j-th node held when the owner of s took a snapshot: the `i` word
abbrev pub seen : History → ℕ → ℕ → ℕ
seen h s j = value h (scx s (Seen j))

-- what s is to put into its field
abbrev pub new : History → ℕ → ℕ
new h s = value h (scx s New)

-- what s expects to find in its field
abbrev pub old : History → ℕ → ℕ
old h s = value h (scx s Old)

-- how many nodes s covers
abbrev pub count : History → ℕ → ℕ
count h s = count_of (plan h s)

-- whether s finalizes its j-th node
abbrev pub scx_finalizes : History → ℕ → ℕ → Bool
scx_finalizes h s j = plan_finalizes (plan h s) j

-- which of the nodes of s has the field: its place among them
abbrev pub field_index : History → ℕ → ℕ
field_index h s = field_index_of (plan h s)

-- the field that s changes
abbrev pub field : History → ℕ → Word
field h s = child (member h s (field_index h s)) (side_of (plan h s))
