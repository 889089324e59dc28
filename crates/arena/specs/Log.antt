-- The log of a history, and what it says of a node: its
-- fields, its last entry, and whether it is final.
use Rattle.std.specs.Prelude.{◌≡◌, ℕ, zero, suc, ◌-◌, ◌/◌, Bool, true, false, if◌then◌else◌, ◌&&◌, ◌||◌, ◌==◌, ◌⊎◌, List, [], ◌∷◌, length}
use Rattle.arena.specs.declared.word.Side.{Side}
use Rattle.arena.specs.declared.word.NodeWord.TheVariants.{Child}
use Rattle.arena.specs.declared.word.ScxWord.TheVariants.{Call}
use Rattle.arena.specs.declared.word.Word.{Word}
use Rattle.arena.specs.declared.word.Word.TheVariants.{Node}
use Rattle.arena.specs.declared.layout.Layout.{Layout}
use Rattle.arena.specs.declared.step.Row.{Row}
use Rattle.arena.specs.declared.step.Kind.{Kind}
use Rattle.arena.specs.declared.step.Kind.TheVariants.{Fill, Update}
use Rattle.arena.specs.Words.{same_word, same_side, scx, info, child}
use Rattle.arena.specs.History.{History, Opened, ◌⊳◌, value}
use Rattle.arena.specs.ScxRecords.{count, member, scx_finalizes}

-- the pass whose share has the SCX-record s, for s from 1 on
abbrev pub owner : Layout → ℕ → ℕ
owner lay s = (s - 1) / lay.scx

-- an update that has won, as it is in the log
pub record Entry : Type 0 where
  -- its SCX-record, the pass that owns that one, and the number of the owner's call
  pub scx : ℕ
  pub owner : ℕ
  pub call : ℕ
  -- the nodes that it covers, and those of them that it finalizes
  pub members : List ℕ
  pub removed : List ℕ
  -- the field that it changed, and what it stored there
  pub node : ℕ
  pub side : Side
  pub new : ℕ

-- k nodes of s, from its j-th on
abbrev pub members_from : History → ℕ → ℕ → ℕ → List ℕ
members_from h s j zero = []
members_from h s j (suc k) = member h s j ∷ members_from h s (suc j) k

-- those of the k nodes of s from its j-th on that s finalizes
abbrev pub finalized_from : History → ℕ → ℕ → ℕ → List ℕ
finalized_from h s j zero = []
finalized_from h s j (suc k) =
    if scx_finalizes h s j then member h s j ∷ finalized_from h s (suc j) k
    else finalized_from h s (suc j) k

-- the entry of an update of s that stores v into that field of n
abbrev pub entry : Layout → History → ℕ → ℕ → Side → ℕ → Entry
entry lay h s n side v =
    record {
      scx = s;
      owner = owner lay s;
      call = value h (scx s Call);
      members = members_from h s 0 (count h s);
      removed = finalized_from h s 0 (count h s);
      node = n;
      side = side;
      new = v;
    }

-- what a row adds to the log: where an update changes its field, an entry of the SCX-record that
-- the info of the field's node names
abbrev pub with_row : Layout → History → Row → Kind → Word → List Entry → List Entry
with_row lay h r Update (Node n (Child side)) es =
    if r.before == r.after then es
    else entry lay h (value h (info n.0)) n.0 side r.after ∷ es
with_row lay h r _ _ es = es

-- the updates that have won, the newest first; the place
-- of an entry is the number of entries up to it
unfoldable pub log : Layout → History → List Entry
log lay (Opened o) = []
log lay (r ⊳ h) = with_row lay h r r.kind r.word (log lay h)

-- whether a step of this kind is a fill
abbrev pub is_fill : Kind → Bool
is_fill Fill = true
is_fill _ = false

-- what the last fill of a word left in it, or its opening word
unfoldable pub filled : History → Word → ℕ
filled (Opened o) w = o.words w
filled (r ⊳ h) w = if is_fill r.kind && same_word r.word w then r.after else filled h w

-- what the field on this side of n holds after the entries, if it held `start` before them
abbrev pub field_after : ℕ → List Entry → ℕ → Side → ℕ
field_after start [] n side = start
field_after start (e ∷ es) n side =
    if e.node == n && same_side e.side side then e.new
    else field_after start es n side

-- a field of a node as the log has it: what it was filled with, changed by the entries in order
abbrev pub fields : Layout → History → ℕ → Side → ℕ
fields lay h n side = field_after (filled h (child n side)) (log lay h) n side

-- whether the list has n
abbrev pub has : List ℕ → ℕ → Bool
has [] n = false
has (m ∷ ms) n = m == n || has ms n

-- the place of the last entry that covers the node, counted from 1, or 0 where none does
abbrev pub last : List Entry → ℕ → ℕ
last [] n = 0
last (e ∷ es) n = if has e.members n then suc (length es) else last es n

-- whether some entry finalizes the node: it is final
abbrev pub is_final : List Entry → ℕ → Bool
is_final [] n = false
is_final (e ∷ es) n = has e.removed n || is_final es n

-- some entry is of s
abbrev pub IsEntered : List Entry → ℕ → Type 0
IsEntered [] s = ⊥
IsEntered (e ∷ es) s = (e.scx ≡ s) ⊎ IsEntered es s

-- no SCX-record has two entries
abbrev pub AreOnce : List Entry → Type 0
AreOnce [] = Unit {0}
AreOnce (e ∷ es) = ¬ IsEntered es e.scx × AreOnce es
