-- Which nodes fields have held, and `new` words of SCX-records.
use Rattle.std.specs.Prelude.{◌≡◌, ◌≢◌, ◌↔◌, ℕ, ◌<◌, if◌then◌else◌, ◌==◌, Bool, true, false, not, List, length, slice_index_or, slice_set}
use Rattle.histories.specs.Common.{Layout, Mode, Side, Child, New, Word, Node, Scx, all_nodes, child, scx, History, HasHeld}
use Rattle.arena.specs.Layout.{is_map}
use Rattle.judge.specs.declared.uses.Users.{Users}
use Rattle.judge.specs.declared.uses.Users.TheVariants.{Nobody, One, Several}
use Rattle.judge.specs.declared.uses.Uses.{Uses}

-- how many nodes fields hold at the start, the first ones: the root's child words hold 1 and 2,
-- each other field 0
abbrev pub held_nodes : Mode → ℕ
held_nodes mode = if is_map mode then 3 else 1

-- a field holds the node, or has held it
abbrev pub WasInField : History → ℕ → Type 0
WasInField h n = (m : ℕ) × (side : Side) × HasHeld h (child m side) n

-- `new` of another SCX-record than s holds the node, or has held it
abbrev pub WasInOtherNew : History → ℕ → ℕ → Type 0
WasInOtherNew h s n = (u : ℕ) × (u ≢ s) × HasHeld h (scx u New) n

-- no field, and `new` of no other SCX-record than s, has ever held the node
pub record IsUnused (h : History) (s n : ℕ) : Type 0 where
  pub in_no_field : (m : ℕ) (side : Side) → ¬ HasHeld h (child m side) n
  pub in_no_other : (u : ℕ) → u ≢ s → ¬ HasHeld h (scx u New) n

-- whether these users are not s alone
abbrev pub has_other : Users → ℕ → Bool
has_other Nobody s = false
has_other (One u) s = not (u == s)
has_other Several s = true

-- these are the SCX-records in whose `new` the node has been: none, this one alone, or several
abbrev pub AreUsers : History → ℕ → Users → Type 0
AreUsers h n Nobody = (s : ℕ) → ¬ HasHeld h (scx s New) n
AreUsers h n (One u) = HasHeld h (scx u New) n × ((s : ℕ) → HasHeld h (scx s New) n → s ≡ u)
AreUsers h n Several = (s : ℕ) → WasInOtherNew h s n

-- the users with s
abbrev pub with_user : Users → ℕ → Users
with_user Nobody s = One s
with_user (One u) s = if u == s then One u else Several
with_user Several s = Several

-- the users of a node
abbrev pub users_of : List Users → ℕ → Users
users_of users n = slice_index_or users n Nobody

-- the flags after the word got v: if it is a field, that of v is set
abbrev pub fields_after : Word → ℕ → List Bool → List Bool
fields_after (Node n (Child side)) v flags = slice_set flags v true
fields_after _ v flags = flags

-- the users after the word got v: if it is `new`, v has its SCX-record among them
abbrev pub users_after : Word → ℕ → List Users → List Users
users_after (Scx s New) v users = slice_set users v (with_user (users_of users v) s.0)
users_after _ v users = users

-- what fields and `new` have held is remembered
pub record UsesStand (lay : Layout) (h : History) (u : Uses) : Type 0 where
  pub fields_size : length u.in_field.items ≡ all_nodes lay
  pub users_size : length u.users.items ≡ all_nodes lay
  pub fields : (n : ℕ) → n < all_nodes lay → slice_index_or u.in_field.items n false ≡ true ↔ WasInField h n
  pub users : (n : ℕ) → n < all_nodes lay → AreUsers h n (users_of u.users.items n)
