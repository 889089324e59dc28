-- The log, as it is remembered.
use Rattle.std.specs.Prelude.{◌≡◌, ◌↔◌, ℕ, zero, suc, ◌+◌, ◌<◌, ◌^◌, if◌then◌else◌, Bool, true, List, length, slice_index_or, slice_set}
use Rattle.histories.specs.Common.{Layout, Plan, Member, Word, Node, Scx, all_nodes, all_scx, info, scx, History, HasWon, log, last, is_final, Contents, word_at, count_of, plan_finalizes}
use Rattle.judge.specs.Graph.{has_flag, count_unset}
use Rattle.judge.specs.declared.entering.Entering.{Entering}

-- Of words: what those of an SCX-record say

-- its plan
abbrev pub plan_in : Contents → ℕ → ℕ
plan_in c s = word_at c (scx s Plan)

-- its j-th node
abbrev pub member_in : Contents → ℕ → ℕ → ℕ
member_in c s j = word_at c (scx s (Member j))

-- the SCX-record that the info of the word's node names
abbrev pub holder_in : Contents → Word → ℕ
holder_in c (Node n part) = word_at c (info n.0)
holder_in c (Scx s part) = 0

-- What an entry changes

-- the places of the last entries, where that with this place covers the first k nodes of s
abbrev pub last_after : Contents → ℕ → ℕ → ℕ → List ℕ → List ℕ
last_after c s zero entry last = last
last_after c s (suc k) entry last = slice_set (last_after c s k entry last) (member_in c s k) entry

-- the flags of final nodes, where an entry is over the first k nodes of s
abbrev pub finals_after : Contents → ℕ → ℕ → List Bool → List Bool
finals_after c s zero finals = finals
finals_after c s (suc k) finals =
    if plan_finalizes (plan_in c s) k
    then slice_set (finals_after c s k finals) (member_in c s k) true
    else finals_after c s k finals

-- an entry of s may be made: s and its nodes are of the table
pub record MayEnter (c : Contents) (e : Entering) (s : ℕ) : Type 0 where
  pub inside : s < all_scx c.layout
  pub won_size : length e.won.items ≡ all_scx c.layout
  pub last_size : length e.last.items ≡ all_nodes c.layout
  pub finals_size : length e.finals.items ≡ all_nodes c.layout
  pub members : (j : ℕ) → j < count_of (plan_in c s) → member_in c s j < all_nodes c.layout
  pub fits : e.entries + 1 < 2 ^ 64

-- the log is remembered
pub record EnteringStands (lay : Layout) (h : History) (e : Entering) : Type 0 where
  pub won_size : length e.won.items ≡ all_scx lay
  pub last_size : length e.last.items ≡ all_nodes lay
  pub finals_size : length e.finals.items ≡ all_nodes lay
  pub entries : e.entries ≡ length (log lay h)
  -- each entry is of another SCX-record
  pub counted : e.entries + count_unset e.won.items ≡ all_scx lay
  pub won : (s : ℕ) → has_flag e.won.items s ≡ true ↔ HasWon h s
  pub last : (n : ℕ) → slice_index_or e.last.items n 0 ≡ last (log lay h) n
  pub finals : (n : ℕ) → has_flag e.finals.items n ≡ is_final (log lay h) n
