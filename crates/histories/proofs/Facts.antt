-- What holds after every lawful history: the facts about each SCX-record that an info word names,
-- and about marks.
use Rattle.std.proofs.Common.{◌≡◌, ◌≢◌, ℕ, ◌<◌, true, ◌⊎◌, inl, inr, refl, arith}
use Rattle.histories.specs.Common.{ScxWord, AllFrozen, Plan, New, Old, Member, Seen, Word, Node, Scx, Side, Layout, Row, all_nodes, scx, info, marked, child, state, History, ◌⊳◌, value, HasHeld}
use Rattle.histories.specs.Common.{IsPlan, plan_finalizes, plan, member, IsOwnNode, IsOwnScx, IsNamed, by_scx, IsWin, HasWon, Descriptor, descriptor, count_in, field_index_in, field_in, IsStuck}
use Rattle.arena.specs.declared.word.ScxWord.TheVariants.{Call}
use Rattle.arena.proofs.Lemmas.{held_now}
use Rattle.histories.specs.Progress.{Froze}
use Rattle.histories.proofs.Changes.{IsScxFill}

-- it may still freeze its field's node, or holds it and is in progress
abbrev pub IsLive : Descriptor → History → ℕ → Type 0
IsLive d h s = (value h (info (d.member (field_index_in d))) ≡ d.seen (field_index_in d)) ⊎ (Froze d h s (field_index_in d) × (value h (state s) ≡ 0))

-- the pass whose share has the SCX-record and its new node
pub record IsOwned (lay : Layout) (d : Descriptor) (s : ℕ) : Type 0 where
  pub pass : ℕ
  pub is_pass : pass < lay.passes
  pub scx : IsOwnScx lay pass s
  pub new : IsOwnNode lay pass d.new

-- what is known of an SCX-record that an info word names
pub record About (lay : Layout) (d : Descriptor) (h : History) (s : ℕ) : Type 0 where
  pub owned : IsOwned lay d s
  pub planned : IsPlan d.plan
  pub inside : (j : ℕ) → j < count_in d → d.member j < all_nodes lay
  pub distinct : (j k : ℕ) → j < count_in d → k < count_in d → j ≢ k → d.member j ≢ d.member k
  -- what it has seen is finished
  pub rest : (j : ℕ) → j < count_in d → value h (state (d.seen j)) ≢ 0
  -- while it is in progress it holds what it froze
  pub holds : (j : ℕ) → j < count_in d → Froze d h s j → value h (state s) ≡ 0 → value h (info (d.member j)) ≡ s
  -- what it found in a node's info never returns there
  pub gone : (j : ℕ) → j < count_in d → Froze d h s j → value h (info (d.member j)) ≢ d.seen j
  pub done : value h (state s) ≢ 0 → HasWon h s ⊎ IsStuck d h s
  -- its field shows `old` until its update has won, and never again after that
  pub steady : IsLive d h s → (value h (field_in d) ≡ d.old) ⊎ HasWon h s
  pub moved : HasWon h s → value h (field_in d) ≢ d.old
  pub fresh : IsLive d h s → ¬ HasWon h s → ¬ HasHeld h (field_in d) d.new
  pub had : Froze d h s (field_index_in d) → HasHeld h (field_in d) d.old
  pub clean : (j : ℕ) → j < count_in d → value h (info (d.member j)) ≡ d.seen j → value h (marked (d.member j)) ≡ 0

-- n is a node of s, and those before it are frozen for s
pub record IsCell (d : Descriptor) (h : History) (s n : ℕ) : Type 0 where
  pub index : ℕ
  pub within : index < count_in d
  pub is : d.member index ≡ n
  pub earlier : (i : ℕ) → i < index → Froze d h s i

-- all nodes of s are frozen for it
pub record IsFlagged (d : Descriptor) (h : History) (s : ℕ) : Type 0 where
  pub some : 0 < count_in d
  pub frozen : (j : ℕ) → j < count_in d → Froze d h s j

-- s finalizes n, and holds it for ever
pub record IsMarker (d : Descriptor) (h : History) (s n : ℕ) : Type 0 where
  pub flag : value h (scx s AllFrozen) ≡ 1
  pub index : ℕ
  pub within : index < count_in d
  pub is : d.member index ≡ n
  pub removed : plan_finalizes d.plan index ≡ true
  pub holds : value h (info n) ≡ s

-- it holds each node that it finalizes
abbrev pub Holds : Descriptor → History → ℕ → Type 0
Holds d h s = (j : ℕ) → j < count_in d → plan_finalizes d.plan j ≡ true → value h (info (d.member j)) ≡ s

abbrev pub AllMarked : Descriptor → History → Type 0
AllMarked d h = (j : ℕ) → j < count_in d → plan_finalizes d.plan j ≡ true → value h (marked (d.member j)) ≡ 1

-- a finished SCX-record is committed and has won, or is aborted and has not
abbrev pub IsEnded : History → ℕ → ℕ → Type 0
IsEnded h s v = ((v ≡ 1) × HasWon h s) ⊎ ((v ≡ 2) × ¬ HasWon h s)

pub record Facts (lay : Layout) (h : History) : Type 0 where
  pub dummy : value h (state 0) ≡ 2
  pub empty : plan h 0 ≡ 0
  pub ended : (s : ℕ) → value h (state s) ≢ 0 → IsEnded h s (value h (state s))
  pub flag : (s : ℕ) → value h (scx s AllFrozen) ≢ 0 → value h (scx s AllFrozen) ≡ 1
  pub flagged : (s : ℕ) → value h (scx s AllFrozen) ≢ 0 → IsFlagged (descriptor h s) h s
  pub winner : (s : ℕ) → HasWon h s → value h (scx s AllFrozen) ≡ 1
  -- it holds for ever what it finalizes
  pub finalizes : (s : ℕ) → value h (scx s AllFrozen) ≢ 0 → Holds (descriptor h s) h s
  pub cell : (s n : ℕ) → s ≢ 0 → HasHeld h (info n) s → IsCell (descriptor h s) h s n
  pub about : (s n : ℕ) → s ≢ 0 → HasHeld h (info n) s → About lay (descriptor h s) h s
  pub mark : (n : ℕ) → value h (marked n) ≢ 0 → value h (marked n) ≡ 1
  pub marked : (n : ℕ) → value h (marked n) ≢ 0 → (s : ℕ) × IsMarker (descriptor h s) h s n
  pub all_marked : (s : ℕ) → HasWon h s → AllMarked (descriptor h s) h

pub descriptor_same : (h k : History) (s : ℕ) → ((a : ScxWord) → IsScxFill a → value k (scx s a) ≡ value h (scx s a)) → descriptor k s ≡ descriptor h s
descriptor_same h k s e = λ i. record { plan = e Plan tt i; member = λ j. e (Member j) tt i; seen = λ j. e (Seen j) tt i; new = e New tt i; old = e Old tt i; call = e Call tt i }

pub won_more : (r : Row) (h : History) (s : ℕ) → HasWon h s → HasWon (r ⊳ h) s
unfolding HasWon
won_more r h s w = inr w

pub won_split : (r : Row) (h : History) (s : ℕ) → HasWon (r ⊳ h) s → IsWin h r s ⊎ HasWon h s
unfolding HasWon
won_split r h s w = w

-- a row that is no update that wins
pub won_back : (r : Row) (h : History) → ((s : ℕ) → ¬ IsWin h r s) → (s : ℕ) → HasWon (r ⊳ h) s → HasWon h s
unfolding HasWon
won_back r h never s (inl w) = absurd (never s w)
won_back r h never s (inr w) = w

abbrev node_number : Word → ℕ
node_number (Node n _) = n.0
node_number (Scx s _) = 0

pub same_node : (u w : Word) → u ≡ w → node_number u ≡ node_number w
same_node u w e = λ i. node_number (e i)

pub child_node : (n m : ℕ) (a b : Side) → child n a ≡ child m b → n ≡ m
child_node n m a b e = same_node (child n a) (child m b) e

pub info_node : (n m : ℕ) → info n ≡ info m → n ≡ m
info_node n m e = same_node (info n) (info m) e

-- the nodes of a named SCX-record are named
pub member_named : (lay : Layout) (h : History) (s n j : ℕ) → HasHeld h (info n) s → IsNamed lay h (member h s j)
member_named lay h s n j p = by_scx s (Member j) (n, p) tt (held_now h (scx s (Member j)))

-- the dummy covers no node
pub some_is_real : {lay : Layout} {h : History} {s : ℕ} → Facts lay h → 0 < count_in (descriptor h s) → s ≢ 0
some_is_real {lay} {h} {s} f p e =
    let q : count_in (descriptor h 0) ≡ 0 = rw f.empty refl in
    let x : 0 < count_in (descriptor h 0) = rw e at p in
    omega arith

pub flagged_about : {lay : Layout} {h : History} {s : ℕ} → Facts lay h → IsFlagged (descriptor h s) h s → About lay (descriptor h s) h s
flagged_about {lay} {h} {s} f x = f.about s _ (some_is_real f x.some) (x.frozen 0 x.some)
