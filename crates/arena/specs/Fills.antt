-- What a pass may fill: the records of its own share that are not named yet.
use Rattle.std.specs.Prelude.{◌≡◌, ◌≢◌, ℕ, ◌<◌, ◌⊎◌}
use Rattle.arena.specs.declared.word.Side.{Side}
use Rattle.arena.specs.declared.word.NodeWord.{NodeWord}
use Rattle.arena.specs.declared.word.NodeWord.TheVariants.{Child, Info, Marked}
use Rattle.arena.specs.declared.word.ScxWord.{ScxWord}
use Rattle.arena.specs.declared.word.ScxWord.TheVariants.{State, AllFrozen, New, Old, Member, Seen}
use Rattle.arena.specs.declared.word.Word.{Word}
use Rattle.arena.specs.declared.word.Word.TheVariants.{Node, Scx}
use Rattle.arena.specs.declared.layout.Layout.{Layout}
use Rattle.arena.specs.declared.step.Row.{Row}
use Rattle.arena.specs.declared.step.Kind.TheVariants.{Fill}
use Rattle.arena.specs.Layout.{opening_nodes}
use Rattle.arena.specs.Share.{whole_share, HasNode, HasScx}
use Rattle.arena.specs.Words.{node, scx, info, child}
use Rattle.arena.specs.History.{History, Opened, ◌⊳◌, HasHeld}

-- Shares

-- node n is of pass c's own share
abbrev pub IsOwnNode : Layout → ℕ → ℕ → Type 0
IsOwnNode lay c n = HasNode (whole_share lay c) n

-- SCX-record s is of pass c's own share
abbrev pub IsOwnScx : Layout → ℕ → ℕ → Type 0
IsOwnScx lay c s = HasScx (whole_share lay c) s

-- node n is of the share of another pass than c
pub record IsOthersNode (lay : Layout) (c n : ℕ) : Type 0 where
  pub pass : ℕ
  pub is_pass : pass < lay.passes
  pub is_other : pass ≢ c
  pub owns : IsOwnNode lay pass n

-- SCX-record s is of the share of another pass than c
pub record IsOthersScx (lay : Layout) (c s : ℕ) : Type 0 where
  pub pass : ℕ
  pub is_pass : pass < lay.passes
  pub is_other : pass ≢ c
  pub owns : IsOwnScx lay pass s

-- Names: what once was named stays named

-- an SCX-record is named as soon as an info word has named it
abbrev pub IsNamedScx : History → ℕ → Type 0
IsNamedScx h s = (n : ℕ) × HasHeld h (info n) s

-- a node may come to be named by `new`, `old` and the `v` words of an SCX-record, by no other word
abbrev pub NamesNode : ScxWord → Type 0
NamesNode New = Unit {0}
NamesNode Old = Unit {0}
NamesNode (Member j) = Unit {0}
NamesNode _ = ⊥

-- the node is named: passes other than its owner may know it. What is named stays named
pub data IsNamed (lay : Layout) (h : History) : ℕ → Type 0 where
  -- it was there from the start
  opening_node : {n : ℕ} → n < opening_nodes lay → IsNamed lay h n
  -- a field of a named node holds it, or has held it
  by_field : {n : ℕ} (m : ℕ) (side : Side) → IsNamed lay h m → HasHeld h (child m side) n → IsNamed lay h n
  -- a word of a named SCX-record that names nodes holds it, or has held it
  by_scx : {n : ℕ} (s : ℕ) (part : ScxWord) → IsNamedScx h s → NamesNode part → HasHeld h (scx s part) n → IsNamed lay h n

-- the node was there from the start, or a field of a named node holds it or has held it
abbrev pub IsInField : Layout → History → ℕ → Type 0
IsInField lay h n = (n < opening_nodes lay) ⊎ ((m : ℕ) × (side : Side) × IsNamed lay h m × HasHeld h (child m side) n)

-- Fills

-- the row fills a word of node n
abbrev pub IsFillOfNode : ℕ → Row → Type 0
IsFillOfNode n r = (part : NodeWord) × (r.kind ≡ Fill) × (r.word ≡ node n part)

-- the row fills a word of SCX-record s
abbrev pub IsFillOfScx : ℕ → Row → Type 0
IsFillOfScx s r = (part : ScxWord) × (r.kind ≡ Fill) × (r.word ≡ scx s part)

-- the node is taken: some row has filled a word of it
unfoldable pub IsTakenNode : History → ℕ → Type 0
IsTakenNode (Opened o) n = ⊥
IsTakenNode (r ⊳ h) n = IsFillOfNode n r ⊎ IsTakenNode h n

-- the SCX-record is taken: some row has filled a word of it
unfoldable pub IsTakenScx : History → ℕ → Type 0
IsTakenScx (Opened o) s = ⊥
IsTakenScx (r ⊳ h) s = IsFillOfScx s r ⊎ IsTakenScx h s

-- a node of the pass's share that it has taken or takes next, and that is not named yet
pub record IsOpenNode (lay : Layout) (h : History) (c n : ℕ) : Type 0 where
  pub own : IsOwnNode lay c n
  -- all nodes of the share below it are taken
  pub in_order : (m : ℕ) → IsOwnNode lay c m → m < n → IsTakenNode h m
  pub unnamed : ¬ IsNamed lay h n

-- an SCX-record of the pass's share that it has taken or takes next, and that is not named yet
pub record IsOpenScx (lay : Layout) (h : History) (c s : ℕ) : Type 0 where
  pub own : IsOwnScx lay c s
  pub in_order : (t : ℕ) → IsOwnScx lay c t → t < s → IsTakenScx h t
  pub unnamed : ¬ IsNamedScx h s

-- the pass c may fill the word with v: the word's record is open to it, and v may be known to it
abbrev pub MayFill : Layout → History → ℕ → Word → ℕ → Type 0
-- no info, mark, state or `allfrozen` is ever filled
MayFill lay h c (Node n Info) v = ⊥
MayFill lay h c (Node n Marked) v = ⊥
-- another pass's node is stored only where a field is known to have held it
MayFill lay h c (Node n (Child side)) v = IsOpenNode lay h c n.0 × (IsOthersNode lay c v → IsInField lay h v)
MayFill lay h c (Node n _) v = IsOpenNode lay h c n.0
MayFill lay h c (Scx s State) v = ⊥
MayFill lay h c (Scx s AllFrozen) v = ⊥
MayFill lay h c (Scx s Old) v = IsOpenScx lay h c s.0 × (IsOthersNode lay c v → IsInField lay h v)
MayFill lay h c (Scx s (Member j)) v = IsOpenScx lay h c s.0 × (IsOthersNode lay c v → IsInField lay h v)
-- into `new` goes no node of another pass
MayFill lay h c (Scx s New) v = IsOpenScx lay h c s.0 × ¬ IsOthersNode lay c v
-- another pass's SCX-record is stored only where an info word has named it
MayFill lay h c (Scx s (Seen j)) v = IsOpenScx lay h c s.0 × (IsOthersScx lay c v → IsNamedScx h v)
MayFill lay h c (Scx s _) v = IsOpenScx lay h c s.0
