-- What a lawful row changes, whatever its kind: loads and exchanges that lose change nothing.
use Rattle.std.proofs.Common.{◌≡◌, ℕ, ◌<◌, false, refl}
use native.Mathlib.Decide.{ℕ_discrete}
use Rattle.histories.specs.Common.{NodeWord, Settled, Child, Info, Marked, ScxWord, State, AllFrozen, Plan, New, Old, Member, Seen, Word, Node, Scx, Layout, Row}
use Rattle.histories.specs.Common.{Kind, Fill, LoadSettled, LoadInfo, LoadState, LoadMarked, LoadAllFrozen, LoadChild, Freeze, SetFrozen, Mark, Update, Commit, Abort}
use Rattle.histories.specs.Common.{node, scx, History, ◌⊳◌, value, seen, new, old, MayFill, IsFreeze, IsMark, IsUpdate, IsAbort, Obeys, IsLawful, Lawful, is_fill}
use Rattle.arena.specs.declared.word.ScxWord.TheVariants.{Call}
use Rattle.arena.specs.Fills.{IsOpenNode, IsOpenScx}
use Rattle.arena.specs.Lawful.{IsSetFrozen, IsCommit}

-- the words that fills store in
abbrev pub IsNodeFill : NodeWord → Type 0
IsNodeFill Info = ⊥
IsNodeFill Marked = ⊥
IsNodeFill _ = Unit {0}

abbrev pub IsScxFill : ScxWord → Type 0
IsScxFill State = ⊥
IsScxFill AllFrozen = ⊥
IsScxFill _ = Unit {0}

pub record FillsNode (lay : Layout) (h : History) (r : Row) (n : ℕ) (part : NodeWord) : Type 0 where
  pub kind : r.kind ≡ Fill
  pub word : r.word ≡ node n part
  pub fill : IsNodeFill part
  pub is_open : IsOpenNode lay h r.pass.0 n
  pub may : MayFill lay h r.pass.0 (node n part) r.after

pub record FillsScx (lay : Layout) (h : History) (r : Row) (s : ℕ) (part : ScxWord) : Type 0 where
  pub kind : r.kind ≡ Fill
  pub word : r.word ≡ scx s part
  pub fill : IsScxFill part
  pub is_open : IsOpenScx lay h r.pass.0 s
  pub may : MayFill lay h r.pass.0 (scx s part) r.after

-- a freezing exchange of the j-th node of s that wins
pub record FreezeWins (lay : Layout) (h : History) (r : Row) (s j : ℕ) : Type 0 where
  pub kind : r.kind ≡ Freeze
  pub freeze : IsFreeze lay h r s j
  pub before : r.before ≡ value h r.word
  pub found : r.before ≡ seen h s j
  pub stored : r.after ≡ s
  pub pass : r.pass.0 < lay.passes

-- an updating exchange of s that wins
pub record UpdateWins (h : History) (r : Row) (s : ℕ) : Type 0 where
  pub kind : r.kind ≡ Update
  pub update : IsUpdate h r s
  pub before : r.before ≡ value h r.word
  pub found : r.before ≡ old h s
  pub stored : r.after ≡ new h s

pub data Change (lay : Layout) (h : History) (r : Row) : Type 0 where
  nothing : is_fill r.kind ≡ false → r.after ≡ r.before → Change lay h r
  fills_node : (n : ℕ) (part : NodeWord) → FillsNode lay h r n part → Change lay h r
  fills_scx : (s : ℕ) (part : ScxWord) → FillsScx lay h r s part → Change lay h r
  freezes : (s j : ℕ) → FreezeWins lay h r s j → Change lay h r
  sets_frozen : (s : ℕ) → r.kind ≡ SetFrozen → IsSetFrozen h r s → Change lay h r
  marks : (s j : ℕ) → r.kind ≡ Mark → IsMark h r s j → Change lay h r
  updates : (s : ℕ) → UpdateWins h r s → Change lay h r
  commits : (s : ℕ) → r.kind ≡ Commit → IsCommit h r s → Change lay h r
  aborts : (s j : ℕ) → r.kind ≡ Abort → IsAbort lay h r s j → Change lay h r

fill : (lay : Layout) (h : History) (r : Row) → r.kind ≡ Fill → (w : Word) → r.word ≡ w → MayFill lay h r.pass.0 w r.after → Change lay h r
fill lay h r k (Node n Info) e m = absurd m
fill lay h r k (Node n Marked) e m = absurd m
fill lay h r k (Node n (Child side)) e m = fills_node n.0 (Child side) record { kind = k; word = e; fill = tt; is_open = m.0; may = m }
fill lay h r k (Node n (Settled p)) e m = fills_node n.0 (Settled p) record { kind = k; word = e; fill = tt; is_open = m; may = m }
fill lay h r k (Scx s State) e m = absurd m
fill lay h r k (Scx s AllFrozen) e m = absurd m
fill lay h r k (Scx s Old) e m = fills_scx s.0 Old record { kind = k; word = e; fill = tt; is_open = m.0; may = m }
fill lay h r k (Scx s (Member j)) e m = fills_scx s.0 (Member j) record { kind = k; word = e; fill = tt; is_open = m.0; may = m }
fill lay h r k (Scx s New) e m = fills_scx s.0 New record { kind = k; word = e; fill = tt; is_open = m.0; may = m }
fill lay h r k (Scx s (Seen j)) e m = fills_scx s.0 (Seen j) record { kind = k; word = e; fill = tt; is_open = m.0; may = m }
fill lay h r k (Scx s Plan) e m = fills_scx s.0 Plan record { kind = k; word = e; fill = tt; is_open = m; may = m }
fill lay h r k (Scx s Call) e m = fills_scx s.0 Call record { kind = k; word = e; fill = tt; is_open = m; may = m }

by_kind : (lay : Layout) (h : History) (r : Row) (k : Kind) → r.kind ≡ k → r.before ≡ value h r.word → r.pass.0 < lay.passes → Obeys lay h r k → Change lay h r
by_kind lay h r Fill e b i o = fill lay h r e r.word refl o
by_kind lay h r LoadSettled e b i o = nothing (rw e refl) o.same
by_kind lay h r LoadInfo e b i o = nothing (rw e refl) o.same
by_kind lay h r LoadState e b i o = nothing (rw e refl) o.same
by_kind lay h r LoadMarked e b i o = nothing (rw e refl) o.same
by_kind lay h r LoadAllFrozen e b i o = nothing (rw e refl) o.same
by_kind lay h r LoadChild e b i o = nothing (rw e refl) o.same
by_kind lay h r SetFrozen e b i o = sets_frozen o.0 e o.1
by_kind lay h r Mark e b i o = marks o.0 o.1 e o.2
by_kind lay h r Commit e b i o = commits o.0 e o.1
by_kind lay h r Abort e b i o = aborts o.0 o.1 e o.2
by_kind lay h r Freeze e b i o = go (ℕ_discrete r.before (seen h o.0 o.1))
  where
    go : Dec (r.before ≡ seen h o.0 o.1) → Change lay h r
    go (yes p) = freezes o.0 o.1 record { kind = e; freeze = o.2; before = b; found = p; stored = o.2.exchange.won p; pass = i }
    go (no p) = nothing (rw e refl) (o.2.exchange.lost p)
by_kind lay h r Update e b i o = go (ℕ_discrete r.before (old h o.0))
  where
    go : Dec (r.before ≡ old h o.0) → Change lay h r
    go (yes p) = updates o.0 record { kind = e; update = o.1; before = b; found = p; stored = o.1.exchange.won p }
    go (no p) = nothing (rw e refl) (o.1.exchange.lost p)

pub lawful_tail : (lay : Layout) (h : History) (r : Row) → Lawful lay (r ⊳ h) → Lawful lay h
unfolding Lawful
lawful_tail lay h r l = l.0

pub lawful_row : (lay : Layout) (h : History) (r : Row) → Lawful lay (r ⊳ h) → IsLawful lay h r
unfolding Lawful
lawful_row lay h r l = l.1

pub lawful_more : (lay : Layout) (h : History) (r : Row) → Lawful lay h → IsLawful lay h r → Lawful lay (r ⊳ h)
unfolding Lawful
lawful_more lay h r l x = (l, x)

pub change_of : (lay : Layout) (h : History) (r : Row) → IsLawful lay h r → Change lay h r
change_of lay h r x = by_kind lay h r r.kind refl x.before x.pass x.obeys

pub change : (lay : Layout) (h : History) (r : Row) → Lawful lay (r ⊳ h) → Change lay h r
change lay h r l = change_of lay h r (lawful_row lay h r l)
