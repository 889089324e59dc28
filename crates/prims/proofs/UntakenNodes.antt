-- Nodes of a share that are not taken stay so, except for the fresh node of an SCX.
use Rattle.std.proofs.Common.{◌≡◌, ◌≢◌, ℕ, inl, inr, sym, subst}
use Rattle.histories.specs.Common.{Layout, NodeWord, Settled, Child, Info, Marked, Word, Node, Scx as ScxOf, Row, Step, Fill, node, scx, first_value}
use Rattle.histories.specs.Common.{History, Opened, ◌⊳◌, Extends, IsOwnNode, IsFillOfNode, IsTakenNode, MayFill, Lawful, Obeys, Call, row_of}
use Rattle.arena.proofs.Lemmas.{taken_node_more}
use Rattle.histories.proofs.Lemmas.{lawful_row, one_node_owner}
use Rattle.help.specs.Laws.Help.Lawful.{help_fills_not}
use Rattle.prims.specs.Scx.Known.{Job, job_of, part_at, FillWaits, ScxWaitsAt}
use Rattle.prims.specs.Put.Known.{PutWaitsAt, PutWaits}
use Rattle.prims.specs.declared.scx.ScxAt.{ScxAt}
use Rattle.prims.specs.declared.scx.ScxAt.TheVariants.{Start as ScxStart, Plan as AtPlan, New as AtNew, Old as AtOld, Member as AtMember, Seen as AtSeen, Call as AtCall, Help}
use Rattle.prims.specs.declared.put.PutRun.{PutRun}
use Rattle.prims.specs.declared.put.PutAt.{PutAt}
use Rattle.prims.specs.declared.put.PutAt.TheVariants.{Start, Fill as AtFill, Scx}

-- a row that does not fill the node does not take it
pub not_filled : (h : History) (r : Row) (n : ℕ) → ¬ IsFillOfNode n r → ¬ IsTakenNode h n → ¬ IsTakenNode (r ⊳ h) n
unfolding IsTakenNode
not_filled h r n d free (inl x) = d x
not_filled h r n d free (inr x) = free x

-- a taken node stays taken
pub taken_node_since : (h m : History) (n : ℕ) → Extends h m → IsTakenNode m n → IsTakenNode h n
taken_node_since (Opened o) m n e t = subst (λ k. IsTakenNode k n) e t
taken_node_since (r ⊳ h) m n (inl e) t = subst (λ k. IsTakenNode k n) e t
taken_node_since (r ⊳ h) m n (inr e) t = taken_node_more r h n (taken_node_since h m n e t)

-- what a pass may fill is its own
fills_own : (lay : Layout) (h : History) (c n : ℕ) (part : NodeWord) (v : ℕ) → MayFill lay h c (node n part) v → IsOwnNode lay c n
fills_own lay h c n (Settled p) v m = m.own
fills_own lay h c n (Child side) v m = m.0.own
fills_own lay h c n Info v m = absurd m
fills_own lay h c n Marked v m = absurd m

-- a row of another pass takes no node of the pass c
pub untaken_node_by_others : (lay : Layout) (h : History) (r : Row) (c n : ℕ) → Lawful lay (r ⊳ h) → r.pass.0 ≢ c → IsOwnNode lay c n → ¬ IsTakenNode h n → ¬ IsTakenNode (r ⊳ h) n
untaken_node_by_others lay h r c n l other own = not_filled h r n never
  where
    never : ¬ IsFillOfNode n r
    never x =
        let obeys : MayFill lay h r.pass.0 r.word r.after = subst (λ a. Obeys lay h r a) x.1 (lawful_row lay h r l).obeys in
        other (one_node_owner lay r.pass.0 c n (fills_own lay h r.pass.0 n x.0 r.after (subst (λ a. MayFill lay h r.pass.0 a r.after) x.2 obeys)) own)

-- a row that is no fill takes nothing
pub untaken_node_by_step : (h : History) (r : Row) (n : ℕ) → r.kind ≢ Fill → ¬ IsTakenNode h n → ¬ IsTakenNode (r ⊳ h) n
untaken_node_by_step h r n no_fill = not_filled h r n (λ x. no_fill x.1)

-- A row of an SCX with a fresh cell

-- a fill of its SCX-record fills no node
of_scx : (allows : Layout → History → ℕ → Type 0) (m : Job) (c : Call) (h : History) (at : ScxAt) (s : Step) (n : ℕ) → FillWaits allows c h m at s → ¬ IsFillOfNode n (row_of c s h)
of_scx allows m c h at s n w x = let e : scx m.scx.0 (part_at at) ≡ node n x.0 = rw w.asked at x.2 in cc

-- nor does a row of the SCX
pub fills_no_node : (allows : Layout → History → ℕ → Type 0) (m : Job) (c : Call) (h : History) (at : ScxAt) (s : Step) (n : ℕ) → ScxWaitsAt allows c h m at s → ¬ IsFillOfNode n (row_of c s h)
fills_no_node allows m c h ScxStart s n w = absurd w
fills_no_node allows m c h (Help help) s n w = λ x. help_fills_not allows help c h s w.0 x.1
fills_no_node allows m c h AtPlan s n w = of_scx allows m c h AtPlan s n w
fills_no_node allows m c h AtNew s n w = of_scx allows m c h AtNew s n w
fills_no_node allows m c h AtOld s n w = of_scx allows m c h AtOld s n w
fills_no_node allows m c h (AtMember j) s n w = of_scx allows m c h (AtMember j) s n w
fills_no_node allows m c h (AtSeen j) s n w = of_scx allows m c h (AtSeen j) s n w
fills_no_node allows m c h AtCall s n w = of_scx allows m c h AtCall s n w

abbrev node_number : Word → ℕ
node_number (Node n part) = n.0
node_number (ScxOf s part) = 0

-- nor a row at a place, but of its fresh node
fills_no_other : (allows : Layout → History → ℕ → Type 0) (m : PutRun) (c : Call) (h : History) (at : PutAt) (s : Step) (n : ℕ) → PutWaitsAt allows c h m at s → n ≢ m.scx.update.fresh.0 → ¬ IsFillOfNode n (row_of c s h)
fills_no_other allows m c h Start s n w other = absurd w
fills_no_other allows m c h AtFill s n w other = λ x. (let e : node m.scx.update.fresh.0 first_value ≡ node n x.0 = rw w.2 at x.2 in other (λ i. node_number (sym e i)))
fills_no_other allows m c h Scx s n w other = fills_no_node allows (job_of m.scx) c h m.scx.at s n w.1

-- it takes no node but its own
pub put_untaken_node : (allows : Layout → History → ℕ → Type 0) (m : PutRun) (c : Call) (h : History) (s : Step) (n : ℕ) → PutWaits allows m c h s → n ≢ m.scx.update.fresh.0 → ¬ IsTakenNode h n → ¬ IsTakenNode (row_of c s h ⊳ h) n
put_untaken_node allows m c h s n w other = not_filled h (row_of c s h) n (fills_no_other allows m c h m.at s n w other)
