-- An update fills only what it has taken of its share.
use Rattle.std.proofs.Common.{◌≡◌, ◌≢◌, ◌<◌, ◌≤◌, ℕ, suc, sym, ◌∙◌, ap, arith}
use Rattle.histories.specs.Common.{Fill, LoadSettled, Step, Word, Node, Scx as ScxOf, Remaining, node, scx, History, Call, begun_at}
use Rattle.help.specs.Laws.Help.Lawful.{help_fills_not}
use Rattle.prims.specs.Scx.Known.{Job, job_of, part_at, FillWaits, ScxWaitsAt}
use Rattle.prims.specs.declared.scx.ScxAt.{ScxAt}
use Rattle.prims.specs.declared.scx.ScxAt.TheVariants.{Start as ScxStart, Plan as AtPlan, New as AtNew, Old as AtOld, Member as AtMember, Seen as AtSeen, Call as AtCall, Help}
use Rattle.prims.proofs.Lemmas.{llx_fills_not}
use Rattle.template.specs.Common.{TreeAllows}
use Rattle.template.proofs.Lemmas.{walk_fills_not}
use Rattle.edits.specs.Edits.{EditMeaning}
use Rattle.edits.specs.Known.{UpdateWaits, UpdateWaitsAt}
use Rattle.edits.specs.Taken.{FillsTaken}
use Rattle.edits.specs.declared.update.UpdateAt.{UpdateAt}
use Rattle.edits.specs.declared.update.UpdateAt.TheVariants.{Start, Walk, Guard, Look, Read, Fill as AtFill, Scx}
use Rattle.edits.specs.declared.update.UpdateRun.{UpdateRun}

-- the number of the node or the SCX-record of which the word is
abbrev number_of : Word → ℕ
number_of (Node n part) = n.0
number_of (ScxOf s part) = s.0

-- a step that fills nothing
pub fills_nothing : (left : Remaining) (s : Step) → s.kind ≢ Fill → FillsTaken left s
fills_nothing left s no_fill = record { nodes = λ n part kind is. absurd (no_fill kind); records = λ t part kind is. absurd (no_fill kind) }

-- a fill of an SCX's own record
record_filled : (left : Remaining) (m : Job) (c : Call) (h : History) (at : ScxAt) (s : Step) → m.scx.0 < left.next_scx → FillWaits TreeAllows c h m at s → FillsTaken left s
record_filled left m c h at s below w = record {
  nodes = λ n part kind is. absurd (let e : scx m.scx.0 (part_at at) ≡ node n part = sym word ∙ is in cc);
  records = λ t part kind is. (let e : m.scx.0 ≡ t = ap number_of (sym word ∙ is) in omega (arith, below, e));
}
  where
    word : s.word ≡ scx m.scx.0 (part_at at)
    word = ap (λ (k : Step). k.word) w.asked

-- so it is with each step of an SCX
scx_fills : (left : Remaining) (m : Job) (c : Call) (h : History) (at : ScxAt) (s : Step) → m.scx.0 < left.next_scx → ScxWaitsAt TreeAllows c h m at s → FillsTaken left s
scx_fills left m c h ScxStart s below w = absurd w
scx_fills left m c h (Help help) s below w = fills_nothing left s (help_fills_not TreeAllows help c h s w.0)
scx_fills left m c h AtPlan s below w = record_filled left m c h AtPlan s below w
scx_fills left m c h AtNew s below w = record_filled left m c h AtNew s below w
scx_fills left m c h AtOld s below w = record_filled left m c h AtOld s below w
scx_fills left m c h (AtMember j) s below w = record_filled left m c h (AtMember j) s below w
scx_fills left m c h (AtSeen j) s below w = record_filled left m c h (AtSeen j) s below w
scx_fills left m c h AtCall s below w = record_filled left m c h AtCall s below w

-- a fill of a node in hand
node_filled : (left : Remaining) (s : Step) (n top : ℕ) (part : _) → s.word ≡ node n part → n ≤ top → left.next_node ≡ suc top → FillsTaken left s
node_filled left s n top part word below next = record {
  nodes = λ k p kind is. (let e : n ≡ k = ap number_of (sym word ∙ is) in omega (arith, below, next, e));
  records = λ t p kind is. absurd (let e : node n part ≡ scx t p = sym word ∙ is in cc);
}

load_fills_not : (s : Step) → s.kind ≡ LoadSettled → s.kind ≢ Fill
load_fills_not s e f = let z : LoadSettled ≡ Fill = sym e ∙ f in cc

module _ {E : Type 0} (e : EditMeaning E) where
  fills_at : (m : UpdateRun E UpdateAt) (c : Call) (h : History) (s : Step) (at : UpdateAt) → UpdateWaitsAt e m c h s at → FillsTaken m.share s
  fills_at m c h s Start w = absurd w
  fills_at m c h s (Walk walk) w = fills_nothing m.share s (walk_fills_not walk c h s w.1)
  fills_at m c h s (Guard walk head llx) w = fills_nothing m.share s (llx_fills_not TreeAllows llx (begun_at c w.0) h s w.2)
  fills_at m c h s (Look f llx) w = fills_nothing m.share s (llx_fills_not TreeAllows llx (begun_at c w.0) h s w.2)
  fills_at m c h s (Read f n part) w = fills_nothing m.share s (load_fills_not s (ap (λ (k : Step). k.kind) w.1))
  fills_at m c h s (AtFill f nth part) w = node_filled m.share s _ _ part (ap (λ (k : Step). k.word) w.3) w.0.hand.highest w.0.full.next
  fills_at m c h s (Scx f scx) w = scx_fills m.share (job_of scx) (begun_at c w.0) h scx.at s (let next = w.1.next_scx in omega (arith, next)) w.2

  -- the step for which an update waits, if it fills, fills what it has taken
  pub update_fills_taken : (m : UpdateRun E UpdateAt) (c : Call) (h : History) (s : Step) → UpdateWaits e m c h s → FillsTaken m.share s
  update_fills_taken m c h s w = fills_at m (begun_at c w.0) h s m.at w.3
