-- An SCX with a fresh cell looks at no info word.
use Rattle.std.proofs.Common.{◌≡◌, ◌≢◌, ap, ℕ}
use Rattle.histories.specs.Common.{Layout, Step, Kind, Fill, LoadInfo, History, Call}
use Rattle.help.specs.Laws.Help.Lawful.{help_looks_not}
use Rattle.prims.specs.Scx.Known.{Job, job_of, FillWaits, ScxWaitsAt}
use Rattle.prims.specs.Put.Known.{PutWaitsAt, PutWaits}
use Rattle.prims.specs.declared.scx.ScxAt.{ScxAt}
use Rattle.prims.specs.declared.scx.ScxAt.TheVariants.{Start as ScxStart, Plan as AtPlan, New as AtNew, Old as AtOld, Member as AtMember, Seen as AtSeen, Call as AtCall, Help}
use Rattle.prims.specs.declared.put.PutRun.{PutRun}
use Rattle.prims.specs.declared.put.PutAt.{PutAt}
use Rattle.prims.specs.declared.put.PutAt.TheVariants.{Start, Fill as AtFill, Scx}

-- a step of another kind
other_kind : (s : Step) (k : Kind) → s.kind ≡ k → k ≢ LoadInfo → s.kind ≢ LoadInfo
other_kind s k e d = rw e d

kind_of : (s t : Step) → s ≡ t → s.kind ≡ t.kind
kind_of s t e = ap (λ (x : Step). x.kind) e

fill_looks_not : (allows : Layout → History → ℕ → Type 0) (m : Job) (c : Call) (h : History) (at : ScxAt) (s : Step) → FillWaits allows c h m at s → s.kind ≢ LoadInfo
fill_looks_not allows m c h at s w = other_kind s Fill (kind_of s _ w.asked) (λ e. cc)

scx_looks_not : (allows : Layout → History → ℕ → Type 0) (m : Job) (c : Call) (h : History) (at : ScxAt) (s : Step) → ScxWaitsAt allows c h m at s → s.kind ≢ LoadInfo
scx_looks_not allows m c h ScxStart s w = absurd w
scx_looks_not allows m c h (Help help) s w = other_kind s _ (kind_of s _ w.0.asked) (help_looks_not h help.scx.0 help.at)
scx_looks_not allows m c h AtPlan s w = fill_looks_not allows m c h AtPlan s w
scx_looks_not allows m c h AtNew s w = fill_looks_not allows m c h AtNew s w
scx_looks_not allows m c h AtOld s w = fill_looks_not allows m c h AtOld s w
scx_looks_not allows m c h (AtMember j) s w = fill_looks_not allows m c h (AtMember j) s w
scx_looks_not allows m c h (AtSeen j) s w = fill_looks_not allows m c h (AtSeen j) s w
scx_looks_not allows m c h AtCall s w = fill_looks_not allows m c h AtCall s w

put_looks_not_at : (allows : Layout → History → ℕ → Type 0) (m : PutRun) (c : Call) (h : History) (at : PutAt) (s : Step) → PutWaitsAt allows c h m at s → s.kind ≢ LoadInfo
put_looks_not_at allows m c h Start s w = absurd w
put_looks_not_at allows m c h AtFill s w = other_kind s Fill (kind_of s _ w.2) (λ e. cc)
put_looks_not_at allows m c h Scx s w = scx_looks_not allows (job_of m.scx) c h m.scx.at s w.1

pub put_looks_not : (allows : Layout → History → ℕ → Type 0) (m : PutRun) (c : Call) (h : History) (s : Step) → PutWaits allows m c h s → s.kind ≢ LoadInfo
put_looks_not allows m c h s w = put_looks_not_at allows m c h m.at s w
