-- VLX comes to the infos of the nodes of its snapshots, and SCX to its own SCX-record besides.
use Rattle.std.proofs.Common.{◌≡◌, ◌<◌, ℕ, inl, List, length, sym, ◌∙◌, ap, subst}
use Rattle.histories.specs.Common.{Layout, Step, ScxNo, History, Extends, count, count_of, IsTakenScx, IsRun, Call, begun_at}
use Rattle.arena.proofs.Lemmas.{ends_self}
use Rattle.prims.specs.Scx.Known.{Job, job_of, FillWaits, HasFilled, ScxWaitsAt, ScxWaits}
use Rattle.prims.specs.Vlx.Known.{VlxWaits}
use Rattle.prims.specs.declared.snap.Snap.{Snap}
use Rattle.prims.specs.declared.scx.ScxRun.{ScxRun}
use Rattle.prims.specs.declared.scx.ScxAt.{ScxAt}
use Rattle.prims.specs.declared.scx.ScxAt.TheVariants.{Start, Plan as AtPlan, New as AtNew, Old as AtOld, Member as AtMember, Seen as AtSeen, Call as AtCall, Help}
use Rattle.touching.specs.Touches.{WasSo, own_scx, Touches, WereSo, MayBeHelped, own}
use Rattle.touching.proofs.Finding.{FillsOrFinds, Finds, found_so, found_touched}
use Rattle.touching.proofs.Moments.{taken_scx_since}
use Rattle.touching.proofs.Helping.{help_touches}

pub vlx_in_call : (P : Layout → History → ℕ → Type 0) (snaps : List Snap) (n : ℕ) (c : Call) (begin h : History) (s : Step) → VlxWaits snaps n (begun_at c begin) h s → WereSo P c h snaps → Finds P c h s.word
vlx_in_call P snaps n c begin h s w so = rw w.asked (found_so (so w.index w.looks.within))

-- the SCX may be a part of a call, and have begun at `begin`
module _ (P : Layout → History → ℕ → Type 0) (allows : Layout → History → ℕ → Type 0) (c : Call) (begin h : History) (run : IsRun allows c.layout h) (since : Extends begin c.start) (m : Job) where
  -- its SCX-record was not taken as the call began
  pub untaken : (s : ℕ) → ¬ IsTakenScx begin s → ¬ IsTakenScx c.start s
  untaken s free t = free (taken_scx_since begin c.start s since t)

  fill_at : (at : ScxAt) (s : Step) → FillWaits allows (begun_at c begin) h m at s → Touches P c h s.word
  fill_at at s k = rw k.asked (own_scx k.fills.hand.is_open.own (untaken m.scx.0 k.fills.way.free))

  pub fills_at : (at : ScxAt) (s : Step) → FillWaits allows (begun_at c begin) h m at s → FillsOrFinds P c h s
  fills_at at s k = inl (ap (λ (q : Step). q.kind) k.asked, fill_at at s k)

  -- and covers the nodes of its snapshots
  own_helped : (so : WereSo P c h m.update.snaps) → HasFilled (begun_at c begin) h m.scx.0 m.call m.update → MayBeHelped P c h m.scx.0
  own_helped so f = own f.own (untaken m.scx.0 f.way.free) (λ j i. let k : j < length m.update.snaps = subst (λ n. j < n) few i in subst (λ n. WasSo P c h n) (sym (f.members j k)) (so j k))
    where
      few : count h m.scx.0 ≡ length m.update.snaps
      few = ap count_of f.planned ∙ f.over.count

  scx_at : (at : ScxAt) (s : Step) → ScxWaitsAt allows (begun_at c begin) h m at s → WereSo P c h m.update.snaps → Touches P c h s.word
  scx_at Start s k so = absurd k
  scx_at AtPlan s k so = fill_at AtPlan s k
  scx_at AtNew s k so = fill_at AtNew s k
  scx_at AtOld s k so = fill_at AtOld s k
  scx_at (AtMember j) s k so = fill_at (AtMember j) s k
  scx_at (AtSeen j) s k so = fill_at (AtSeen j) s k
  scx_at AtCall s k so = fill_at AtCall s k
  scx_at (Help help) s k so = help_touches P allows help c h s run.lawful k.0 (subst (λ (n : ScxNo). MayBeHelped P c h n.0) (sym k.1) (own_helped so k.2))

pub scx_in_call : (P : Layout → History → ℕ → Type 0) (allows : Layout → History → ℕ → Type 0) (c : Call) (begin h : History) (m : ScxRun) (s : Step) → IsRun allows c.layout h → Extends begin c.start → ScxWaits allows m (begun_at c begin) h s → WereSo P c h m.update.snaps → Touches P c h s.word
scx_in_call P allows c begin h m s run since w so = scx_at P allows c begin h run since (job_of m) m.at s w so

-- its call is under way
scx_since_begin : (allows : Layout → History → ℕ → Type 0) (c : Call) (h : History) (m : Job) (at : ScxAt) (s : Step) → ScxWaitsAt allows c h m at s → Extends h c.start
scx_since_begin allows c h m Start s k = absurd k
scx_since_begin allows c h m AtPlan s k = k.fills.way.begun.since
scx_since_begin allows c h m AtNew s k = k.fills.way.begun.since
scx_since_begin allows c h m AtOld s k = k.fills.way.begun.since
scx_since_begin allows c h m (AtMember j) s k = k.fills.way.begun.since
scx_since_begin allows c h m (AtSeen j) s k = k.fills.way.begun.since
scx_since_begin allows c h m AtCall s k = k.fills.way.begun.since
scx_since_begin allows c h m (Help help) s k = k.2.way.begun.since

pub scx_begun : (allows : Layout → History → ℕ → Type 0) (c : Call) (begin h : History) (m : ScxRun) (s : Step) → ScxWaits allows m (begun_at c begin) h s → Extends h begin
scx_begun allows c begin h m s w = scx_since_begin allows (begun_at c begin) h (job_of m) m.at s w

pub vlx_touches : (P : Layout → History → ℕ → Type 0) (snaps : List Snap) (n : ℕ) (c : Call) (h : History) (s : Step) → VlxWaits snaps n c h s → WereSo P c h snaps → Touches P c h s.word
vlx_touches P snaps n c h s w so = found_touched P c h s.word (vlx_in_call P snaps n c c.start h s w so)

pub scx_touches : (P : Layout → History → ℕ → Type 0) (allows : Layout → History → ℕ → Type 0) (m : ScxRun) (c : Call) (h : History) (s : Step) → IsRun allows c.layout h → ScxWaits allows m c h s → WereSo P c h m.update.snaps → Touches P c h s.word
scx_touches P allows m c h s run w so = scx_in_call P allows c c.start h m s run (ends_self c.start) w so
