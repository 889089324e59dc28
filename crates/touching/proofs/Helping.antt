-- HELP comes to words of its SCX-record, and of the nodes that this covers.
use Rattle.std.proofs.Common.{◌≡◌, ◌≢◌, ◌<◌, ℕ, inl, sym, ap, subst, arith}
use Rattle.histories.specs.Common.{Layout, Step, Word, NodeWord, Info, Marked, Child, ScxWord, State, AllFrozen, Plan, New, Old, Member, Seen, member_index, History, value, node, scx, state, member, plan, side_of, count, count_of, field_index, AreFrozen, Lawful, Call}
use Rattle.prims.specs.Laws.InTheWay.{HasBeen}
use Rattle.touching.proofs.Reached.{HasFrozen, frozen_running}
use Rattle.histories.proofs.Lemmas.{facts, lawful_since, scx_since}
use Rattle.help.specs.Help.Known.{IsServed, Reading, reading, Marks, HelpKnows, HelpWaits, help_step}
use Rattle.help.specs.declared.state.HelpRun.{HelpRun}
use Rattle.help.specs.declared.state.HelpAt.{HelpAt}
use Rattle.help.specs.declared.state.HelpAt.TheVariants.{Start, Plan as AtPlan, Member as AtMember, Seen as AtSeen, Freeze as AtFreeze, AllFrozen as AtAllFrozen, Abort as AtAbort, SetFrozen as AtSetFrozen, Mark as AtMark, New as AtNew, Old as AtOld, Update as AtUpdate, Commit as AtCommit}
use Rattle.touching.specs.Touches.{WasInProgress, TouchesNode, was_so, TouchesScx, in_progress, own_scx, Touches, MayBeHelped, running, own}
use Rattle.touching.proofs.Finding.{Finds, FindsNode, found_covered, found_running, node_touched}

-- the dummy was never in progress
real : (c : Call) (h : History) (s : ℕ) → Lawful c.layout h → WasInProgress c h s → s ≢ 0
real c h s l x e =
    let d = (facts c.layout x.moment (lawful_since c.layout h x.moment l x.within)).dummy in
    let w : value x.moment (state 0) ≡ 0 = rw e at x.was.unfinished in
    omega arith

module _ (lay : Layout) (h : History) (l : Lawful lay h) (m : Reading) where
  -- once `allfrozen` is set all its nodes are frozen
  all_frozen : value h (scx m.scx AllFrozen) ≡ 1 → (j : ℕ) → j < count h m.scx → AreFrozen h m.scx j
  all_frozen e j i k few = ((facts lay h l).flagged m.scx (λ z. omega (arith, e, z))).frozen k (omega (arith, few, i))

  -- the node of the field is one of them
  field_within : Marks h m (count h m.scx) → field_index h m.scx < count h m.scx
  field_within k = ((facts lay h l).about m.scx k.started.named.0 k.started.real k.started.named.1).planned.field

  -- T of each word of the SCX-record, and of each node that it covers once it has frozen those
  -- before it: so T of each word to which HELP comes
  module _ (allows : Layout → History → ℕ → Type 0) (pass : ℕ) (T : Word → Type 0) (of_scx : (part : ScxWord) → T (scx m.scx part))
      (of_member : (j : ℕ) (part : NodeWord) → IsServed allows lay pass h m.scx → j < count h m.scx → AreFrozen h m.scx j → T (node (member h m.scx j) part)) where
    marked_member : (j : ℕ) (part : NodeWord) → Marks h m j → (i : ℕ) → i < count h m.scx → T (node (member h m.scx i) part)
    marked_member j part k i few = of_member i part (inl k.started) few (all_frozen k.flag i few)

    pub help_at : (at : HelpAt) → HelpKnows allows lay pass h m at → T (help_step h m.scx at).word
    help_at Start k = absurd k
    help_at AtPlan k = of_scx Plan
    help_at (AtMember j) k = of_scx (Member (member_index j))
    help_at (AtSeen j) k = of_scx (Seen (member_index j))
    help_at (AtFreeze j v) k = of_member (member_index j) Info k.0.served k.0.within k.0.frozen
    help_at (AtAllFrozen j v) k = of_scx AllFrozen
    help_at (AtAbort j v) k = of_scx State
    help_at AtSetFrozen k = of_scx AllFrozen
    help_at (AtMark j) k = marked_member (member_index j) Marked k.0 (member_index j) k.1
    help_at AtNew k = of_scx New
    help_at (AtOld v) k = of_scx Old
    help_at AtUpdate k = marked_member (count h m.scx) (Child (side_of (plan h m.scx))) k (field_index h m.scx) (field_within k)
    help_at AtCommit k = of_scx State

module _ (P : Layout → History → ℕ → Type 0) (c : Call) (h : History) (l : Lawful c.layout h) (s : ℕ) where
  -- what was in progress covers nodes that it has reached
  pub running_member : (j : ℕ) → j < count h s → AreFrozen h s j → WasInProgress c h s → FindsNode P c h (member h s j)
  running_member j i frozen x = found_covered s record {
    moment = y.moment;
    within = y.within;
    since = y.since;
    was = (y.was.0, record { index = j; within = subst (λ k. j < k) few i; is = sym here; earlier = y.was.1 });
  }
    where
      y : HasBeen h c.start (HasFrozen s j)
      y = frozen_running c.layout c.start s j (real c h s l x) h x.moment l x.within x.since x.was frozen

      few : count h s ≡ count y.moment s
      few = ap count_of (scx_since c.layout h y.moment s l y.within (real c h s l x) y.was.0.named Plan tt)

      here : member h s j ≡ member y.moment s j
      here = scx_since c.layout h y.moment s l y.within (real c h s l x) y.was.0.named (Member j) tt

  helped_scx : MayBeHelped P c h s → TouchesScx P c h s
  helped_scx (running x) = in_progress x
  helped_scx (own o f m) = own_scx o f

  helped_member : (j : ℕ) → j < count h s → AreFrozen h s j → MayBeHelped P c h s → TouchesNode P c h (member h s j)
  helped_member j i frozen (own o f m) = was_so (m j i)
  helped_member j i frozen (running x) = node_touched P c h (member h s j) (running_member j i frozen x)

module _ (P : Layout → History → ℕ → Type 0) (allows : Layout → History → ℕ → Type 0) (m : HelpRun) (c : Call) (h : History) (s : Step) (l : Lawful c.layout h) (w : HelpWaits allows c.layout c.pass m h s) where
  pub help_touches : MayBeHelped P c h m.scx.0 → Touches P c h s.word
  help_touches may = rw w.asked (help_at c.layout h l (reading m) allows c.pass (Touches P c h) (λ part. helped_scx P c h l m.scx.0 may) (λ j part served i frozen. helped_member P c h l m.scx.0 j i frozen may) m.at w.known)

  pub help_finds : WasInProgress c h m.scx.0 → Finds P c h s.word
  help_finds x = rw w.asked (help_at c.layout h l (reading m) allows c.pass (Finds P c h) (λ part. found_running x) (λ j part served i frozen. running_member P c h l m.scx.0 j i frozen x) m.at w.known)
