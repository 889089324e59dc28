-- From place to place of an SCX, of whatever machine makes one.
use Rattle.std.proofs.Common.{◌≡◌, ◌↔◌, ℕ, suc, ◌+◌, ◌<◌, List, Option, Some, None, IsSome, refl, arith, ◌∙◌, inl, inr, IfSome, IfNone}
use Rattle.histories.specs.Common.{raw_count, Layout, MemberIndex, Ask, Step, Plan, New, Old, Member, Seen, member_index, History, Call}
use Rattle.arena.specs.declared.number.MemberIndex.TheVariants.{First}
use Rattle.arena.specs.declared.word.ScxWord.TheVariants.{Call as CallWord}
use Rattle.template.specs.Common.{settled_load, HelpRun, snap_at, job_of, ScxAt, Snap}
use Rattle.help.specs.declared.state.HelpAt.TheVariants.{Start as HelpStart, Plan as HelpPlan}
use Rattle.prims.specs.Scx.Known.{FillMade, ScxTurn, ScxIsToldAt}
use Rattle.prims.proofs.Lemmas.{turn_plan, turn_new, turn_old, turn_member, turn_seen, begin_help}
use Rattle.prims.specs.declared.scx.ScxAt.TheVariants.{Plan as AtPlan, New as AtNew, Old as AtOld, Member as AtMember, Seen as AtSeen, Call as AtCall, Help}
use Rattle.straight.specs.declared.scx.ScxTask.{ScxTask}
use Rattle.tables.specs.declared.view.SeatedPass.{SeatedPass}
use Rattle.straight.specs.StraightScx.{Changer, inner_scx, changing_at, scx_fill}
use Rattle.straight.specs.StraightHelp.{Helper, inner_help}
use Rattle.straight.specs.CallKinds.{Calls}
use Rattle.straight.specs.Inside.{InnerIsTold, InnerWaits}
use Rattle.straight.proofs.Inside.{Nested, compose, goes_to}

-- where HELP of its own SCX-record is inside an SCX
abbrev helps : (inner : Layout → History → ℕ → Type 0) (snaps : List Snap) (change : ScxTask) → Nested (inner_scx inner) (inner_help inner)
helps inner snaps change = record {
  with_run = λ help. changing_at snaps change (Help help);
  tells = λ m h v d t. ((d.layout, d.pass), (t.0.lawful, t.1.0));
  turns = λ old now h v s is turn d t. (turn (d.layout, d.pass) (t.0.lawful, t.1.0), is ∙ t.1.1, t.1.2);
  stays = λ old now v is. (refl, refl, refl);
}

module _ {M : Type 0} {inner : Layout → History → ℕ → Type 0} {o : Calls M} (k : Changer inner o) (snaps : List Snap) (change : ScxTask) where
  -- a machine that makes an SCX helps
  pub helper : Helper inner o
  helper = compose k (helps inner snaps change)

  module _ (ps : List SeatedPass) where
    -- it waits for this step at this place
    abbrev At : ScxAt → Step → Type 0
    At at step = InnerWaits k ps (changing_at snaps change at) step

    -- the step of this place has found v
    abbrev Tells : ScxAt → ℕ → Type 0
    Tells at v = InnerIsTold k ps (changing_at snaps change at) v

    -- one fill after another
    fills : (A B : ScxAt) (v : ℕ) (step : Step) → ((d : Call) (h : History) → ScxIsToldAt inner d h (job_of (changing_at snaps change A)) A v → FillMade inner d h (job_of (changing_at snaps change A)) A) → ((d : Call) (h : History) → FillMade inner d h (job_of (changing_at snaps change A)) A → ScxTurn inner d h (changing_at snaps change B) (Ask step)) → Tells A v → At B step
    fills A B v step made turn = goes_to k ps (changing_at snaps change A) (changing_at snaps change B) v step (refl, refl, refl) (λ d h t. turn d h (made d h t.1))

    pub to_new : (v : ℕ) → Tells AtPlan v → At AtNew (scx_fill change.scx New change.fresh.0)
    to_new v = fills AtPlan AtNew v _ (λ d h x. x) (λ d h x. turn_plan inner d h (changing_at snaps change AtPlan) (changing_at snaps change AtNew) (Ask _) x record { stands = refl; asked = refl })

    pub to_old : (v : ℕ) → Tells AtNew v → At AtOld (scx_fill change.scx Old change.old.0)
    to_old v = fills AtNew AtOld v _ (λ d h x. x) (λ d h x. turn_new inner d h (changing_at snaps change AtNew) (changing_at snaps change AtOld) (Ask _) x record { stands = refl; asked = refl })

    pub to_member : (v : ℕ) → Tells AtOld v → At (AtMember First) (scx_fill change.scx (Member 0) (snap_at snaps 0).node.0)
    to_member v = fills AtOld (AtMember First) v _ (λ d h x. x) (λ d h x. turn_old inner d h (changing_at snaps change AtOld) (changing_at snaps change (AtMember First)) (Ask _) x record { stands = refl; asked = refl })

    pub next_member : (j next : MemberIndex) (v : ℕ) → member_index next ≡ suc (member_index j) → member_index next < raw_count change.plan.0 → Tells (AtMember j) v → At (AtMember next) (scx_fill change.scx (Member (member_index next)) (snap_at snaps (member_index next)).node.0)
    next_member j next v is within = fills (AtMember j) (AtMember next) v _ (λ d h x. x) (λ d h x. turn_member inner d h (changing_at snaps change (AtMember j)) j (changing_at snaps change (AtMember next)) (Ask _) x (inl record { next = next; is = is; within = within; fills = record { stands = refl; asked = refl } }))

    pub to_seen : (j : MemberIndex) (v : ℕ) → ((member_index j < 3) × (suc (member_index j) < raw_count change.plan.0) → ⊥) → Tells (AtMember j) v → At (AtSeen First) (scx_fill change.scx (Seen 0) (snap_at snaps 0).scx.0)
    to_seen j v none = fills (AtMember j) (AtSeen First) v _ (λ d h x. x) (λ d h x. turn_member inner d h (changing_at snaps change (AtMember j)) j (changing_at snaps change (AtSeen First)) (Ask _) x (inr record { none = none; fills = record { stands = refl; asked = refl } }))

    pub next_seen : (j next : MemberIndex) (v : ℕ) → member_index next ≡ suc (member_index j) → member_index next < raw_count change.plan.0 → Tells (AtSeen j) v → At (AtSeen next) (scx_fill change.scx (Seen (member_index next)) (snap_at snaps (member_index next)).scx.0)
    next_seen j next v is within = fills (AtSeen j) (AtSeen next) v _ (λ d h x. x) (λ d h x. turn_seen inner d h (changing_at snaps change (AtSeen j)) j (changing_at snaps change (AtSeen next)) (Ask _) x (inl record { next = next; is = is; within = within; fills = record { stands = refl; asked = refl } }))

    pub to_call : (j : MemberIndex) (v : ℕ) → ((member_index j < 3) × (suc (member_index j) < raw_count change.plan.0) → ⊥) → Tells (AtSeen j) v → At AtCall (scx_fill change.scx CallWord change.call)
    to_call j v none = fills (AtSeen j) AtCall v _ (λ d h x. x) (λ d h x. turn_seen inner d h (changing_at snaps change (AtSeen j)) j (changing_at snaps change AtCall) (Ask _) x (inr record { none = none; fills = record { stands = refl; asked = refl } }))

    -- once all is filled, it helps its own SCX-record
    pub to_help : (begun : HelpRun) (v : ℕ) → begun.scx ≡ change.scx → begun.at ≡ HelpStart → Tells AtCall v → InnerWaits helper ps (record begun { at = HelpPlan }) (settled_load begun.scx.0 Plan)
    unfolding helper
    to_help begun v is start = goes_to k ps (changing_at snaps change AtCall) (changing_at snaps change (Help (record begun { at = HelpPlan }))) v _ (refl, refl, refl)
        (λ d h t. let y = begin_help inner d h (changing_at snaps change AtCall) begun t.0 t.1 is start in (record { known = y.ready.1; asked = refl }, is, y.filled))

    -- what its HELP waits for or gets, it waits for or gets
    pub help_waits : (help : HelpRun) (step : Step) → InnerWaits helper ps help step → At (Help help) step
    unfolding helper
    help_waits help step x = x

    pub help_told : (help : HelpRun) (v : ℕ) → InnerIsTold helper ps help v → Tells (Help help) v
    unfolding helper
    help_told help v x = x

-- of the place after this one, if there is one, and if there is none
module _ (r : Option MemberIndex) (j : MemberIndex) (count : ℕ) (valid : IsSome r ↔ ((member_index j < 3) × (member_index j + 1 < count))) (is : IfSome r (λ k. member_index k ≡ member_index j + 1)) where
  pub behind_is : IfSome r (λ next. (member_index next ≡ member_index j + 1) × (member_index next < 4))
  behind_is = go r valid is
    where
      go : (q : Option MemberIndex) → (IsSome q ↔ ((member_index j < 3) × (member_index j + 1 < count))) → IfSome q (λ k. member_index k ≡ member_index j + 1) → IfSome q (λ next. (member_index next ≡ member_index j + 1) × (member_index next < 4))
      go (Some k) v e = (e, let w = (v.0 refl).0 in omega (arith, e, w))
      go None v e = tt

  pub behind_some : (P : MemberIndex → Type 0) → ((next : MemberIndex) → member_index next ≡ suc (member_index j) → member_index next < count → P next) → IfSome r P
  behind_some P f = go r valid is
    where
      go : (q : Option MemberIndex) → (IsSome q ↔ ((member_index j < 3) × (member_index j + 1 < count))) → IfSome q (λ k. member_index k ≡ member_index j + 1) → IfSome q P
      go (Some k) v e = f k (omega (arith, e)) (let w = (v.0 refl).1 in omega (arith, e, w))
      go None v e = tt

  pub behind_none : (Q : Type 0) → (((member_index j < 3) × (suc (member_index j) < count) → ⊥) → Q) → IfNone r Q
  behind_none Q f = go r valid
    where
      go : (q : Option MemberIndex) → (IsSome q ↔ ((member_index j < 3) × (member_index j + 1 < count))) → IfNone q Q
      go (Some k) v = tt
      go None v = f (λ y. let z = v.1 (y.0, let w = y.1 in omega (arith, w)) in cc)
