-- Calls that are at a place of an SCX, of whatever machine makes one.
use Rattle.std.specs.Prelude.{◌≡◌, ℕ, Bool, true, false, List, Some}
use Rattle.histories.specs.Common.{Layout, ScxNo, Step, Load, Store, Fill, LoadAllFrozen, ScxWord, AllFrozen, Plan, Member, Seen, scx, History, Call, IsRun, MemberIndex, member_index}
use Rattle.arena.specs.declared.word.ScxWord.TheVariants.{Call as CallWord}
use Rattle.help.specs.declared.state.HelpAt.TheVariants.{Commit}
use Rattle.template.specs.Common.{HelpRun, ScxIsReady, ScxWaits, ScxAt, ScxRun, Snap, snap_at}
use Rattle.straight.specs.declared.scx.ScxTask.{ScxTask}
use Rattle.straight.specs.CallKinds.{Calls}
use Rattle.straight.specs.Inside.{Inner, Inside, InnerIsTold, InnerWaits}
use Rattle.prims.specs.declared.scx.ScxAt.TheVariants.{Plan as AtPlan, Member as AtMember, Seen as AtSeen, Call as AtCall, Help as AtHelp}
use Rattle.tables.specs.declared.view.SeatedPass.{SeatedPass}

-- the run of SCX over these snapshots that makes this change and is at a place
abbrev pub changing_at : List Snap → ScxTask → ScxAt → ScxRun
changing_at snaps change at = record { scx = change.scx; call = change.call; update = record { snaps = snaps; plan = change.plan; old = change.old; fresh = change.fresh }; at = at }

-- the fill of this word of the SCX-record with v
abbrev pub scx_fill : ScxNo → ScxWord → ℕ → Step
scx_fill s part v = record { kind = Fill; word = scx s.0 part; access = Store v }

-- the load of the flag that its nodes were all frozen
abbrev pub all_frozen_load : ScxNo → Step
all_frozen_load s = record { kind = LoadAllFrozen; word = scx s.0 AllFrozen; access = Load }

-- an SCX in a call of its own, with its conditions for the runs that `inner` allows
abbrev pub inner_scx : (Layout → History → ℕ → Type 0) → Inner ScxRun
inner_scx inner = record {
  Context = Call;
  told = λ d m h v. IsRun inner d.layout h × ScxIsReady inner m d h (Some v);
  waits = λ d m h s. ScxWaits inner m d h s;
  goes = λ old v now. (now.scx ≡ old.scx) × (now.update ≡ old.update) × (now.call ≡ old.call);
}

-- a call of a machine that makes an SCX
abbrev pub Changer : {M : Type 0} → (Layout → History → ℕ → Type 0) → Calls M → Type 0
Changer inner o = Inside o (inner_scx inner)

module _ {M : Type 0} {inner : Layout → History → ℕ → Type 0} {o : Calls M} (k : Changer inner o) (ps : List SeatedPass) (snaps : List Snap) (change : ScxTask) where
  -- its SCX waits for the fill of its plan
  abbrev pub FillsPlan : Type 0
  FillsPlan = InnerWaits k ps (changing_at snaps change AtPlan) (scx_fill change.scx Plan change.plan.0)

  -- for that of the node of this place
  abbrev pub FillsMember : MemberIndex → Type 0
  FillsMember j = InnerWaits k ps (changing_at snaps change (AtMember j)) (scx_fill change.scx (Member (member_index j)) (snap_at snaps (member_index j)).node.0)

  -- for that of what the info of the node of this place was
  abbrev pub FillsSeen : MemberIndex → Type 0
  FillsSeen j = InnerWaits k ps (changing_at snaps change (AtSeen j)) (scx_fill change.scx (Seen (member_index j)) (snap_at snaps (member_index j)).scx.0)

  -- for that of the number of its call
  abbrev pub FillsCall : Type 0
  FillsCall = InnerWaits k ps (changing_at snaps change AtCall) (scx_fill change.scx CallWord change.call)

  -- it has ended by this run of HELP: it has committed or not, and then waits to look whether all
  -- nodes were frozen
  pub record IsBehindChange (help : HelpRun) (done : Bool) : Type 0 where
    pub commits : done ≡ true → (v : ℕ) × InnerIsTold k ps (changing_at snaps change (AtHelp (record help { at = Commit }))) v
    pub blocked : done ≡ false → InnerWaits k ps (changing_at snaps change (AtHelp help)) (all_frozen_load change.scx)
