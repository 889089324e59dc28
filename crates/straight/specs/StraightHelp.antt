-- Calls that are at a place of a HELP, of whatever machine helps.
use Rattle.std.specs.Prelude.{◌≡◌, ◌<◌, ◌+◌, ℕ, Bool, true, false, List, Some}
use Rattle.histories.specs.Common.{Layout, History, Lawful, MemberIndex, Load, Store, LoadAllFrozen, SetFrozen, AllFrozen, Member, Plan, member_index, raw_count, scx}
use Rattle.help.specs.Help.Known.{Marks, reading, settled_load, HelpIsReady, HelpWaits}
use Rattle.help.specs.declared.state.HelpRun.{HelpRun}
use Rattle.tables.specs.declared.view.SeatedPass.{SeatedPass}
use Rattle.straight.specs.CallKinds.{Calls}
use Rattle.straight.specs.Inside.{Inner, Inside, InnerIsTold, InnerWaits}
use Rattle.help.specs.declared.state.HelpAt.TheVariants.{Plan as AtPlan, Member as AtMember, SetFrozen as AtSetFrozen, Commit as AtCommit}

-- a HELP in some pass, with its conditions for the runs that `inner` allows
abbrev pub inner_help : (Layout → History → ℕ → Type 0) → Inner HelpRun
inner_help inner = record {
  Context = Layout × ℕ;
  told = λ d m h v. Lawful d.0 h × HelpIsReady inner d.0 d.1 m h (Some v);
  waits = λ d m h s. HelpWaits inner d.0 d.1 m h s;
  goes = λ old v now. now.scx ≡ old.scx;
}

-- a call of a machine that helps
abbrev pub Helper : {M : Type 0} → (Layout → History → ℕ → Type 0) → Calls M → Type 0
Helper inner o = Inside o (inner_help inner)

module _ {M : Type 0} {inner : Layout → History → ℕ → Type 0} {o : Calls M} (k : Helper inner o) (ps : List SeatedPass) (m : HelpRun) where
  -- its HELP waits to load the plan of its SCX-record
  abbrev pub LoadsPlan : Type 0
  LoadsPlan = InnerWaits k ps (record m { at = AtPlan }) (settled_load m.scx.0 Plan)

  -- to load the node of this place
  abbrev pub LoadsMember : MemberIndex → Type 0
  LoadsMember j = InnerWaits k ps (record m { at = AtMember j }) (settled_load m.scx.0 (Member (member_index j)))

  -- to set the flag that its nodes were all frozen
  abbrev pub SetsFlag : Type 0
  SetsFlag = InnerWaits k ps (record m { at = AtSetFrozen }) record { kind = SetFrozen; word = scx m.scx.0 AllFrozen; access = Store 1 }

  -- to load that flag
  abbrev pub LoadsFlag : Type 0
  LoadsFlag = InnerWaits k ps m record { kind = LoadAllFrozen; word = scx m.scx.0 AllFrozen; access = Load }

module _ {M : Type 0} {inner : Layout → History → ℕ → Type 0} {o : Calls M} (k : Helper inner o) (ps : List SeatedPass) (m : HelpRun) where
  -- its HELP, under this plan, is past the freezing of the node of this place, which is frozen or
  -- not: it continues with the next node or sets the flag, or loads that
  pub record IsBehindFreeze (plan : ℕ) (j : MemberIndex) (frozen : Bool) : Type 0 where
    pub next : frozen ≡ true → (next : MemberIndex) → member_index next ≡ member_index j + 1 → member_index next < raw_count plan → LoadsMember k ps m next
    pub last : frozen ≡ true → ((member_index j < 3) × (member_index j + 1 < raw_count plan) → ⊥) → SetsFlag k ps m
    pub blocked : frozen ≡ false → LoadsFlag k ps m

  -- past that of all nodes
  pub record IsBehindFreezes (all : Bool) : Type 0 where
    pub frozen : all ≡ true → SetsFlag k ps m
    pub blocked : all ≡ false → LoadsFlag k ps m

  -- it has ended: it has committed its SCX-record or not, and then waits to look whether all nodes
  -- were frozen
  pub record IsBehindHelp (done : Bool) : Type 0 where
    pub commits : done ≡ true → (v : ℕ) × InnerIsTold k ps (record m { at = AtCommit }) v
    pub blocked : done ≡ false → LoadsFlag k ps m

-- the last step of its HELP has found that `allfrozen` is set, and that those of the first p
-- nodes that are finalized are marked
pub record HelperMarks {M : Type 0} {inner : Layout → History → ℕ → Type 0} {o : Calls M} (k : Helper inner o) (ps : List SeatedPass) (m : HelpRun) (p : ℕ) : Type 0 where
  pub last : HelpRun
  pub is_scx : last.scx ≡ m.scx
  pub told : ℕ
  pub marks : (lay : Layout) (c : ℕ) (h : History) → HelpIsReady inner lay c last h (Some told) → Marks h (reading m) p
  pub so : InnerIsTold k ps last told
