-- From place to place of a HELP, of whatever machine helps.
use Rattle.std.proofs.Common.{◌≡◌, ◌≢◌, ℕ, suc, ◌+◌, ◌<◌, ◌≤◌, length, true, false, ◌⊎◌, inl, inr, ⊎_elim, List, refl, sym, subst, arith, slice_set}
use Rattle.std.proofs.Math.Nat.{eq-or-lt_of_le}
use Rattle.histories.specs.Common.{plan, raw_count, plan_finalizes, field_index_of, side_of, Layout, MemberIndex, Step, Load, Store, Exchange, LoadAllFrozen, Freeze}
use Rattle.histories.specs.Common.{SetFrozen, Mark, Update, Commit, AllFrozen, New, Old, Member, Seen, member_index, scx, info, marked, child, state, History, Lawful}
use Rattle.arena.specs.declared.number.MemberIndex.TheVariants.{First}
use Rattle.help.specs.Help.Known.{Marks, node_at, reading, settled_load, HelpIsTold, HelpWaits}
use Rattle.help.proofs.Lemmas.{to_all_frozen as edge_to_all_frozen, to_commit as edge_to_commit, to_freeze as edge_to_freeze, to_mark as edge_to_mark, to_member as edge_to_member, to_new as edge_to_new, to_next as edge_to_next, to_old as edge_to_old, to_seen as edge_to_seen, to_set_frozen as edge_to_set_frozen, to_update as edge_to_update}
use Rattle.help.specs.declared.state.HelpRun.{HelpRun}
use Rattle.help.specs.declared.state.HelpAt.TheVariants.{Plan as AtPlan, Member as AtMember, Seen as AtSeen, Freeze as AtFreeze, AllFrozen as AtAllFrozen, SetFrozen as AtSetFrozen, Mark as AtMark, New as AtNew, Old as AtOld, Update as AtUpdate, Commit as AtCommit}
use Rattle.tables.specs.declared.view.SeatedPass.{SeatedPass}
use Rattle.straight.specs.StraightHelp.{Helper, HelperMarks}
use Rattle.straight.specs.CallKinds.{Calls}
use Rattle.straight.specs.Inside.{InnerIsTold, InnerWaits}
use Rattle.straight.proofs.Inside.{goes_to}

-- what is below the next is below a number, or is that
below_or_at : (i p : ℕ) → i < p + 1 → (i < p) ⊎ (i ≡ p)
below_or_at i p below = ⊎_elim (λ same. inr same) (λ less. inl less) (eq-or-lt_of_le (omega (arith, below)))

-- where the node of a place is not finalized, those up to it are marked once those before it are
more_marked : (h : History) (m : HelpRun) (p : ℕ) → plan_finalizes m.plan.0 p ≡ false → Marks h (reading m) p → Marks h (reading m) (p + 1)
more_marked h m p not x = record {
  started = x.started;
  plan = x.plan;
  read = x.read;
  flag = x.flag;
  marked = λ i below inside is. ⊎_elim (λ less. x.marked i less inside is) (λ here. absurd (let no : plan_finalizes (plan h m.scx.0) p ≡ false = rw x.plan not in let yes : plan_finalizes (plan h m.scx.0) p ≡ true = subst (λ (k : ℕ). plan_finalizes (plan h m.scx.0) k ≡ true) here is in cc)) (below_or_at i p below);
}

module _ {M : Type 0} {inner : Layout → History → ℕ → Type 0} {o : Calls M} (k : Helper inner o) (ps : List SeatedPass) where
  -- it waits for this step
  abbrev At : HelpRun → Step → Type 0
  At m step = InnerWaits k ps m step

  -- the step has found v
  abbrev Tells : HelpRun → ℕ → Type 0
  Tells m v = InnerIsTold k ps m v

  -- those of the first p nodes that are finalized are marked
  abbrev Marked : HelpRun → ℕ → Type 0
  Marked m p = HelperMarks k ps m p

  -- an edge takes it from place to place
  takes : (m now : HelpRun) (v : ℕ) (step : Step) → now.scx ≡ m.scx → ((lay : Layout) (c : ℕ) (h : History) → Lawful lay h → HelpIsTold inner lay c h (reading m) m.at v → HelpWaits inner lay c now h step) → Tells m v → At now step
  takes m now v step is to = goes_to k ps m now v step is (λ d h t. to d.0 d.1 h t.0 t.1)

  -- it reads the plan, the first node, and what its info was
  pub to_member : (m : HelpRun) (v : ℕ) → Tells (record m { at = AtPlan }) v → At (record m { plan = record { 0 = v }; at = AtMember First }) (settled_load m.scx.0 (Member 0))
  to_member m v = takes (record m { at = AtPlan }) (record m { plan = record { 0 = v }; at = AtMember First }) v _ refl (λ lay c h l. edge_to_member (reading m) l v)

  pub to_seen : (m : HelpRun) (j : MemberIndex) (v : ℕ) → member_index j < length m.members → Tells (record m { at = AtMember j }) v → At (record m { members = slice_set m.members (member_index j) record { 0 = v }; at = AtSeen j }) (settled_load m.scx.0 (Seen (member_index j)))
  to_seen m j v inside = takes (record m { at = AtMember j }) (record m { members = slice_set m.members (member_index j) record { 0 = v }; at = AtSeen j }) v _ refl (λ lay c h l. edge_to_seen (reading m) l j v inside)

  pub to_freeze : (m : HelpRun) (j : MemberIndex) (v : ℕ) → Tells (record m { at = AtSeen j }) v → At (record m { at = AtFreeze j v }) record { kind = Freeze; word = info (node_at m.members (member_index j)); access = Exchange v m.scx.0 }
  to_freeze m j v = takes (record m { at = AtSeen j }) (record m { at = AtFreeze j v }) v _ refl (λ lay c h l. edge_to_freeze (reading m) l j v)

  -- a node that is frozen, and one that is not
  pub to_next : (m : HelpRun) (j next : MemberIndex) (v found : ℕ) → (found ≡ v) ⊎ (found ≡ m.scx.0) → member_index next ≡ suc (member_index j) → member_index next < raw_count m.plan.0 → Tells (record m { at = AtFreeze j v }) found → At (record m { at = AtMember next }) (settled_load m.scx.0 (Member (member_index next)))
  to_next m j next v found won is within = takes (record m { at = AtFreeze j v }) (record m { at = AtMember next }) found _ refl (λ lay c h l. edge_to_next (reading m) l j next v found won is within)

  pub to_set_frozen : (m : HelpRun) (j : MemberIndex) (v found : ℕ) → (found ≡ v) ⊎ (found ≡ m.scx.0) → ((member_index j < 3) × (suc (member_index j) < raw_count m.plan.0) → ⊥) → Tells (record m { at = AtFreeze j v }) found → At (record m { at = AtSetFrozen }) record { kind = SetFrozen; word = scx m.scx.0 AllFrozen; access = Store 1 }
  to_set_frozen m j v found won last = takes (record m { at = AtFreeze j v }) (record m { at = AtSetFrozen }) found _ refl (λ lay c h l. edge_to_set_frozen (reading m) l j v found won last)

  pub to_all_frozen : (m : HelpRun) (j : MemberIndex) (v found : ℕ) → found ≢ v → found ≢ m.scx.0 → Tells (record m { at = AtFreeze j v }) found → At (record m { at = AtAllFrozen j found }) record { kind = LoadAllFrozen; word = scx m.scx.0 AllFrozen; access = Load }
  to_all_frozen m j v found other not_own = takes (record m { at = AtFreeze j v }) (record m { at = AtAllFrozen j found }) found _ refl (λ lay c h l. edge_to_all_frozen (reading m) l j v found other not_own)

  -- its nodes are marked
  pub no_marks : (m : HelpRun) (v : ℕ) → Tells (record m { at = AtSetFrozen }) v → Marked m 0
  no_marks m v x = record { last = record m { at = AtSetFrozen }; is_scx = refl; told = v; marks = λ lay c h t. t; so = x }

  pub more_marks : (m : HelpRun) (j : MemberIndex) (v : ℕ) → Tells (record m { at = AtMark j }) v → Marked m (suc (member_index j))
  more_marks m j v x = record { last = record m { at = AtMark j }; is_scx = refl; told = v; marks = λ lay c h t. t; so = x }

  pub to_mark : (m : HelpRun) (p : ℕ) (next : MemberIndex) → plan_finalizes m.plan.0 (member_index next) ≡ true → ((i : ℕ) → p ≤ i → i < member_index next → plan_finalizes m.plan.0 i ≡ false) → Marked m p → At (record m { at = AtMark next }) record { kind = Mark; word = marked (node_at m.members (member_index next)); access = Store 1 }
  to_mark m p next is none x = takes x.last (record m { at = AtMark next }) x.told _ (sym x.is_scx) (λ lay c h l t. edge_to_mark (reading m) l p next is none (x.marks lay c h t)) x.so

  pub next_place : (m : HelpRun) (p : ℕ) → Marked m (suc p) → Marked m (p + 1)
  next_place m p x = subst (λ (n : ℕ). Marked m n) (omega arith) x

  -- one that it does not finalize needs no mark
  pub skips : (m : HelpRun) (p : ℕ) → plan_finalizes m.plan.0 p ≡ false → Marked m p → Marked m (p + 1)
  skips m p not x = record { last = x.last; is_scx = x.is_scx; told = x.told; marks = λ lay c h t. more_marked h m p not (x.marks lay c h t); so = x.so }

  pub to_new : (m : HelpRun) (p : ℕ) → ((i : ℕ) → p ≤ i → i < 4 → plan_finalizes m.plan.0 i ≡ false) → Marked m p → At (record m { at = AtNew }) (settled_load m.scx.0 New)
  to_new m p none x = takes x.last (record m { at = AtNew }) x.told _ (sym x.is_scx) (λ lay c h l t. edge_to_new (reading m) l p none (x.marks lay c h t)) x.so

  -- the update
  pub to_old : (m : HelpRun) (v : ℕ) → Tells (record m { at = AtNew }) v → At (record m { at = AtOld v }) (settled_load m.scx.0 Old)
  to_old m v = takes (record m { at = AtNew }) (record m { at = AtOld v }) v _ refl (λ lay c h l. edge_to_old (reading m) l v)

  pub to_update : (m : HelpRun) (v found : ℕ) → Tells (record m { at = AtOld v }) found → At (record m { at = AtUpdate }) record { kind = Update; word = child (node_at m.members (field_index_of m.plan.0)) (side_of m.plan.0); access = Exchange found v }
  to_update m v found = takes (record m { at = AtOld v }) (record m { at = AtUpdate }) found _ refl (λ lay c h l. edge_to_update (reading m) l v found)

  pub to_commit : (m : HelpRun) (v : ℕ) → Tells (record m { at = AtUpdate }) v → At (record m { at = AtCommit }) record { kind = Commit; word = state m.scx.0; access = Store 1 }
  to_commit m v = takes (record m { at = AtUpdate }) (record m { at = AtCommit }) v _ refl (λ lay c h l. edge_to_commit (reading m) l v)
