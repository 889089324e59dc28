-- From place to place of a run of HELP: what it has got at one is what it must know at the
-- next.
use Rattle.std.proofs.Common.{◌≡◌, ◌≢◌, ℕ, suc, ◌<◌, ◌≤◌, zero, eqb-true, pow_mono, ◌+◌, ◌/◌, ◌%◌, ◌^◌, ◌⊎◌, inl, inr, ⊎_elim, refl, sym, ◌∙◌, ap, arith, false, true, length, ◌↔◌, Option, Some, None, IsSome}
use Rattle.std.proofs.Common.{IfSome, get_or-set_same, get_or-set_other, slice_set}
use native.Mathlib.Decide.{ℕ_discrete}
use Rattle.histories.specs.Common.{Layout, NodeNo, MemberIndex, Load, Store, Exchange, LoadAllFrozen, Freeze, SetFrozen, Mark, Update, Commit, Abort, AllFrozen}
use Rattle.histories.specs.Common.{New, Old, Member, Seen, member_index, scx, info, marked, child, state, History, value, IsPlan, count_of, plan_finalizes}
use Rattle.histories.specs.Common.{side_of, field_index_of, plan, member, count, scx_finalizes, field_index, raw_count, Lawful, descriptor, IsOver, IsStuck}
use Rattle.arena.specs.declared.number.MemberIndex.TheVariants.{First, Second, Third, Fourth}
use Rattle.arena.proofs.Lemmas.{plan_counted, ends_self}
use Rattle.histories.proofs.Lemmas.{aborted_no_entry, about, committed_won, facts, free_unset, over_committed}
use Rattle.help.specs.Help.Known.{IsServed, Reading, HasReadMembers, Marks, HasAborted, node_at, first_place, settled_load, HelpIsTold, HelpWaitsAt}
use Rattle.help.specs.Laws.Help.Lawful.{index_small}
use Rattle.help.specs.declared.state.HelpAt.TheVariants.{Plan as AtPlan, Member as AtMember, Seen as AtSeen, Freeze as AtFreeze, AllFrozen as AtAllFrozen, Abort as AtAbort, SetFrozen as AtSetFrozen, Mark as AtMark, New as AtNew, Old as AtOld, Update as AtUpdate, Commit as AtCommit}

-- Plans

either : (a b : ℕ) → (a < b) ⊎ (b ≤ a)
either a b = grind arith

bit_set : (q j : ℕ) → j < 4 → q / 2 ^ j % 2 ≡ 1 → 2 ^ j ≤ q % 16
bit_set q zero i e = omega arith
bit_set q (suc zero) i e = omega arith
bit_set q (suc (suc zero)) i e = omega arith
bit_set q (suc (suc (suc zero))) i e = omega arith
bit_set q (suc (suc (suc (suc j)))) i e = absurd (omega arith)

-- what it finalizes is among its nodes
removed_within : (p j : ℕ) → IsPlan p → j < 4 → plan_finalizes p j ≡ true → j < count_of p
removed_within p j x i e = go (either j (count_of p))
  where
    bit : 2 ^ j ≤ p / 8 % 16
    bit = bit_set (p / 8) j i (eqb-true (p / 8 / 2 ^ j % 2) 1 e)

    go : (j < count_of p) ⊎ (count_of p ≤ j) → j < count_of p
    go (inl y) = y
    go (inr d) = let y : 2 ^ count_of p ≤ 2 ^ j = pow_mono d in let z = x.removed in absurd (omega (arith, bit))

-- a node with none after it is the last
no_more : (n p j : ℕ) → n ≡ p → p ≤ 4 → ((j < 3) × (suc j < p) → ⊥) → n ≤ suc j
no_more n p j e few none = go (either (suc j) p)
  where
    go : (suc j < p) ⊎ (p ≤ suc j) → n ≤ suc j
    go (inl y) = absurd (none (omega arith, y))
    go (inr y) = omega arith

-- What it has read

module _ (h : History) (m : Reading) where
  -- the nodes that it has read, with one more
  read_one_more : (j v : ℕ) → j < length m.members → HasReadMembers m h j → member h m.scx j ≡ v → HasReadMembers (record m { members = slice_set m.members j record { 0 = v } }) h (suc j)
  read_one_more j v inside x e i less = go (ℕ_discrete i j)
    where
      go : Dec (i ≡ j) → node_at (slice_set m.members j record { 0 = v }) i ≡ member h m.scx i
      go (yes q) = rw q (ap (λ (n : NodeNo). n.0) (get_or-set_same m.members j record { 0 = v } record { 0 = 0 } inside) ∙ sym e)
      go (no d) = ap (λ (n : NodeNo). n.0) (get_or-set_other m.members j i record { 0 = v } record { 0 = 0 } d) ∙ x i (omega arith)

  counted : (j : ℕ) → plan h m.scx ≡ m.plan → j < count h m.scx → (count h m.scx ≡ raw_count m.plan) × (raw_count m.plan ≤ 4)
  counted j e i = let a = plan_counted (plan h m.scx) (let z = i in omega arith) in (rw (← e) a.count, rw (← e) a.few)

  -- a node that it finalizes is marked where all those before a place are, and none is between
  marked_up_to : (p n : ℕ) → Marks h m p → ((i : ℕ) → p ≤ i → i < n → i < count h m.scx → plan_finalizes m.plan i ≡ false) → Marks h m n
  marked_up_to p n x none = record { started = x.started; plan = x.plan; read = x.read; flag = x.flag; marked = λ i q w t. at i q w t (either i p) }
    where
      at : (i : ℕ) → i < n → i < count h m.scx → scx_finalizes h m.scx i ≡ true → (i < p) ⊎ (p ≤ i) → value h (marked (member h m.scx i)) ≡ 1
      at i q w t (inl d) = x.marked i d w t
      at i q w t (inr e) = let z : scx_finalizes h m.scx i ≡ false = rw x.plan (none i e q w) in cc

module _ (lay : Layout) (h : History) (m : Reading) (l : Lawful lay h) where
  planned_of : (p : ℕ) → Marks h m p → IsPlan (plan h m.scx)
  planned_of p x = (about lay h m.scx l x.started).planned

  over_stuck : IsOver h m.scx → value h (scx m.scx AllFrozen) ≡ 0 → IsStuck (descriptor h m.scx) h m.scx
  over_stuck (inl x) z = x
  over_stuck (inr e) z = let w = (facts lay h l).winner m.scx (committed_won lay h m.scx l e) in absurd (omega arith)

module _ (allows : Layout → History → ℕ → Type 0) (lay : Layout) (c : ℕ) (h : History) (m : Reading) (l : Lawful lay h) where
  some_node : IsServed allows lay c h m.scx → 0 < count h m.scx
  some_node (inl x) = (about lay h m.scx l x).planned.some
  some_node (inr x) = x.begins.planned.some

  -- Its answers

  -- where a node could not be frozen and `allfrozen` is found set, the SCX-record is committed
  pub to_committed : (j : MemberIndex) (found v : ℕ) → v ≢ 0 → HelpIsTold allows lay c h m (AtAllFrozen j found) v → value h (state m.scx) ≡ 1
  to_committed j found v d t = ⊎_elim (λ x. over_committed lay h m.scx l x.1 (λ e. d (sym t.1 ∙ e))) (λ x. absurd (d (sym t.1 ∙ free_unset lay h m.scx l x.free))) t.0.over

  -- once its abort is made it is aborted, has no entry, and it is known what was in its way
  pub to_aborted : (j : MemberIndex) (found v : ℕ) → HelpIsTold allows lay c h m (AtAbort j found) v → HasAborted lay c h m (AtAbort j found)
  to_aborted j found v t = record { aborted = t.0; no_entry = aborted_no_entry lay h h m.scx l (ends_self h) t.0; blocked = t.1 }

-- Its places

module _ {allows : Layout → History → ℕ → Type 0} {lay : Layout} {c : ℕ} {h : History} (m : Reading) (l : Lawful lay h) where
  -- The plan

  -- once it has read the plan, it loads the first `v` word
  pub to_member : (v : ℕ) → HelpIsTold allows lay c h m AtPlan v → HelpWaitsAt allows lay c h (record m { plan = v }) (AtMember First) (settled_load m.scx (Member 0))
  to_member v t = record { known = record { served = t.0; plan = t.1; within = some_node allows lay c h m l t.0; frozen = λ i p. absurd (omega arith); read = λ i p. absurd (omega arith) }; asked = refl }

  -- A node is frozen

  -- once it has read a node, it loads that node's `i` word
  pub to_seen : (j : MemberIndex) (v : ℕ) → member_index j < length m.members → HelpIsTold allows lay c h m (AtMember j) v → HelpWaitsAt allows lay c h (record m { members = slice_set m.members (member_index j) record { 0 = v } }) (AtSeen j) (settled_load m.scx (Seen (member_index j)))
  to_seen j v inside t = record { known = record { served = t.0.served; plan = t.0.plan; within = t.0.within; frozen = t.0.frozen; read = read_one_more h m (member_index j) v inside t.0.read t.1 }; asked = refl }

  -- once it has read an `i` word, it tries to freeze the node
  pub to_freeze : (j : MemberIndex) (v : ℕ) → HelpIsTold allows lay c h m (AtSeen j) v → HelpWaitsAt allows lay c h m (AtFreeze j v) record { kind = Freeze; word = info (node_at m.members (member_index j)); access = Exchange v m.scx }
  to_freeze j v t = record { known = t; asked = rw (t.0.read (member_index j) (omega arith), t.1) refl }

  -- once a node is frozen that is not the last, it loads the next `v` word
  pub to_next : (j next : MemberIndex) (expected v : ℕ) → (v ≡ expected) ⊎ (v ≡ m.scx) → member_index next ≡ suc (member_index j) → member_index next < raw_count m.plan → HelpIsTold allows lay c h m (AtFreeze j expected) v → HelpWaitsAt allows lay c h m (AtMember next) (settled_load m.scx (Member (member_index next)))
  to_next j next expected v won is within t =
      let w = t.won won in
      let n = counted h m (member_index j) t.plan t.within in
      record {
        known = record { served = inl w.0; plan = t.plan; within = (let e = n.0 in omega arith); frozen = λ i q. w.1 i (omega arith); read = λ i q. t.read i (omega arith) };
        asked = refl;
      }

  -- once the last node is frozen, it sets `allfrozen`
  pub to_set_frozen : (j : MemberIndex) (expected v : ℕ) → (v ≡ expected) ⊎ (v ≡ m.scx) → ((member_index j < 3) × (suc (member_index j) < raw_count m.plan) → ⊥) → HelpIsTold allows lay c h m (AtFreeze j expected) v → HelpWaitsAt allows lay c h m AtSetFrozen record { kind = SetFrozen; word = scx m.scx AllFrozen; access = Store 1 }
  to_set_frozen j expected v won last t =
      let w = t.won won in
      let n = counted h m (member_index j) t.plan t.within in
      let few : count h m.scx ≤ suc (member_index j) = no_more (count h m.scx) (raw_count m.plan) (member_index j) n.0 n.1 last in
      record {
        known = record { started = w.0; plan = t.plan; frozen = λ i q. w.1 i (omega (arith, few)); read = λ i q. t.read i (omega (arith, few)) };
        asked = refl;
      }

  -- It could not be frozen

  -- once a freeze has failed, it loads `allfrozen`
  pub to_all_frozen : (j : MemberIndex) (expected v : ℕ) → v ≢ expected → v ≢ m.scx → HelpIsTold allows lay c h m (AtFreeze j expected) v → HelpWaitsAt allows lay c h m (AtAllFrozen j v) record { kind = LoadAllFrozen; word = scx m.scx AllFrozen; access = Load }
  to_all_frozen j expected v other not_own t = record { known = t.lost other not_own; asked = refl }

  -- once it has found `allfrozen` not set, it aborts
  pub to_abort : (j : MemberIndex) (found v : ℕ) → v ≡ 0 → HelpIsTold allows lay c h m (AtAllFrozen j found) v → HelpWaitsAt allows lay c h m (AtAbort j found) record { kind = Abort; word = state m.scx; access = Store 2 }
  to_abort j found v z t = record {
    known = record { stuck = ⊎_elim (λ x. inl (x.0, over_stuck lay h m l x.1 (t.1 ∙ z))) (λ x. inr x) t.0.over; blocked = t.0.blocked };
    asked = refl;
  }

  -- Those that it finalizes are marked

  -- once all before it is marked, it marks the next node to be finalized
  pub to_mark : (p : ℕ) (next : MemberIndex) → plan_finalizes m.plan (member_index next) ≡ true → ((i : ℕ) → p ≤ i → i < member_index next → plan_finalizes m.plan i ≡ false) → Marks h m p → HelpWaitsAt allows lay c h m (AtMark next) record { kind = Mark; word = marked (node_at m.members (member_index next)); access = Store 1 }
  to_mark p next is first x = record {
    known = (marked_up_to h m p (member_index next) x (λ i e q w. first i e q), within, rw x.plan is);
    asked = rw (x.read (member_index next) within) refl;
  }
    where
      within : member_index next < count h m.scx
      within = removed_within (plan h m.scx) (member_index next) (planned_of lay h m l p x) (index_small next) (rw x.plan is)

  -- once all that is finalized is marked, it loads `new`
  pub to_new : (p : ℕ) → ((i : ℕ) → p ≤ i → i < 4 → plan_finalizes m.plan i ≡ false) → Marks h m p → HelpWaitsAt allows lay c h m AtNew (settled_load m.scx New)
  to_new p none x = record { known = marked_up_to h m p (count h m.scx) x (λ i e q w. none i e (omega (arith, few))); asked = refl }
    where
      few : count h m.scx ≤ 4
      few = let a = plan_counted (plan h m.scx) (planned_of lay h m l p x).some in let b = a.count in let d = a.few in omega arith

  -- The field is changed

  -- once it has read `new`, it loads `old`
  pub to_old : (v : ℕ) → HelpIsTold allows lay c h m AtNew v → HelpWaitsAt allows lay c h m (AtOld v) (settled_load m.scx Old)
  to_old v t = record { known = t; asked = refl }

  -- once it has read `old`, it tries the update
  pub to_update : (new v : ℕ) → HelpIsTold allows lay c h m (AtOld new) v → HelpWaitsAt allows lay c h m AtUpdate record { kind = Update; word = child (node_at m.members (field_index_of m.plan)) (side_of m.plan); access = Exchange v new }
  to_update new v t = record { known = t.0; asked = rw (t.2, t.1) (ap (λ w. record { kind = Update; word = w; access = Exchange v new }) (word m.plan t.0.plan)) }
    where
      word : (q : ℕ) → plan h m.scx ≡ q → child (node_at m.members (field_index_of q)) (side_of q) ≡ child (member h m.scx (field_index h m.scx)) (side_of (plan h m.scx))
      word q e = rw (← e) (ap (λ n. child n (side_of (plan h m.scx))) (t.0.read (field_index h m.scx) (planned_of lay h m l _ t.0).field))

  -- once the update is tried, it commits
  pub to_commit : (v : ℕ) → HelpIsTold allows lay c h m AtUpdate v → HelpWaitsAt allows lay c h m AtCommit record { kind = Commit; word = state m.scx; access = Store 1 }
  to_commit v t = record { known = t; asked = refl }

-- the number of the place after a node's: the next node's, or 4 after the last
pub place_behind : (j : MemberIndex) (next : Option MemberIndex) → (IsSome next ↔ (member_index j < 3)) → IfSome next (λ k. member_index k ≡ member_index j + 1) → suc (member_index j) ≡ first_place next
place_behind j (Some k) v e = omega arith
place_behind Fourth None v e = refl
place_behind First None v e = absurd (let z = v.1 (omega arith) in cc)
place_behind Second None v e = absurd (let z = v.1 (omega arith) in cc)
place_behind Third None v e = absurd (let z = v.1 (omega arith) in cc)
