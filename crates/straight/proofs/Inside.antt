-- From place to place of a machine inside another, and machines inside these.
use Rattle.std.proofs.Common.{ℕ, List, Some, refl, subst}
use Rattle.histories.specs.Common.{Layout, Step, History, ◌⊳◌, IsWord, Call, IsRun, row_of}
use Rattle.tables.specs.declared.view.SeatedPass.{SeatedPass}
use Rattle.straight.specs.CallKinds.{Calls}
use Rattle.straight.specs.Hosts.{Host, InnerCall}
use Rattle.straight.specs.Inside.{Inner, Inside, InnerIsTold, InnerWaits}
use Rattle.tables.specs.Traces.{goes_on}
use Rattle.straight.proofs.Advances.{called_so, word_of}

-- an edge of the inner machine takes the call from place to place
pub goes_to : {M N : Type 0} {o : Calls M} {i : Inner N} (k : Inside o i) (ps : List SeatedPass) (old now : N) (v : ℕ) (s : Step) → i.goes old v now → ((d : i.Context) (h : History) → i.told d old h v → i.waits d now h s) → InnerIsTold k ps old v → InnerWaits k ps now s
goes_to k ps old now v s goes edge x = record { planting = x.planting; known = x.known; is = x.is; sound = x.sound; so = (k.turns old now _ v s goes (λ d. edge d _) x.sound x.so.0, goes_on (k.with_run old) (k.stays old now v goes) x.so.1) }

-- the word of the step for which it waits is one of the table
pub waits_within : {M N : Type 0} {o : Calls M} {i : Inner N} (k : Inside o i) (ps : List SeatedPass) → ((m : M) (c : Call) (h : History) (s : Step) → IsRun o.allows c.layout h → o.waits m c h s → IsRun o.allows c.layout (row_of c s h ⊳ h)) → (m : N) (s : Step) → InnerWaits k ps m s → IsWord o.layout s.word
waits_within k ps lawful m s x = subst (λ (l : Layout). IsWord l s.word) k.is_layout (word_of _ k.call record { call = k.call.number; step = s } refl ps _ (λ h. lawful (k.with_run m) k.call h s) (called_so x))

module _ {N P : Type 0} (i : Inner N) (j : Inner P) where
  -- what a machine is inside one that is inside another itself
  pub record Nested : Type 0 where
    pub with_run : P → N
    pub tells : (m : P) (h : History) (v : ℕ) (d : i.Context) → i.told d (with_run m) h v → (e : j.Context) × j.told e m h v
    pub turns : (old now : P) (h : History) (v : ℕ) (s : Step) → j.goes old v now → ((e : j.Context) → j.told e old h v → j.waits e now h s) → (d : i.Context) → i.told d (with_run old) h v → i.waits d (with_run now) h s
    pub stays : (old now : P) (v : ℕ) → j.goes old v now → i.goes (with_run old) v (with_run now)

-- the innermost machine is inside the call's
abbrev pub compose : {M N P : Type 0} {o : Calls M} {i : Inner N} {j : Inner P} → Inside o i → Nested i j → Inside o j
compose k n = record {
  call = k.call;
  is_layout = k.is_layout;
  is_number = k.is_number;
  first = k.first;
  with_run = λ m. k.with_run (n.with_run m);
  tells = λ m h v run x. let d = k.tells (n.with_run m) h v run x in n.tells m h v d.0 d.1;
  turns = λ old now h v s goes turn run x. k.turns (n.with_run old) (n.with_run now) h v s (n.stays old now v goes) (n.turns old now h v s goes turn) run x;
  stays = λ old now v goes. k.stays (n.with_run old) (n.with_run now) v (n.stays old now v goes);
}

-- A machine inside the inner machine of a host, which is at such a place with it: what that gets, it
-- gets; that continues from place to place; and what it waits for, that does.
abbrev pub inside_host : {M N A P : Type 0} {o : Calls M} {c : InnerCall N A} {j : Inner P} (k : Host o c) (at : P → N)
    → ((m : P) (h : History) (v : ℕ) → IsRun o.allows k.call.layout h → c.ready (at m) k.call h (Some v) → (d : j.Context) × j.told d m h v)
    → ((old now : P) (v : ℕ) → j.goes old v now → c.goes (at old) (at now))
    → ((old now : P) (h : History) (v : ℕ) (s : Step) → j.goes old v now → ((d : j.Context) → j.told d old h v → j.waits d now h s) → IsRun o.allows k.call.layout h → c.ready (at old) k.call h (Some v) → c.waits (at now) k.call h s)
    → Inside o j
inside_host k at tells stays turns = record {
  call = k.call;
  is_layout = k.is_layout;
  is_number = k.is_number;
  first = k.first;
  with_run = λ m. k.with_run (at m);
  tells = λ m h v run x. tells m h v run (k.tells (at m) h (Some v) x);
  turns = λ old now h v s goes turn run x. k.turns (at old) (at now) h (Some v) s (stays old now v goes) x (turns old now h v s goes turn run (k.tells (at old) h (Some v) x));
  stays = λ old now v goes. k.stays (at old) (at now) (stays old now v goes);
}
