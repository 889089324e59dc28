-- The laws of VLX.
use Rattle.std.proofs.Common.{◌≡◌, ◌≢◌, ℕ, suc, ◌<◌, ◌≤◌, Some, None, Option, ◌⊎◌, inl, inr, refl, sym, ◌∙◌, ap, arith, length, List}
use native.Mathlib.Decide.{ℕ_discrete}
use Rattle.histories.specs.Common.{Layout, Row, Step, Fill, LoadInfo, Turn, info, History, ◌⊳◌, value, Lawful, IsRun, Call, row_of, IsTold, MatchTurn}
use Rattle.arena.proofs.Lemmas.{ends_self}
use Rattle.histories.proofs.Lemmas.{still_since}
use Rattle.prims.specs.Laws.Linked.{in_field_named}
use Rattle.prims.specs.Llx.Laws.{load_lawful, load_told, load_found}
use Rattle.prims.specs.FoundThere.{HasFoundThere}
use Rattle.prims.specs.Laws.FoundThere.{found_there, there_more}
use Rattle.prims.specs.Moments.{IsAsFound}
use Rattle.prims.specs.Laws.Begun.{TakesOnly, takes_by_others, takes_by_step, begun_more}
use Rattle.prims.specs.Laws.Blamed.{blamed_now}
use Rattle.prims.specs.Laws.Looked.{found_at}
use Rattle.prims.specs.declared.snap.Snap.{Snap}
use Rattle.prims.specs.Snap.{snap_at}
use Rattle.prims.specs.Llx.Known.{load}
use Rattle.prims.specs.Vlx.Known.{HasFoundFirst, IsSame, HasFoundUnchanged, LooksAtInfos, VlxWaits, VlxIsTold, VlxIsReady, VlxAnswers, IsFirstChange, AsksNext, IsThrough}
use Rattle.prims.specs.declared.vlx.Vlx.{Vlx}

-- what it has found so it has found after any row
first_found_more : (c : ℕ) (h start : History) (r : Row) (snaps : List Snap) (k : ℕ) → HasFoundFirst c h start snaps k → HasFoundFirst c (r ⊳ h) start snaps k
first_found_more c h start r snaps k x i p = there_more c h start _ _ r (x i p)

looks_more : (c : Call) (h : History) (r : Row) (snaps : List Snap) (asked k : ℕ) → TakesOnly c.layout c.pass 0 h r → LooksAtInfos c h snaps asked k → LooksAtInfos c (r ⊳ h) snaps asked k
looks_more c h r snaps asked k takes x = record { looked = record { begun = begun_more c h r 0 snaps takes x.looked.begun; linked = x.looked.linked; same = x.looked.same; asked = first_found_more c.pass h c.start r snaps k x.looked.asked }; within = x.within; is = x.is }

-- rows of other passes leave a run of VLX waiting for the same step
pub vlx_keeps : (allows : Layout → History → ℕ → Type 0) (snaps : List Snap) (asked : ℕ) (c : Call) (h : History) (s : Step) (r : Row) → IsRun allows c.layout (r ⊳ h) → r.pass.0 ≢ c.pass → VlxWaits snaps asked c h s → VlxWaits snaps asked c (r ⊳ h) s
vlx_keeps allows snaps asked c h s r run other w = record { index = w.index; looks = looks_more c h r snaps asked w.index (takes_by_others c.layout c.pass 0 h r run.lawful other) w.looks; asked = w.asked }

-- the step that a run of VLX waits for continues the run
pub vlx_lawful : (allows : Layout → History → ℕ → Type 0) (snaps : List Snap) (asked : ℕ) (c : Call) (h : History) (s : Step) → IsRun allows c.layout h → VlxWaits snaps asked c h s → IsRun allows c.layout (row_of c s h ⊳ h)
vlx_lawful allows snaps asked c h s run w = load_lawful allows c h LoadInfo (info (snap_at snaps w.index).node.0) s run w.asked record { word = tt; same = refl } (λ e. cc) (w.looks.looked.linked w.index w.looks.within).inside

-- once the step is made, the run of VLX may be called with what it found
pub vlx_made : (allows : Layout → History → ℕ → Type 0) (snaps : List Snap) (asked : ℕ) (c : Call) (h : History) (s : Step) (v : ℕ) → IsRun allows c.layout (row_of c s h ⊳ h) → IsTold s.access (value h s.word) v → VlxWaits snaps asked c h s → VlxIsReady snaps asked c (row_of c s h ⊳ h) (Some v)
vlx_made allows snaps asked c h s v run t w = record { index = w.index; looks = looks_more c h (row_of c s h) snaps asked w.index (takes_by_step c.layout c.pass 0 h (row_of c s h) (λ f. let e : s.kind ≡ LoadInfo = ap (λ (t : Step). t.kind) w.asked in let z : LoadInfo ≡ Fill = sym e ∙ f in cc)) w.looks; told = load_told c h LoadInfo (info (snap_at snaps w.index).node.0) s v w.asked t; found = load_found c h (snap_at snaps w.index).node.0 s v w.looks.looked.begun.since w.asked t }

-- Its turns

-- a turn of VLX is right: the run waits for the step that it asks, or the answer holds
abbrev pub VlxTurn : List Snap → ℕ → Call → History → Turn Vlx → Type 0
VlxTurn snaps asked c h turn = MatchTurn turn (VlxWaits snaps asked c h) (VlxAnswers snaps c h)

-- once all infos were looked at and were as found, the nodes were as their snapshots found them
pub all_same : (c : Call) (h : History) (snaps : List Snap) → Lawful c.layout h → HasFoundUnchanged c h snaps (length snaps) → IsSame c h snaps
all_same c h snaps l x = record { since = x.begun.since; linked = x.linked; info = x.same; found = λ i w. found i w; asked = x.asked }
  where
    found : (i : ℕ) → i < length snaps → IsAsFound c.layout h c.start (snap_at snaps i)
    found i w = found_at c h (snap_at snaps i) l x.begun.since (x.linked i w) (x.same i w)

-- a run that has looked at n infos and asks for the next waits for it
pub looks_next : (c : Call) (h : History) (snaps : List Snap) (n : ℕ) → HasFoundUnchanged c h snaps n → n < length snaps → VlxWaits snaps (suc n) c h (load LoadInfo (info (snap_at snaps n).node.0))
looks_next c h snaps n x i = record { index = n; looks = record { looked = x; within = i; is = refl }; asked = refl }

turn_next : (c : Call) (h : History) (snaps : List Snap) (old now : ℕ) (turn : Turn Vlx) → Lawful c.layout h → HasFoundUnchanged c h snaps old → old ≤ length snaps → AsksNext snaps old now turn ⊎ IsThrough snaps old now turn → VlxTurn snaps now c h turn
turn_next c h snaps old now turn l x i (inl a) = rw (a.asked, a.stands) (looks_next c h snaps old x a.within)
turn_next c h snaps old now turn l x i (inr a) =
    let e : length snaps ≡ old = let y = a.through in omega arith in
    rw a.done (all_same c h snaps l (rw e x))

-- a run at its start has looked at no info yet
pub first_looked : (c : Call) (h : History) (snaps : List Snap) (asked : ℕ) → VlxIsReady snaps asked c h None → HasFoundUnchanged c h snaps asked
first_looked c h snaps asked r = record {
  begun = record { since = rw r.begins (ends_self c.start); clear = rw r.begins at r.clear; only = λ t own d free. rw r.begins free };
  linked = rw r.begins at r.linked;
  same = λ i p. let e = r.asked in absurd (omega arith);
  asked = λ i p. let e = r.asked in absurd (omega arith);
}

-- there is some snapshot, so the run asks for an info in its first turn
pub first_asks : (c : Call) (h : History) (snaps : List Snap) (old now : ℕ) (turn : Turn Vlx) → VlxIsReady snaps old c h None → AsksNext snaps old now turn ⊎ IsThrough snaps old now turn → MatchTurn turn (λ _. Unit {0}) (λ _. ⊥)
first_asks c h snaps old now turn r (inl a) = rw a.asked tt
first_asks c h snaps old now turn r (inr a) = let x = a.through in let e = r.asked in let i = r.some in absurd (omega arith)

-- one more snapshot is still what the info names, so it was at the moment
one_more : (c : Call) (h : History) (snaps : List Snap) (asked : ℕ) (v : ℕ) → Lawful c.layout h → (x : VlxIsTold snaps asked c h v) → (snap_at snaps x.index).scx.0 ≡ v → HasFoundUnchanged c h snaps asked
one_more c h snaps asked v l x e = record { begun = y.begun; linked = y.linked; same = λ i p. go i p (ℕ_discrete i x.index); asked = λ i p. looked i p (ℕ_discrete i x.index) }
  where
    y : HasFoundUnchanged c h snaps x.index
    y = x.looks.looked

    here : value c.start (info (snap_at snaps x.index).node.0) ≡ (snap_at snaps x.index).scx.0
    here =
        let z = y.linked x.index x.looks.within in
        (still_since c.layout h c.start (snap_at snaps x.index).node.0 (snap_at snaps x.index).scx.0 l y.begun.since (in_field_named (snap_at snaps x.index).node.0 z.in_field) z.rest (x.told ∙ sym e)).info

    go : (i : ℕ) → i < asked → Dec (i ≡ x.index) → value c.start (info (snap_at snaps i).node.0) ≡ (snap_at snaps i).scx.0
    go i p (yes q) = rw q here
    go i p (no d) = let z = x.looks.is in y.same i (omega arith)

    looked : (i : ℕ) → i < asked → Dec (i ≡ x.index) → HasFoundThere c.pass h c.start (snap_at snaps i).node.0 (snap_at snaps i).scx.0
    looked i p (yes q) = rw (q, e) (found_there c.pass h c.start LoadInfo (snap_at snaps x.index).node.0 v x.found)
    looked i p (no d) = let z = x.looks.is in y.asked i (omega arith)

changed : (c : Call) (h : History) (snaps : List Snap) (asked : ℕ) (v : ℕ) → Lawful c.layout h → (x : VlxIsTold snaps asked c h v) → (snap_at snaps x.index).scx.0 ≢ v → IsFirstChange c h snaps (snap_at snaps x.index).node.0 v
changed c h snaps asked v l x d = record {
  changed = record { index = x.index; within = x.looks.within; is = refl; found = x.found; blamed = blamed_now c h 0 snaps l x.looks.looked.begun x.index x.looks.within v (λ own e. let f = own.from in omega arith) x.told d };
  info = x.told;
  other = d;
  before = before;
  asked = x.looks.looked.asked;
}
  where
    before : (i : ℕ) → i < x.index → IsAsFound c.layout h c.start (snap_at snaps i)
    before i p = let y = x.looks.looked in found_at c h (snap_at snaps i) l y.begun.since (y.linked i (let w = x.looks.within in omega arith)) (y.same i p)

-- if the info is not what the snapshot found, another SCX-record has reached the node
pub turn_changed : (c : Call) (h : History) (snaps : List Snap) (asked : ℕ) (k v : ℕ) (snap : Snap) → Lawful c.layout h → VlxIsTold snaps asked c h v → suc k ≡ asked → snap ≡ snap_at snaps k → snap.scx.0 ≢ v → IsFirstChange c h snaps snap.node.0 v
turn_changed c h snaps asked k v snap l x e q d =
    let i : k ≡ x.index = let y = x.looks.is in omega arith in
    let a : snap ≡ snap_at snaps x.index = q ∙ ap (snap_at snaps) i in
    rw a (changed c h snaps asked v l x (rw a at d))

-- what is known if the run has got something
pub told_some : (c : Call) (h : History) (snaps : List Snap) (asked : ℕ) (got : Option ℕ) (v : ℕ) → got ≡ Some v → VlxIsReady snaps asked c h got → VlxIsTold snaps asked c h v
told_some c h snaps asked got v e r = rw e at r

-- what is known if it has got nothing
pub told_none : (c : Call) (h : History) (snaps : List Snap) (asked : ℕ) (got : Option ℕ) → got ≡ None → VlxIsReady snaps asked c h got → VlxIsReady snaps asked c h None
told_none c h snaps asked got e r = rw e at r

-- the first turn of VLX is right
pub turn_first : (c : Call) (h : History) (snaps : List Snap) (old now : ℕ) (turn : Turn Vlx) → Lawful c.layout h → VlxIsReady snaps old c h None → AsksNext snaps old now turn ⊎ IsThrough snaps old now turn → VlxTurn snaps now c h turn
turn_first c h snaps old now turn l r a = turn_next c h snaps old now turn l (first_looked c h snaps old r) (let e = r.asked in omega arith) a

-- where the info is what the snapshot found, the run has looked at one node more
pub looked_on : (c : Call) (h : History) (snaps : List Snap) (asked k v : ℕ) → Lawful c.layout h → VlxIsTold snaps asked c h v → suc k ≡ asked → (snap_at snaps k).scx.0 ≡ v → HasFoundUnchanged c h snaps asked
looked_on c h snaps asked k v l x e q =
    let i : k ≡ x.index = let y = x.looks.is in omega arith in
    one_more c h snaps asked v l x (rw i at q)

-- a turn of VLX is right where the info was what the snapshot found
pub turn_on : (c : Call) (h : History) (snaps : List Snap) (old now : ℕ) (turn : Turn Vlx) (k v : ℕ) → Lawful c.layout h → VlxIsTold snaps old c h v → suc k ≡ old → (snap_at snaps k).scx.0 ≡ v → AsksNext snaps old now turn ⊎ IsThrough snaps old now turn → VlxTurn snaps now c h turn
turn_on c h snaps old now turn k v l x e q a = turn_next c h snaps old now turn l (looked_on c h snaps old k v l x e q) (let y = x.looks.is in let u = x.looks.within in omega arith) a
