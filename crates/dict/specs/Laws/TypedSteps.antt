-- A row keeps a run one of a typed dictionary, if what it begins makes an edit of such words; a
-- pass whose SCX-records are all finished begins none.
use Rattle.std.proofs.Common.{◌≡◌, ◌≢◌, ℕ, ◌^◌, ◌<◌, inl, refl, sym, ◌∙◌, ap, subst, arith}
use Rattle.histories.specs.Common.{Layout, Load as LoadAccess, Store, Exchange, Kind, Fill as FillKind, Freeze, LoadSettled, SetFrozen, Mark, Update as UpdateKind, Commit}
use Rattle.histories.specs.Common.{Abort, Row, Step, State, IsInProgress, History, ◌⊳◌, value, Extends, Lawful, Call, IsRun, IsTold, row_of, begun_at, IsBegin, state}
use Rattle.arena.specs.declared.step.Access.{Access}
use Rattle.histories.proofs.Lemmas.{Change, nothing, fills_node, fills_scx, freezes, sets_frozen, marks, updates, commits, aborts, change, IsFirst, facts_before, freeze_in_progress, freeze_keeps_scx, shaped_more}
use Rattle.template.specs.Common.{AreFinished, Job, job_of, ScxWaitsAt, MapEdit, IsMapRun, Makes, TreeAllows, path_key, FoundBy, MayGo, Tracks, ScxAt, ScxRun}
use Rattle.prims.proofs.Lemmas.{own_in_hand}
use Rattle.ordered_map.proofs.Lemmas.{begun_named, makes_at}
use Rattle.ordered_map.proofs.MapLemmas.{run_since}
use Rattle.template.specs.Tracked.{waits, begun, over}
use Rattle.template.specs.declared.walk.Found.{Found}
use Rattle.edits.specs.Edits.{EditMeaning}
use Rattle.edits.specs.Known.{Scxs, UpdateWaitsAt, UpdateIsToldAt, UpdateWaits}
use Rattle.edits.specs.Laws.Update.{update_lawful, update_made}
use Rattle.edits.specs.declared.update.UpdateAt.{UpdateAt}
use Rattle.edits.specs.declared.update.UpdateAt.TheVariants.{Start, Walk, Guard, Look, Read, Fill, Scx}
use Rattle.edits.specs.declared.update.UpdateRun.{UpdateRun}
use Rattle.prims.specs.declared.scx.ScxAt.TheVariants.{Start as ScxStart, Help}
use Rattle.dict.specs.Typed.{IsTypedEdit, TypedAllows}
use Rattle.dict.specs.Laws.TypedMaps.{typed_run}

not_begin : (h : History) (r : Row) (s : ℕ) (k : Kind) → IsBegin h r s → r.kind ≡ k → (k ≡ Freeze → ⊥) → ⊥
not_begin h r s k b e d = d (sym e ∙ b.kind)

-- what a row begins is in progress after it
begun_runs : (lay : Layout) (h : History) (r : Row) (s : ℕ) → Lawful lay (r ⊳ h) → IsBegin h r s → IsInProgress (r ⊳ h) s
begun_runs lay h r s l b = record { unfinished = go (change lay h r l); named = begun_named (r ⊳ h) h r s (inl refl) b }
  where
    go : Change lay h r → value (r ⊳ h) (state s) ≡ 0
    go (nothing i e) = absurd (b.changed (sym e))
    go (fills_node n part x) = absurd (not_begin h r s FillKind b x.kind (λ e. cc))
    go (fills_scx u part x) = absurd (not_begin h r s FillKind b x.kind (λ e. cc))
    go (sets_frozen u k x) = absurd (not_begin h r s SetFrozen b k (λ e. cc))
    go (marks u j k x) = absurd (not_begin h r s Mark b k (λ e. cc))
    go (commits u k x) = absurd (not_begin h r s Commit b k (λ e. cc))
    go (aborts u j k x) = absurd (not_begin h r s Abort b k (λ e. cc))
    go (updates u w) = absurd (not_begin h r s UpdateKind b w.kind (λ e. cc))
    go (freezes u j w) =
        let same : u ≡ s = sym w.stored ∙ b.stored in
        let f = facts_before lay h r l in
        subst (λ t. value (r ⊳ h) (state t) ≡ 0) same (freeze_keeps_scx f w u State ∙ freeze_in_progress f w)

-- at a moment of the history, in a try of the call, an edit had walked to this leaf
pub record HasWalkedTo {E : Type 0} (e : EditMeaning E) (ed : E) (c : Call) (h : History) (f : Found) : Type 0 where
  pub moment : History
  pub within : Extends h moment
  pub run : IsMapRun c.layout moment
  pub small : path_key (e.goal ed) < 2 ^ 64
  pub may : MayGo c.layout (e.way ed) (e.goal ed)
  -- the try began here
  pub begin : History
  pub found : FoundBy (e.way ed) (e.goal ed) (begun_at c begin) moment f

-- an SCX continues after its start
scx_went_on : (m : Job) (c : Call) (h : History) (s : Step) (at : ScxAt) → ScxWaitsAt TreeAllows c h m at s → Extends h c.start
scx_went_on m c h s ScxStart w = absurd w
scx_went_on m c h s (Help help) w = w.2.way.begun.since
scx_went_on m c h s at w = w.fills.way.begun.since

-- what a step has found may be what a machine gets of it
told_found : (a : Access) (n : ℕ) → IsTold a n n
told_found LoadAccess n = refl
told_found (Store new) n = tt
told_found (Exchange expected new) n = refl

module _ (keys values : ℕ → Type 0) where
  -- one row more
  pub typed_step : (lay : Layout) (h : History) (r : Row) → IsRun (TypedAllows keys values) lay h → IsRun TreeAllows lay (r ⊳ h) → ((s : ℕ) → IsFirst lay h r s → IsBegin h r s → (e : MapEdit) × Makes lay (r ⊳ h) s e × IsTypedEdit keys values e) → IsRun (TypedAllows keys values) lay (r ⊳ h)
  typed_step lay h r run tree makes = record { lawful = tree.lawful; shaped = shaped_more (TypedAllows keys values) lay h r tree.lawful run.shaped allowed }
    where
      allowed : (s : ℕ) → IsFirst lay h r s → IsBegin h r s → TypedAllows keys values lay h s
      allowed s first b =
          let m : (e : MapEdit) × Makes lay (r ⊳ h) s e × IsTypedEdit keys values e = makes s first b in
          inl (m.0, makes_at lay (r ⊳ h) h r s m.0 tree.lawful (inl refl) b m.1, m.2)

  -- a row that is no freeze begins none
  pub typed_no_freeze : (lay : Layout) (h : History) (r : Row) → IsRun (TypedAllows keys values) lay h → IsRun TreeAllows lay (r ⊳ h) → r.kind ≢ Freeze → IsRun (TypedAllows keys values) lay (r ⊳ h)
  typed_no_freeze lay h r run tree d = typed_step lay h r run tree (λ s first b. absurd (d b.kind))

  -- nor does a row of a pass whose SCX-records are all finished after it
  pub typed_quiet : (lay : Layout) (h : History) (r : Row) → IsRun (TypedAllows keys values) lay h → IsRun TreeAllows lay (r ⊳ h) → AreFinished lay r.pass.0 0 (r ⊳ h) → IsRun (TypedAllows keys values) lay (r ⊳ h)
  typed_quiet lay h r run tree finished = typed_step lay h r run tree (λ s first b. absurd (none s first b))
    where
      none : (s : ℕ) → IsFirst lay h r s → IsBegin h r s → ⊥
      none s first b =
          let e : s ≡ 0 = own_in_hand lay (r ⊳ h) r.pass.0 s 0 tree.lawful finished first.own (begun_runs lay h r s tree.lawful b) in
          let i = first.own.from in
          omega (arith, e, i)

  -- a step of an update continues a run of a typed dictionary, if its edit at each leaf to which it
  -- has walked is of such words
  module _ {E : Type 0} (e : EditMeaning E) (m : UpdateRun E UpdateAt) (c : Call) (h : History) (s : Step) (run : IsRun (TypedAllows keys values) c.layout h) (typed : (f : Found) → HasWalkedTo e m.edit c h f → 0 < (e.work m.edit f).need → IsTypedEdit keys values (e.edit m.edit f)) where
    -- the SCX in hand makes the edit that it tracks
    in_hand : (b : History) (f : Found) (scx : ScxRun) (begin : History) → HasWalkedTo e m.edit c h f → IsRun TreeAllows c.layout (row_of c s h ⊳ h) → Scxs e m (begun_at c b) (row_of c s h ⊳ h) f scx begin → (t : ℕ) → IsFirst c.layout h (row_of c s h) t → IsBegin h (row_of c s h) t → (d : MapEdit) × Makes c.layout (row_of c s h ⊳ h) t d × IsTypedEdit keys values d
    in_hand b f scx begin walked tree x t first begins = go x.tracks
      where
        running : IsInProgress (row_of c s h ⊳ h) t
        running = begun_runs c.layout h (row_of c s h) t tree.lawful begins

        same : t ≡ scx.scx.0
        same = own_in_hand c.layout (row_of c s h ⊳ h) c.pass t scx.scx.0 tree.lawful x.over first.own running

        go : Tracks c.layout c.pass (row_of c s h ⊳ h) (job_of scx) (e.edit m.edit f) → (d : MapEdit) × Makes c.layout (row_of c s h ⊳ h) t d × IsTypedEdit keys values d
        go (waits promised free) = absurd (free (rw same at running.named))
        go (begun makes) = (e.edit m.edit f, rw same makes, typed f walked x.need)
        go (over z) = absurd (let u : value (row_of c s h ⊳ h) (state scx.scx.0) ≡ 0 = rw same at running.unfinished in omega (arith, u, z))

    -- an SCX's edit has walked to its leaf
    scx_walked : (a : History) (f : Found) (scx : ScxRun) → UpdateWaitsAt e m (begun_at c a) h s (Scx f scx) → HasWalkedTo e m.edit c h f
    scx_walked a f scx (begin, x, w) =
        let within : Extends h begin = scx_went_on (job_of scx) (begun_at (begun_at c a) begin) h s scx.at w in
        record { moment = begin; within = within; run = run_since c.layout h begin x.run within; small = x.small; may = x.may; begin = a; found = x.found }

    lawful_at : (a b : History) (at : UpdateAt) → IsRun TreeAllows c.layout (row_of c s h ⊳ h) → UpdateWaitsAt e m (begun_at c a) h s at → UpdateIsToldAt e m (begun_at c b) (row_of c s h ⊳ h) (value h s.word) at → IsRun (TypedAllows keys values) c.layout (row_of c s h ⊳ h)
    lawful_at a b Start tree w x = absurd w
    lawful_at a b (Walk walk) tree w x = typed_quiet c.layout h (row_of c s h) run tree x.0.rests.over
    lawful_at a b (Guard walk head llx) tree w x = typed_quiet c.layout h (row_of c s h) run tree x.1.rests.over
    lawful_at a b (Look f llx) tree w x = typed_quiet c.layout h (row_of c s h) run tree x.1.rests.over
    lawful_at a b (Read f n part) tree w x = typed_no_freeze c.layout h (row_of c s h) run tree (λ q. let z : LoadSettled ≡ Freeze = sym (ap (λ (t : Step). t.kind) w.1) ∙ q in cc)
    lawful_at a b (Fill f nth part) tree w x = typed_no_freeze c.layout h (row_of c s h) run tree (λ q. let z : FillKind ≡ Freeze = sym (ap (λ (t : Step). t.kind) w.3) ∙ q in cc)
    lawful_at a b (Scx f scx) tree w x = typed_step c.layout h (row_of c s h) run tree (in_hand b f scx x.0 (scx_walked a f scx w) tree x.1)

    pub typed_update_lawful : UpdateWaits e m c h s → IsRun (TypedAllows keys values) c.layout (row_of c s h ⊳ h)
    typed_update_lawful w =
        let tree : IsRun TreeAllows c.layout (row_of c s h ⊳ h) = update_lawful e m c h s (typed_run keys values c.layout h run) w in
        let made = update_made e m c h s (value h s.word) tree (told_found s.access (value h s.word)) w in
        lawful_at w.0 made.0 m.at tree w.3 made.3
