-- From place to place of an update, of whatever machine updates.
use Rattle.std.proofs.Common.{◌≡◌, ℕ, suc, Bool, true, ap, subst, ◌+◌, ◌-◌, ◌*◌, ◌<◌, ◌≤◌, List, Option, None, Some, refl, sym, arith, ◌∙◌, Result, Ok, Err, IfSome}
use Rattle.std.specs.Result.{IsErrAnd}
use Rattle.std.proofs.lemmas.Result.{err_from_is_err_and}
use Rattle.histories.specs.Common.{Full, Layout, Turn, Ask, Done, NodeNo, LoadMarked, LoadState, Settled, SettledPart, High, Key, Value, Slot, Store}
use Rattle.histories.specs.Common.{Fill as FillKind, NodeWord, Plan, Node as NodeOf, History, value, IsRun, MatchTurn, begun_at, marked, node, state, ScxNo}
use Rattle.help.specs.declared.state.HelpAt.TheVariants.{Commit as HelpCommit}
use Rattle.template.specs.Common.{HelpRun, Done as ScxDone, ScxRun, HasFoundThere, load, IsSnapshot, LlxRun, Snap, TreeAllows, Update}
use Rattle.prims.specs.Scx.Steps.{scx_left}
use Rattle.prims.specs.declared.scx.ScxAt.TheVariants.{Plan as AtPlan, Help}
use Rattle.prims.proofs.Lemmas.{done_at}
use Rattle.edits.specs.declared.edit.Nth.{Nth}
use Rattle.edits.specs.declared.piece.Piece.{Piece}
use Rattle.edits.specs.Pieces.{is_filled, nth_node, part_behind, word_of}
use Rattle.edits.specs.Readings.{is_at_pair, next_read, read_with}
use Rattle.edits.specs.Sound.{FillsWell, HasGuardAtEnd, IsAtFound}
use Rattle.edits.proofs.Lemmas.{behind_filled, fewer_fills, fills_next, fills_word, joined_spends, key_then_value, placed_same, scx_asks, scx_done, told_spends, told_turn, value_then_high}
use Rattle.straight.specs.declared.scx.ScxTask.{ScxTask}
use Rattle.straight.specs.StraightScx.{Changer, all_frozen_load, changing_at, scx_fill}
use Rattle.prims.specs.Laws.FoundThere.{there_wider}
use Rattle.prims.specs.declared.llx.LlxAt.TheVariants.{Marked, StateAgain}
use Rattle.template.specs.declared.walk.Found.{Found}
use Rattle.edits.specs.Edits.{EditMeaning}
use Rattle.edits.specs.Known.{CanFill, CanLook, IsFilledUpTo, Looks, Reads, UpdateAnswers, UpdateIsReady, UpdateTurn, done_at as done_with}
use Rattle.edits.specs.Steps.{HasAsked, IsSpending, MaySpend, Spends, UpdateFits, node_tries, pieces_now, scx_tries, try_left, update_left}
use Rattle.edits.specs.Tries.{IsTry}
use Rattle.edits.specs.Next.{IsSameUpdate, told, placed, standing, next_step, fills, update_of, MayStop, UpdateGoesOn, HasSpentForNext, left_then}
use Rattle.edits.specs.declared.update.Stop.{Stop}
use Rattle.edits.specs.declared.update.Stop.TheVariants.{Nothing as NothingStop, Full as FullStop}
use Rattle.edits.specs.declared.update.Updated.TheVariants.{Full as FullAnswer}
use Rattle.edits.specs.Laws.Update.{update_spends, update_told}
use Rattle.edits.specs.declared.update.Next.{Next}
use Rattle.edits.specs.declared.update.Next.TheVariants.{Look as LookNext, Wait as WaitNext, Read as ReadNext, Fill as FillNext, Change as ChangeNext}
use Rattle.edits.specs.declared.update.UpdateAt.{UpdateAt}
use Rattle.edits.specs.declared.update.UpdateAt.TheVariants.{Start, Look, Fill, Scx}
use Rattle.edits.specs.declared.edit.Look.TheVariants.{At}
use Rattle.arena.specs.declared.plan.Plan.{Plan as PlanOf}
use Rattle.edits.specs.declared.update.UpdateRun.{UpdateRun}
use Rattle.edits.specs.declared.update.Updated.{Updated}
use Rattle.tables.specs.declared.view.SeatedPass.{SeatedPass}
use Rattle.straight.specs.StraightLlx.{llx_at, Looker, LookerSnaps}
use Rattle.straight.specs.Hosts.{HostedEnds, HostedIsTold, HostedStands, HostedWaits}
use Rattle.straight.specs.StraightUpdate.{Updater, HasUpdateGoneOn, inner_update, UpdaterEnds, UpdaterFills, UpdaterGoesOn, UpdaterIsBlocked, UpdaterStops, UpdaterTries, fills_then}
use Rattle.tables.specs.TableRule.{history_of}
use Rattle.tables.specs.Traces.{goes_on, shared_nodes, weight}
use Rattle.straight.specs.CallKinds.{Calls}
use Rattle.straight.specs.Inside.{InnerIsTold, InnerWaits}
use Rattle.straight.proofs.Advances.{few_taken}
use Rattle.straight.proofs.Inside.{inside_host}

-- an update is what its parts are
pub update_is : (u : Update) (snaps : List Snap) (plan : PlanOf) (old fresh : NodeNo) → snaps ≡ u.snaps → plan ≡ u.plan → old ≡ u.old → fresh ≡ u.fresh → u ≡ record { snaps = snaps; plan = plan; old = old; fresh = fresh }
update_is u snaps plan old fresh is_snaps is_plan is_old is_fresh i = record { snaps = sym is_snaps i; plan = sym is_plan i; old = sym is_old i; fresh = sym is_fresh i }

module _ {M E : Type 0} {o : Calls M} {e : EditMeaning E} (u : Updater o e) where
  -- a call is made by one of the passes
  pub has_passes : (n : ℕ) → o.layout.passes ≡ n → 0 < n
  has_passes n e = subst (λ k. 0 < k) (ap (λ (l : Layout). l.passes) u.is_layout ∙ e) (let i = u.call.is_pass in omega (arith, i))

  -- what it has continued with does not depend on the place of the update
  gone_anywhere : {A B : Type 0} (old : UpdateRun E UpdateAt) (m : UpdateRun E A) (at : B) (left : ℕ) → HasUpdateGoneOn e old m left left → HasUpdateGoneOn e old (standing m at) left left
  gone_anywhere old m at left x = record { edit = x.edit; called = x.called; limit = x.limit; tries = x.tries; spends = x.spends; end = x.end }

  -- an update goes from a place to another where its tries may still take as much
  pub moves : {A : Type 0} (m : UpdateRun E A) (at next : UpdateAt) → node_tries (standing m next) next ≡ node_tries (standing m at) at → scx_tries (standing m next) next ≡ scx_tries (standing m at) at → HasUpdateGoneOn e (standing m at) (standing m next) (node_tries (standing m next) next) (scx_tries (standing m next) next)
  moves m at next nodes scx = rw (nodes, scx) record { edit = refl; called = refl; limit = refl; tries = (omega arith, omega arith); spends = (omega arith, omega arith, omega arith); end = refl }

  -- what comes next changes its place alone
  placed_tries : {A : Type 0} (m : UpdateRun E A) (f : Found) (next : Next) → (placed e m f next).tries ≡ m.tries
  placed_tries m f (LookNext n) = refl
  placed_tries m f (WaitNext n b scx) = refl
  placed_tries m f (ReadNext n part) = refl
  placed_tries m f (FillNext nth) = refl
  placed_tries m f (ChangeNext scx) = refl

  -- a run that has as many tries left has given up one at most
  keeps_tries : (old now : ℕ) → now ≡ old → (old ≤ now + 1) × (now ≤ old)
  keeps_tries old now e = (omega (arith, e), omega (arith, e))

  -- what its try does next, once it has found this and no more of the share is taken than may
  module _ (ps : List SeatedPass) {A : Type 0} (m : UpdateRun E A) (f : Found) where
    gone_to : (old : UpdateRun E UpdateAt) (next : Next) → IsSameUpdate old m → m.tries ≡ old.tries → HasSpentForNext e old.share m f (Ok next) (node_tries old old.at) (scx_tries old old.at) → HasUpdateGoneOn e old (placed e m f next) (node_tries (placed e m f next) (placed e m f next).at) (scx_tries (placed e m f next) (placed e m f next).at)
    gone_to old next same tries spent = record { edit = p.0 ∙ same.0; called = p.1 ∙ same.1; limit = p.2 ∙ same.2; tries = keeps_tries old.tries (placed e m f next).tries (placed_tries m f next ∙ tries); spends = spent; end = p.3 ∙ same.3 }
      where
        p : IsSameUpdate m (placed e m f next)
        p = placed_same e m f next

    -- after the step whose result it got it continues so
    pub goes_behind : (old : UpdateRun E UpdateAt) (v : ℕ) (next : Result Next Stop) → IsSameUpdate old m → m.tries ≡ old.tries → HasSpentForNext e old.share m f next (node_tries old old.at) (scx_tries old old.at) → (x : HostedIsTold u ps old v) → UpdateGoesOn e u.call (history_of x.planting x.known) m f next → UpdaterGoesOn u ps m f next
    goes_behind old v (Ok next) is tries spent x z =
        let gone = gone_to old next is tries spent in
        record { planting = x.planting; known = x.known; is = x.is; sound = x.sound; so = (u.turns old (placed e m f next) _ (Some v) (next_step e m f next) gone x.so.0 z, goes_on (u.with_run old) (u.stays old (placed e m f next) gone) x.so.1) }
    goes_behind old v (Err stop) is tries spent x z = record { planting = x.planting; known = x.known; is = x.is; sound = x.sound; so = record { old = old; got = Some v; was = x.so.0; goes = record { edit = is.0; called = is.1; limit = is.2; tries = keeps_tries old.tries m.tries tries; spends = spent; end = is.3 }; tries = tries; may = z; course = x.so.1 } }

    fewer_then : {old mid now : ℕ} → mid ≡ old → (mid ≤ now + 1) × (now ≤ mid) → (old ≤ now + 1) × (now ≤ old)
    fewer_then {old} {mid} {now} e x = subst (λ (k : ℕ). (k ≤ now + 1) × (now ≤ k)) e x

    gone_behind : (old now : UpdateRun E UpdateAt) (nodes scx : ℕ) → IsSameUpdate m now → (m.tries ≤ now.tries + 1) × (now.tries ≤ m.tries) → Spends (e.most_nodes now.edit) m.share now.share m.tries nodes m.tries scx → m.tries ≡ old.tries → HasUpdateGoneOn e old m m.tries m.tries → HasUpdateGoneOn e old now nodes scx
    gone_behind old now nodes scx is fewer spent tries x = record { edit = is.0 ∙ x.edit; called = is.1 ∙ x.called; limit = is.2 ∙ x.limit; tries = fewer_then tries fewer; spends = joined_spends (e.most_nodes now.edit) old.share m.share now.share (node_tries old old.at) nodes (scx_tries old old.at) scx m.tries (subst (λ ed. Spends (e.most_nodes ed) old.share m.share (node_tries old old.at) m.tries (scx_tries old old.at) m.tries) (sym is.0) x.spends) spent; end = is.3 ∙ x.end }

    -- if its try ends so, it is as the turn says that it makes of that
    pub stops : (now : UpdateRun E UpdateAt) (stop : Stop) (turn : Turn Updated) → IsSameUpdate m now → (m.tries ≤ now.tries + 1) × (now.tries ≤ m.tries) → IsSpending e turn m.share now m.tries m.tries → ((h : History) → IsRun TreeAllows u.call.layout h → MayStop e u.call h m f stop → UpdateTurn e u.call h now turn) → UpdaterStops u ps m f stop → HostedStands u ps now turn
    stops now stop (Ask s) is fewer spent next x =
        let gone = gone_behind x.so.old now (node_tries now now.at) (scx_tries now now.at) is fewer spent x.so.tries x.so.goes in
        record { planting = x.planting; known = x.known; is = x.is; sound = x.sound; so = (u.turns x.so.old now _ x.so.got s gone x.so.was (next _ (u.runs _ x.sound) x.so.may), goes_on (u.with_run x.so.old) (u.stays x.so.old now gone) x.so.course) }
    stops now stop (Done a) is fewer spent next x = record { planting = x.planting; known = x.known; is = x.is; sound = x.sound; so = record { old = x.so.old; got = x.so.got; was = x.so.was; goes = gone_behind x.so.old now now.tries now.tries is fewer spent x.so.tries x.so.goes; answers = next _ (u.runs _ x.sound) x.so.may; course = x.so.course } }

  -- what it continues with is what its equal is
  pub goes_as : (ps : List SeatedPass) {A : Type 0} (m : UpdateRun E A) (f : Found) (next equal : Result Next Stop) → next ≡ equal → UpdaterGoesOn u ps m f next → UpdaterGoesOn u ps m f equal
  goes_as ps m f next equal is x = subst (λ (n : Result Next Stop). UpdaterGoesOn u ps m f n) is x

  -- the update with an LLX at a place
  abbrev pub looking : {A : Type 0} → UpdateRun E A → Found → LlxRun → UpdateRun E UpdateAt
  looking m f llx = standing m (Look f llx)

  -- a machine that updates looks at nodes
  pub looker : {A : Type 0} → UpdateRun E A → Found → Looker TreeAllows o
  looker m f = inside_host u (looking m f) (λ llx h v run y. (begun_at (begun_at u.call y.0) y.3.0, (u.runs h run, y.3.2)))
      (λ llx now v node. moves m (Look f llx) (Look f now) refl refl)
      (λ llx now h v s node turn run y.
      let l = y.3.1 in (
        y.0,
        y.1,
        tt,
        (
          y.3.0,
          record { run = l.run; looked = l.looked; rests = record { share = l.rests.share; over = l.rests.over }; asked = l.asked; room = l.room; named = l.named ∙ ap At (sym node); now = l.now; quiet = l.quiet; since = l.since; guarded = l.guarded },
          turn (begun_at (begun_at u.call y.0) y.3.0) (u.runs h run, y.3.2),
        ),
      ))

  -- an update whose try looks at a node has begun to look at it
  pub begins_look : (ps : List SeatedPass) {A : Type 0} (m : UpdateRun E A) (f : Found) (node : NodeNo) → UpdaterTries u ps m f (LookNext node) → InnerWaits (looker m f) ps (llx_at node Marked) (load LoadMarked (marked node.0))
  unfolding looker
  begins_look ps m f node x = x

  -- and it keeps what its edit has been asked
  pub looks_asked : (ps : List SeatedPass) {A : Type 0} (m : UpdateRun E A) (f : Found) (node : NodeNo) → UpdaterTries u ps m f (LookNext node) → HasAsked e m f
  looks_asked ps m f node x = (u.opens (placed e m f (LookNext node)) (history_of x.planting x.known) (next_step e m f (LookNext node)) x.so.0).3.1.asked

  -- with the snapshot it continues as its turn says
  pub looks_on : (ps : List SeatedPass) {A : Type 0} (m now : UpdateRun E A) (f : Found) (node : NodeNo) (snap : Snap) (next : Result Next Stop) → IsSameUpdate m now → now.tries ≡ m.tries → (HasAsked e m f → HasSpentForNext e m.share now f next (m.tries + 1) (m.tries + 1))
      → ((b h : History) → IsRun TreeAllows u.call.layout h → IsTry u.call b h m.limit m.tries → CanLook e m (begun_at u.call b) h f → e.looks m.edit f m.snaps.items ≡ At snap.node → IsSnapshot u.call.layout h snap.node.0 snap → HasFoundThere u.call.pass h b snap.node.0 snap.scx.0 → UpdateGoesOn e u.call h now f next)
      → LookerSnaps (looker m f) ps node snap → UpdaterGoesOn u ps now f next
  unfolding looker
  looks_on ps m now f node snap next is tries spent goes x = goes_behind ps now f (looking m f x.last) x.told next is tries (spent l.asked) x.so (goes y.0 h (u.runs h x.so.sound) y.1 can named snapped met)
    where
      h : History
      h = history_of x.so.planting x.so.known

      y : UpdateIsReady e (looking m f x.last) u.call h (Some x.told)
      y = u.tells (looking m f x.last) h (Some x.told) x.so.so.0

      l : Looks e (looking m f x.last) (begun_at u.call y.0) h f x.last y.3.0
      l = y.3.1

      can : CanLook e m (begun_at u.call y.0) h f
      can = record { begins = record { run = l.run; small = l.looked.small; may = l.looked.may; since = l.now; rests = record { share = l.rests.share; over = l.rests.over } }; quiet = l.quiet; looked = l.looked; asked = l.asked; room = l.room; guarded = l.guarded }

      named : e.looks m.edit f m.snaps.items ≡ At snap.node
      named = l.named ∙ ap At (x.is_node ∙ sym x.of_node)

      snapped : IsSnapshot u.call.layout h snap.node.0 snap
      snapped = subst (λ (n : NodeNo). IsSnapshot u.call.layout h n.0 snap) (sym x.of_node) (x.snaps (begun_at (begun_at u.call y.0) y.3.0) h (u.runs h x.so.sound) y.3.2)

      met : HasFoundThere u.call.pass h y.0 snap.node.0 snap.scx.0
      met = there_wider u.call.pass h y.3.0 y.0 snap.node.0 snap.scx.0 l.since (subst (λ (n : NodeNo). HasFoundThere u.call.pass h y.3.0 n.0 snap.scx.0) (sym x.of_node) (x.found (begun_at (begun_at u.call y.0) y.3.0) h (u.runs h x.so.sound) y.3.2))

  -- if something is in the way, it waits for the state again
  pub looks_again : (ps : List SeatedPass) {A : Type 0} (m : UpdateRun E A) (f : Found) (node : NodeNo) (b : Bool) (scx : ScxNo) → InnerWaits (looker m f) ps (llx_at node (StateAgain b scx)) (load LoadState (state scx.0)) → UpdaterTries u ps m f (WaitNext node b scx)
  unfolding looker
  looks_again ps m f node b scx x = x

  -- where the try ends with nothing to make, or with too little left, it has answered so
  pub ends_needless : (ps : List SeatedPass) {A : Type 0} (m : UpdateRun E A) (f : Found) → UpdaterStops u ps m f NothingStop → UpdaterEnds u ps m (done_with f)
  ends_needless ps m f x = record { planting = x.planting; known = x.known; is = x.is; sound = x.sound; so = let y = x.so in record { old = y.old; got = y.got; was = y.was; goes = gone_anywhere y.old m Start m.tries y.goes; answers = y.may; course = y.course } }

  pub ends_full : (ps : List SeatedPass) {A : Type 0} (m : UpdateRun E A) (f : Found) (full : Full) → UpdaterStops u ps m f (FullStop full) → UpdaterEnds u ps m (FullAnswer full)
  ends_full ps m f full x = record { planting = x.planting; known = x.known; is = x.is; sound = x.sound; so = let y = x.so in record { old = y.old; got = y.got; was = y.was; goes = gone_anywhere y.old m Start m.tries y.goes; answers = y.may; course = y.course } }

  -- Its machine continues

  -- what comes next does not depend on the place of the update
  pub goes_there : (ps : List SeatedPass) {A : Type 0} (m : UpdateRun E A) (start : UpdateRun E UpdateAt) (f : Found) (next : Result Next Stop) → start ≡ standing m Start → UpdaterGoesOn u ps m f next → UpdaterGoesOn u ps start f next
  goes_there ps m start f next is x = subst (λ (r : UpdateRun E UpdateAt). UpdaterGoesOn u ps r f next) (sym is) (there next x)
    where
      there : (n : Result Next Stop) → UpdaterGoesOn u ps m f n → UpdaterGoesOn u ps (standing m Start) f n
      there (Ok (LookNext k)) y = y
      there (Ok (WaitNext k b scx)) y = y
      there (Ok (ReadNext n part)) y = y
      there (Ok (FillNext nth)) y = y
      there (Ok (ChangeNext scx)) y = y
      there (Err stop) y = record { planting = y.planting; known = y.known; is = y.is; sound = y.sound; so = let z = y.so in record { old = z.old; got = z.got; was = z.was; goes = gone_anywhere z.old m Start m.tries z.goes; tries = z.tries; may = z.may; course = z.course } }

  pub blocked_there : (ps : List SeatedPass) {A : Type 0} (m : UpdateRun E A) (start : UpdateRun E UpdateAt) (f : Found) (scx : ScxNo) (help : HelpRun) → start ≡ standing m Start → UpdaterIsBlocked u ps m f scx help → UpdaterIsBlocked u ps start f scx help
  blocked_there ps m start f scx help is x = subst (λ (r : UpdateRun E UpdateAt). UpdaterIsBlocked u ps r f scx help) (sym is) x

  -- once its machine has begun what comes next, it is at that place
  pub stands_there : (ps : List SeatedPass) (m now : UpdateRun E UpdateAt) (f : Found) (next : Next) (turn : Turn Updated) → now ≡ placed e m f next → turn ≡ Ask (next_step e m f next) → UpdaterTries u ps m f next → HostedStands u ps now turn
  stands_there ps m now f next turn place asks x = rw (place, asks) x

  -- so too where its SCX could not freeze a node
  pub blocks_there : (ps : List SeatedPass) (m now : UpdateRun E UpdateAt) (f : Found) (scx : ScxNo) (help : HelpRun) (turn : Turn Updated) → now ≡ standing m (Scx f record { scx = scx; call = m.call; update = update_of m; at = Help help }) → turn ≡ Ask (all_frozen_load scx) → UpdaterIsBlocked u ps m f scx help → HostedStands u ps now turn
  blocks_there ps m now f scx help turn place asks x = rw (place, asks) x

  -- it may take of its share what it takes next
  may_spend : (ps : List SeatedPass) (m : UpdateRun E UpdateAt) (v : ℕ) → HostedIsTold u ps m v → MaySpend e m m.at
  may_spend ps m v x = update_spends e m u.call _ (Some v) (u.tells m _ (Some v) x.so.0)

  -- given what its step has found, it has continued as its turn says
  pub goes_told : (ps : List SeatedPass) (m now : UpdateRun E UpdateAt) (v : ℕ) (turn : Turn Updated) → IsSameUpdate m now → (m.tries ≤ now.tries + 1) × (now.tries ≤ m.tries) → (MaySpend e m m.at → IsSpending e turn m.share now (node_tries m m.at) (scx_tries m m.at)) → HostedIsTold u ps m v → MatchTurn turn (λ _. (inner_update e).goes m now) (λ _. (inner_update e).ends m now)
  goes_told ps m now v (Ask s) is fewer spent x = record { edit = is.0; called = is.1; limit = is.2; tries = fewer; spends = spent (may_spend ps m v x); end = is.3 }
  goes_told ps m now v (Done a) is fewer spent x = record { edit = is.0; called = is.1; limit = is.2; tries = fewer; spends = spent (may_spend ps m v x); end = is.3 }

  -- what it gets fits the taken nodes
  pub told_fits : (ps : List SeatedPass) (m : UpdateRun E UpdateAt) (v : ℕ) → HostedIsTold u ps m v → UpdateFits e m (Some v) (shared_nodes o.layout)
  told_fits ps m v x = update_told e m u.call _ (Some v) (shared_nodes o.layout) (u.runs _ x.sound) (u.tells m _ (Some v) x.so.0) (few_taken o.allows o.layout u.call _ u.is_layout x.sound)

  -- its answer is that of the update that has no place again
  pub ends_nowhere : (ps : List SeatedPass) {B : Type 0} (m : UpdateRun E UpdateAt) (at : B) (now : UpdateRun E B) (a : Updated) → now ≡ standing m at → HostedEnds u ps m a → UpdaterEnds u ps now a
  ends_nowhere ps m at now a is x = rw is record { planting = x.planting; known = x.known; is = x.is; sound = x.sound; so = let y = x.so in record { old = y.old; got = y.got; was = y.was; goes = gone_anywhere y.old m Start m.tries y.goes; answers = y.answers; course = y.course } }

  -- Loads and fills

  -- what it reads is the word that comes next in what is read, and it keeps what its edit was asked
  pub reads_next : (ps : List SeatedPass) {A : Type 0} (m : UpdateRun E A) (f : Found) (n : NodeNo) (part : SettledPart) → UpdaterTries u ps m f (ReadNext n part) → HasAsked e m f × (next_read m.read ≡ Some part)
  reads_next ps m f n part x = (reads.works.asked, reads.next)
    where
      reads : Reads e (placed e m f (ReadNext n part)) (begun_at u.call (u.opens (placed e m f (ReadNext n part)) (history_of x.planting x.known) (next_step e m f (ReadNext n part)) x.so.0).0) (history_of x.planting x.known) f n part
      reads = (u.opens (placed e m f (ReadNext n part)) (history_of x.planting x.known) (next_step e m f (ReadNext n part)) x.so.0).3.0

  -- with what the load has found it continues as its turn says
  pub reads_on : (ps : List SeatedPass) {A : Type 0} (m now : UpdateRun E A) (f : Found) (n : NodeNo) (part : SettledPart) (v : ℕ) (next : Result Next Stop) → IsSameUpdate m now → now.tries ≡ m.tries → HasSpentForNext e m.share now f next m.tries (m.tries + 1)
      → ((b h : History) → IsRun TreeAllows u.call.layout h → IsTry u.call b h m.limit m.tries → Reads e m (begun_at u.call b) h f n part → value h (node n.0 (Settled part)) ≡ v → UpdateGoesOn e u.call h now f next)
      → HostedIsTold u ps (placed e m f (ReadNext n part)) v → UpdaterGoesOn u ps now f next
  reads_on ps m now f n part v next is tries spent goes x = goes_behind ps now f (placed e m f (ReadNext n part)) v next is tries spent x (goes y.0 h (u.runs h x.sound) y.1 y.3.0 y.3.1)
    where
      h : History
      h = history_of x.planting x.known

      y : UpdateIsReady e (placed e m f (ReadNext n part)) u.call h (Some v)
      y = u.tells (placed e m f (ReadNext n part)) h (Some v) x.so.0

  -- after the load of a word it waits for the load of the next
  reads_to : (ps : List SeatedPass) {A : Type 0} (m : UpdateRun E A) (f : Found) (n : NodeNo) (part next : SettledPart) (v : ℕ) → next_read (read_with m.read part v) ≡ Some next → HostedIsTold u ps (placed e m f (ReadNext n part)) v → UpdaterTries u ps (told m part v) f (ReadNext n next)
  reads_to ps m f n part next v is x = reads_on ps m (told m part v) f n part v (Ok (ReadNext n next)) (refl, refl, refl, refl) refl (told_spends e m f n part next v) (λ b h run try reads there. told_turn e m u.call b h f n part next v try reads there is) x

  -- after that of a pair's key for its value, and then for the high half
  pub waits_value : (ps : List SeatedPass) {A : Type 0} (m : UpdateRun E A) (f : Found) (n : NodeNo) (slot : Slot) (v : ℕ) → is_at_pair m.read ≡ true → next_read m.read ≡ Some (Key slot) → HostedIsTold u ps (placed e m f (ReadNext n (Key slot))) v → UpdaterTries u ps (told m (Key slot) v) f (ReadNext n (Value slot))
  waits_value ps m f n slot v at_pair is x = reads_to ps m f n (Key slot) (Value slot) v (key_then_value m.read slot v at_pair is) x

  pub waits_high : (ps : List SeatedPass) {A : Type 0} (m : UpdateRun E A) (f : Found) (n : NodeNo) (slot : Slot) (v : ℕ) → next_read m.read ≡ Some (Value slot) → HostedIsTold u ps (placed e m f (ReadNext n (Value slot))) v → UpdaterTries u ps (told m (Value slot) v) f (ReadNext n (High slot))
  waits_high ps m f n slot v is x = reads_to ps m f n (Value slot) (High slot) v (value_then_high m.read slot v is) x

  -- the update with a fill at a place
  abbrev pub filling : {A : Type 0} → UpdateRun E A → Found → Nth → NodeWord → UpdateRun E UpdateAt
  filling m f nth part = standing m (Fill f nth part)

  -- after a fill that is not a node's last it waits for the next
  fills_next_word : (ps : List SeatedPass) {A : Type 0} (m : UpdateRun E A) (f : Found) (nth : Nth) (part next : NodeWord) (told : ℕ) → FillsWell e → part_behind (pieces_now e m f nth) part ≡ Some next → HostedIsTold u ps (filling m f nth part) told → HostedWaits u ps (filling m f nth next) (fills e m f nth next)
  fills_next_word ps m f nth part next told sound behind x = record {
    planting = x.planting;
    known = x.known;
    is = x.is;
    sound = x.sound;
    so = (
      u.turns (filling m f nth part) (filling m f nth next) h (Some told) _ (moves m (Fill f nth part) (Fill f nth next) refl refl) x.so.0 (y.0, y.1, tt, fills_word e (filling m f nth part) f nth next (pieces_now e m f nth) (nth_node m.nodes nth) (word_of (pieces_now e m f nth) next) (begun_at u.call y.0) h can refl refl refl),
      goes_on (u.with_run (filling m f nth part)) (u.stays (filling m f nth part) (filling m f nth next) (moves m (Fill f nth part) (Fill f nth next) refl refl)) x.so.1,
    );
  }
    where
      h : History
      h = history_of x.planting x.known

      y : UpdateIsReady e (filling m f nth part) u.call h (Some told)
      y = u.tells (filling m f nth part) h (Some told) x.so.0

      can : CanFill e (filling m f nth part) (begun_at u.call y.0) h f nth next
      can = fills_next e (filling m f nth part) (begun_at u.call y.0) h f nth part y.3 next sound behind

  -- and so it continues after a fill, to the next, or to the end
  pub fills_on : (ps : List SeatedPass) {A : Type 0} (m : UpdateRun E A) (f : Found) (nth : Nth) (part : NodeWord) (next : Option NodeWord) (told : ℕ) → FillsWell e → part_behind (pieces_now e m f nth) part ≡ next → HostedIsTold u ps (filling m f nth part) told → UpdaterFills u ps m f nth next
  fills_on ps m f nth part (Some next) told sound behind x = fills_next_word ps m f nth part next told sound behind x
  fills_on ps m f nth part None told sound behind x = (part, told, behind, x)

  -- the fill of a word, as this piece and this node have it
  pub fill_as : {A : Type 0} (m : UpdateRun E A) (f : Found) (nth : Nth) (part : NodeWord) (p : Piece) (n : NodeNo) (v : ℕ) → p ≡ pieces_now e m f nth → n ≡ nth_node m.nodes nth → v ≡ word_of p part → fills e m f nth part ≡ record { kind = FillKind; word = NodeOf n part; access = Store v }
  fill_as m f nth part p n v is_p is_n is_v i = record { kind = FillKind; word = NodeOf (sym is_n i) part; access = Store (sym (is_v ∙ ap (λ q. word_of q part) is_p) i) }

  -- after a node's last fill it continues as its turn says
  pub fills_end : (ps : List SeatedPass) {A : Type 0} (m now : UpdateRun E A) (f : Found) (nth : Nth) (part : NodeWord) (v : ℕ) (next : Result Next Stop) → IsSameUpdate m now → now.tries ≡ m.tries → (0 < m.share.scx → HasSpentForNext e m.share now f next m.tries (m.tries + 1))
      → ((b h : History) → IsRun TreeAllows u.call.layout h → IsTry u.call b h m.limit m.tries → IsFilledUpTo e m (begun_at u.call b) h f nth part → UpdateGoesOn e u.call h now f next)
      → HostedIsTold u ps (filling m f nth part) v → UpdaterGoesOn u ps now f next
  fills_end ps m now f nth part v next is tries spent goes x = goes_behind ps now f (filling m f nth part) v next is tries (spent y.3.0.works.some) x (goes y.0 h (u.runs h x.sound) y.1 y.3)
    where
      h : History
      h = history_of x.planting x.known

      y : UpdateIsReady e (filling m f nth part) u.call h (Some v)
      y = u.tells (filling m f nth part) h (Some v) x.so.0

  -- Its SCX

  -- the update with an SCX at a place
  abbrev pub scxing : {A : Type 0} → UpdateRun E A → Found → ScxRun → UpdateRun E UpdateAt
  scxing m f scx = standing m (Scx f scx)

  -- a machine that updates makes an SCX
  pub changer : {A : Type 0} → UpdateRun E A → Found → Changer TreeAllows o
  changer m f = inside_host u (scxing m f) (λ scx h v run y. (begun_at (begun_at u.call y.0) y.3.0, (u.runs h run, y.3.2)))
      (λ old now v goes. moves m (Scx f old) (Scx f now) refl refl)
      (λ old now h v s goes turn run y. (y.0, y.1, tt, scx_asks e (scxing m f old) old now f y.3.0 (begun_at u.call y.0) h (Ask s) s y.3.1 goes.0 goes.1 goes.2 refl (turn (begun_at (begun_at u.call y.0) y.3.0) (u.runs h run, y.3.2))))

  -- an update whose try makes its SCX waits for the fill of its plan
  pub begins_change : (ps : List SeatedPass) {A : Type 0} (m : UpdateRun E A) (f : Found) (scx : ScxNo) (snaps : List Snap) (plan : PlanOf) (old fresh : NodeNo) → snaps ≡ m.snaps.items → plan ≡ (update_of m).plan → old ≡ (update_of m).old → fresh ≡ (update_of m).fresh
      → UpdaterTries u ps m f (ChangeNext scx) → InnerWaits (changer m f) ps (changing_at snaps record { scx = scx; call = m.call; plan = plan; old = old; fresh = fresh } AtPlan) (scx_fill scx Plan plan.0)
  unfolding changer
  begins_change ps m f scx snaps plan old fresh is_snaps is_plan is_old is_fresh y = subst (λ (w : Update). HostedWaits u ps (scxing m f record { scx = scx; call = m.call; update = w; at = AtPlan }) (scx_fill scx Plan w.plan.0)) is y
    where
      is : update_of m ≡ record { snaps = snaps; plan = plan; old = old; fresh = fresh }
      is = update_is (update_of m) snaps plan old fresh is_snaps is_plan is_old is_fresh

  -- once that is done it has answered
  pub changed : (ps : List SeatedPass) {A : Type 0} (m : UpdateRun E A) (f : Found) (snaps : List Snap) (change : ScxTask) (help : HelpRun) (v : ℕ) → IsAtFound e → HasGuardAtEnd e → InnerIsTold (changer m f) ps (changing_at snaps change (Help (record help { at = HelpCommit }))) v → UpdaterEnds u ps m (done_with f)
  unfolding changer
  changed ps m f snaps change help v sound at_end x = record {
    planting = x.planting;
    known = x.known;
    is = x.is;
    sound = x.sound;
    so = record { old = here; got = Some v; was = x.so.0; goes = record { edit = refl; called = refl; limit = refl; tries = (omega arith, omega arith); spends = (omega arith, omega arith, omega arith); end = refl }; answers = answers; course = x.so.1 };
  }
    where
      scx : ScxRun
      scx = changing_at snaps change (Help (record help { at = HelpCommit }))

      here : UpdateRun E UpdateAt
      here = scxing m f scx

      h : History
      h = history_of x.planting x.known

      y : UpdateIsReady e here u.call h (Some v)
      y = u.tells here h (Some v) x.so.0

      answers : UpdateAnswers e m u.call h (done_with f)
      answers = scx_done e sound at_end here scx scx f u.call y.0 y.3.0 h (Done ScxDone) y.1 y.3.1 refl refl refl refl
          (let k = y.3.2 in done_at (begun_at (begun_at u.call y.0) y.3.0) h scx (record help { at = HelpCommit }) (u.runs h x.sound).lawful k.2 k.1 true (record help { at = HelpCommit }) k.0 refl refl)

  -- where a node could not be frozen, it waits to look whether all were
  pub is_blocked : (ps : List SeatedPass) {A : Type 0} (m : UpdateRun E A) (f : Found) (scx : ScxNo) (help : HelpRun) (run : ScxRun) → run ≡ record { scx = scx; call = m.call; update = update_of m; at = Help help } → InnerWaits (changer m f) ps run (all_frozen_load scx) → UpdaterIsBlocked u ps m f scx help
  unfolding changer
  is_blocked ps m f scx help run is x = subst (λ (r : ScxRun). HostedWaits u ps (scxing m f r) (all_frozen_load scx)) is x

-- an LLX takes at most seven steps
pub look_steps : (now old left tries looks works : ℕ) → now ≤ old + 7 → left ≤ tries + (looks + works + 39) → now + left ≤ old + suc (tries + (53 + looks + works + 39))
look_steps now old left tries looks works a b = omega (arith, a, b)

-- fewer words are left after a fill
pub fewer_fills_then : (p : Piece) (part : NodeWord) (next : Option NodeWord) → part_behind p part ≡ next → fills_then p next < fills_then p (Some part)
fewer_fills_then p part None e = omega arith
fewer_fills_then p part (Some next) e = let less = fewer_fills p part next e in omega (arith, less)

-- and what is filled after a word is to be filled
pub filled_next : (p : Piece) (part : NodeWord) (next : Option NodeWord) → next ≡ part_behind p part → IfSome next (λ word. is_filled p word ≡ true)
filled_next p part None e = tt
filled_next p part (Some next) e = behind_filled p part next (sym e)

-- and a step is made for it
pub fill_steps : (now old left before : ℕ) → now ≡ suc old → left < before → now + left ≤ old + before
fill_steps now old left before one less = omega (arith, one, less)

-- the steps of a fresh node are those that were left for it
pub node_steps : (now old left tries after head : ℕ) → now + 0 ≤ old + suc head → left ≤ tries + (after + 39) → now + left ≤ old + suc (tries + (head + after + 39))
node_steps now old left tries after head a b = omega (arith, a, b)

-- a load is one of those that were left
pub read_steps : (now old left tries reads fills : ℕ) → now ≡ suc old → left < tries + (reads - 1 + fills + 39) → now + suc left ≤ old + suc (tries + (reads - 1 + fills + 39))
read_steps now old left tries reads fills a b = omega (arith, a, b)

-- three steps are made for the three words of a pair
pub pair_steps : (start first second third left more most all : ℕ) → first ≡ suc start → second ≡ suc first → third ≡ suc second → left < more → more < most → most < all → third + suc left ≤ start + suc all
pair_steps start first second third left more most all a b d i j k = omega (arith, a, b, d, i, j, k)

-- what stops a try is handed on as it is
pub handed_on : (r : Result Next Stop) (stop : Stop) → IsErrAnd r (λ other. other ≡ stop) → r ≡ Err stop
handed_on r stop x = let y = err_from_is_err_and r x in y.1 ∙ ap (λ s. Err s) y.2

-- what is left does not depend on the place of the update
pub left_standing : {E : Type 0} (e : EditMeaning E) {A : Type 0} (m : UpdateRun E A) (start : UpdateRun E UpdateAt) (f : Found) (next : Result Next Stop) (nodes : ℕ) → start ≡ standing m Start → left_then e start f next nodes ≡ left_then e m f next nodes
left_standing e m start f next nodes is = rw is (there next)
  where
    there : (n : Result Next Stop) → left_then e (standing m Start) f n nodes ≡ left_then e m f n nodes
    there (Ok (LookNext k)) = refl
    there (Ok (WaitNext k b scx)) = refl
    there (Ok (ReadNext n part)) = refl
    there (Ok (FillNext nth)) = refl
    there (Ok (ChangeNext scx)) = refl
    there (Err stop) = refl

-- how many steps are left at its machine's place once it has begun what comes next
pub left_there : {E : Type 0} (e : EditMeaning E) (m now : UpdateRun E UpdateAt) (f : Found) (next : Next) (turn : Turn Updated) (nodes : ℕ) → now ≡ placed e m f next → turn ≡ Ask (next_step e m f next) → weight turn (update_left e now nodes) ≡ left_then e m f (Ok next) nodes
left_there e m now f next turn nodes place asks = rw (place, asks) refl

-- and where its SCX could not freeze a node
pub left_blocked : {E : Type 0} (e : EditMeaning E) (m now : UpdateRun E UpdateAt) (f : Found) (scx : ScxNo) (help : HelpRun) (turn : Turn Updated) (nodes : ℕ) → now ≡ standing m (Scx f record { scx = scx; call = m.call; update = update_of m; at = Help help }) → turn ≡ Ask (all_frozen_load scx) → weight turn (update_left e now nodes) ≡ suc (m.tries * try_left e m.edit nodes + scx_left (Help help))
left_blocked e m now f scx help turn nodes place asks = rw (place, asks) refl

-- what is not more than something is not more than what that is not more than
pub through : (a b c : ℕ) → a ≤ b → b ≤ c → a ≤ c
through a b c i j = omega (arith, i, j)
