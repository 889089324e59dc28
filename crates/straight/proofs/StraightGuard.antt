-- How updates begin to walk, of whatever machine updates, and what their walks find.
use Rattle.std.proofs.Common.{◌≡◌, ℕ, suc, Bool, true, false, ◌+◌, ◌-◌, ◌*◌, ◌≤◌, List, None, Some, inl, refl, sym, subst, arith, ◌∙◌, Result}
use Rattle.histories.specs.Common.{Ask, Done, Layout, NodeNo, ScxNo, LoadSettled, LoadChild, Settled, Head, Child as ChildWord, Left, Right, History, Call, IsRun, begun_at, head_of, marked, node, Step}
use Rattle.template.specs.Common.{load, End, FoundBy, Goal, HasFoundThere, HasJustLooked, IsPastRoot, IsSnapshot, LlxAnswers, LlxRun, MayGo, Snap, Snapshot, TreeAllows, WalkIsTold, WalkWaits}
use Rattle.ordered_map.specs.declared.rule.Goal.TheVariants.{Key as ToKey}
use Rattle.ordered_map.proofs.MapLemmas.{root_head}
use Rattle.arena.proofs.Lemmas.{ends_self}
use Rattle.prims.specs.Laws.Idle.{IsQuietSince, quiet_at_start, idle_if_finished}
use Rattle.prims.specs.Llx.Steps.{llx_left}
use Rattle.prims.specs.declared.llx.LlxAt.TheVariants.{StateAgain}
use Rattle.template.specs.Walk.Known.{asks_key, open_side}
use Rattle.template.specs.Walk.Places.{root_trail, way_at, way_from}
use Rattle.template.specs.Walk.Steps.{room}
use Rattle.template.specs.declared.walk.Found.{Found}
use Rattle.template.specs.declared.walk.WalkAt.{WalkAt}
use Rattle.template.specs.declared.walk.WalkAt.TheVariants.{Start as WalkStart, Root as WalkRoot, Child as WalkChild}
use Rattle.template.specs.declared.walk.WalkRun.{WalkRun}
use Rattle.template.specs.declared.walk.Way.{Way}
use Rattle.template.proofs.Lemmas.{head_to_child, own_since, walk_begins}
use Rattle.edits.specs.Edits.{EditMeaning, all_looks}
use Rattle.edits.specs.Known.{Guarded, IsUntouched, MayBeginTry, UpdateIsReady, UpdateWaits, Walks}
use Rattle.edits.specs.Laws.Entered.{none_filled_yet}
use Rattle.edits.specs.Next.{HasSpentForNext, IsSameUpdate, UpdateGoesOn, guard_begun, guard_step, standing}
use Rattle.edits.specs.Steps.{most_works, node_tries, scx_tries, try_left, update_left}
use Rattle.edits.specs.Tries.{HasFilledNone, IsTry}
use Rattle.edits.specs.declared.update.Next.{Next}
use Rattle.edits.specs.declared.update.Stop.{Stop}
use Rattle.edits.specs.declared.update.UpdateAt.{UpdateAt}
use Rattle.edits.specs.declared.update.UpdateAt.TheVariants.{Start, Walk, Guard}
use Rattle.edits.specs.declared.update.UpdateRun.{UpdateRun}
use Rattle.edits.proofs.Lemmas.{guard_asks, guard_begins, guard_kept, guard_told, guard_walks, walks_on}
use Rattle.order.specs.declared.last_turns.LastTurns.{LastTurns}
use Rattle.straight.specs.CallKinds.{Calls}
use Rattle.straight.specs.Hosts.{HostedIsTold, HostedWaits}
use Rattle.straight.specs.StraightGuard.{UpdaterGuardsAgain, UpdaterWalks, left_at_guard}
use Rattle.straight.specs.StraightLlx.{Looker, LookerSnaps, LoadsMark, LoadsStateAgain}
use Rattle.straight.specs.StraightUpdate.{HasUpdateGoneOn, Updater, UpdaterBegins, UpdaterGoesOn}
use Rattle.straight.specs.StraightWalk.{GoesAs, Walker, WalkerFinds, WalkerGoesDown, WalkerIsAt}
use Rattle.tables.specs.Traces.{goes_on}
use Rattle.straight.specs.declared.node.Reached.{Reached}
use Rattle.tables.specs.declared.view.SeatedPass.{SeatedPass}
use Rattle.straight.proofs.Inside.{inside_host}
use Rattle.straight.proofs.StraightUpdate.{goes_behind, moves}

-- the place of an update whose walk is at this one; if it has a guard, only past the root's head
abbrev walk_place : Bool → WalkRun → WalkAt → UpdateAt
walk_place false walk at = Walk walk
walk_place true walk WalkStart = Start
walk_place true walk WalkRoot = Start
walk_place true walk _ = Walk walk

is_walking : (b : Bool) (walk : WalkRun) (at : WalkAt) → (b ≡ true → IsPastRoot at) → walk_place b walk at ≡ Walk walk
is_walking false walk at past = refl
is_walking true walk WalkStart past = absurd (past refl)
is_walking true walk WalkRoot past = absurd (past refl)
is_walking true walk _ past = refl

-- there its tries may still take as much as at its start
place_tries : {E A : Type 0} (m : UpdateRun E A) (b : Bool) (walk : WalkRun) (at : WalkAt) → (node_tries m (walk_place b walk at) ≡ m.tries + 1) × (scx_tries m (walk_place b walk at) ≡ m.tries + 1)
place_tries m false walk at = (refl, refl)
place_tries m true walk WalkStart = (refl, refl)
place_tries m true walk WalkRoot = (refl, refl)
place_tries m true walk _ = (refl, refl)

-- the root is a fork above all keys, at which each walk goes left
root_fork : (goal : Goal) (head : ℕ) → head ≡ 2 → ((head_of head).leaf ≡ false) × (asks_key goal (head_of head) ≡ false) × (open_side goal (head_of head) ≡ Left)
root_fork goal head is = subst (λ v. ((head_of v).leaf ≡ false) × (asks_key goal (head_of v) ≡ false) × (open_side goal (head_of v) ≡ Left)) (sym is) (at_two goal)
  where
    at_two : (to : Goal) → ((head_of 2).leaf ≡ false) × (asks_key to (head_of 2) ≡ false) × (open_side to (head_of 2) ≡ Left)
    at_two (ToKey k) = (refl, refl, refl)
    at_two (End Left) = (refl, refl, refl)
    at_two (End Right) = (refl, refl, refl)

module _ {M E : Type 0} {o : Calls M} {e : EditMeaning E} (u : Updater o e) where
  -- the update at that place
  abbrev passing : {A : Type 0} → UpdateRun E A → WalkRun → UpdateRun E UpdateAt
  passing m walk = standing m (walk_place (e.guard m.edit) walk walk.at)

  -- what it knows there, once the step of its walk has found v
  record IsToldThere {A : Type 0} (m : UpdateRun E A) (walk : WalkRun) (h : History) (v : ℕ) : Type 0 where
    pub begin : History
    pub try : IsTry u.call begin h m.limit m.tries
    pub first : IsUntouched u.call begin m.share
    pub walks : Walks e m (begun_at u.call begin) h walk.way walk.goal
    pub told : WalkIsTold walk (begun_at u.call begin) h v
    pub guarded : Guarded e m.edit (begun_at u.call begin) h m.guard (λ k. WalkIsTold walk k h v)

  told_there : {A : Type 0} (m : UpdateRun E A) (walk : WalkRun) (h : History) (v : ℕ) → UpdateIsReady e (passing m walk) u.call h (Some v) → IsToldThere m walk h v
  told_there m walk h v x = go (e.guard m.edit) walk.at refl refl x
    where
      past : IsPastRoot walk.at → UpdateIsReady e (standing m (Walk walk)) u.call h (Some v) → IsToldThere m walk h v
      past p y = record { begin = y.0; try = y.1; first = y.2; walks = y.3.0; told = y.3.1; guarded = y.3.2 p }

      go : (b : Bool) (at : WalkAt) → e.guard m.edit ≡ b → walk.at ≡ at → UpdateIsReady e (standing m (walk_place b walk at)) u.call h (Some v) → IsToldThere m walk h v
      go false at plain is y = record { begin = y.0; try = y.1; first = y.2; walks = y.3.0; told = y.3.1; guarded = λ has. absurd (let z : false ≡ true = sym plain ∙ has in cc) }
      go true WalkStart has is y = absurd y.3
      go true WalkRoot has is y = absurd y.3
      go true _ has is y = past (subst IsPastRoot (sym is) tt) y

  -- it goes from there to the next place of its walk
  moves_there : {A : Type 0} (m : UpdateRun E A) (old now : WalkRun) → HasUpdateGoneOn e (passing m old) (passing m now) (node_tries (passing m now) (passing m now).at) (scx_tries (passing m now) (passing m now).at)
  moves_there m old now =
      let b = e.guard m.edit in
      let was = place_tries (passing m old) b old old.at in
      let is = place_tries (passing m now) b now now.at in
      moves u m (walk_place b old old.at) (walk_place b now now.at) (is.0 ∙ sym was.0) (is.1 ∙ sym was.1)

  waits_there : {A : Type 0} (m : UpdateRun E A) (old now : WalkRun) (h : History) (v : ℕ) (s : Step) → IsPastRoot now.at → GoesAs old now → ((d : Call) → WalkIsTold old d h v → WalkWaits now d h s) → IsToldThere m old h v → UpdateWaits e (passing m now) u.call h s
  waits_there m old now h v s past goes next y = subst (λ at. UpdateWaits e (standing m at) u.call h s) (sym (is_walking (e.guard m.edit) now now.at (λ _. past)))
      (walks_on e m old now u.call y.begin h v (Ask s) s y.try y.first y.walks goes past refl (λ g told. next (begun_at u.call g) told) y.told y.guarded)

  -- a machine that updates walks, and keeps no fork
  pub walker : {A : Type 0} → UpdateRun E A → Walker o
  walker m = inside_host u (λ (w : WalkRun × LastTurns). passing m w.0)
      (λ w h v run x. let y = told_there m w.0 h v x in (begun_at u.call y.begin, y.told))
      (λ old now v goes. moves_there m old.0 now.0)
      (λ old now h v s goes next run x. waits_there m old.0 now.0 h v s goes.0 goes.1 next (told_there m old.0 h v x))

  -- it may go where it goes
  may_walk : (lay : Layout) (way by : Way) (goal end : Goal) → way ≡ by → goal ≡ end → MayGo lay by end → MayGo lay way goal
  may_walk lay way by goal end is_way is_goal x = subst (λ w. MayGo lay w goal) (sym is_way) (subst (MayGo lay by) (sym is_goal) x)

  module _ {A : Type 0} (m : UpdateRun E A) (way : Way) (goal : Goal) where
    -- the update at the root
    abbrev pub rooted : UpdateRun E UpdateAt
    rooted = standing m (Walk (way_from way goal))

    -- an update that may begin waits for the head of the root
    pub roots : (ps : List SeatedPass) → way ≡ e.way m.edit → goal ≡ e.goal m.edit → UpdaterBegins u ps m → HostedWaits u ps rooted (load LoadSettled (node 0 (Settled Head)))
    roots ps is_way is_goal x = record {
      planting = x.planting;
      known = x.known;
      is = x.is;
      sound = x.sound;
      so = (
        u.turns (standing m Start) rooted _ None _ (moves u m Start (Walk (way_from way goal)) refl refl) x.so.0 (waiting _ (u.tells (standing m Start) _ None x.so.0)),
        goes_on (u.with_run (standing m Start)) (u.stays (standing m Start) rooted (moves u m Start (Walk (way_from way goal)) refl refl)) x.so.1,
      );
    }
      where
        waiting : (h : History) → UpdateIsReady e (standing m Start) u.call h None → UpdateWaits e rooted u.call h (load LoadSettled (node 0 (Settled Head)))
        waiting h r =
            let b = r.0 in (
              h,
              r.1,
              inl r.2,
              (
                record { small = b.small; rests = record { share = b.rests.share; over = b.rests.over }; quiet = quiet_at_start u.call.layout u.call.pass h (idle_if_finished u.call h b.run.1.lawful b.rests.over); none_filled = none_filled_yet u.call.pass h; may = b.may; same = is_goal; same_way = is_way },
                walk_begins way goal (begun_at u.call h) h b.run (may_walk u.call.layout way (e.way m.edit) goal (e.goal m.edit) is_way is_goal b.may) (rw is_goal b.small) (ends_self h),
                λ past. absurd past,
              ),
            )

    -- at such a place its walk is, where it has no guard, or has that behind it
    pub walks_there : (ps : List SeatedPass) (place : Reached) → UpdaterWalks u ps m way goal place → WalkerIsAt (walker m) ps way goal place
    unfolding walker
    walks_there ps place x = subst (λ at. HostedWaits u ps (standing m at) (load LoadSettled (node place.trail.node.0 (Settled Head)))) (sym (is_walking (e.guard m.edit) (way_at way goal place.trail place.at) place.at x.0)) x.1

    pub is_there : (ps : List SeatedPass) (place : Reached) → IsPastRoot place.at → WalkerIsAt (walker m) ps way goal place → UpdaterWalks u ps m way goal place
    unfolding walker
    is_there ps place past x = (λ _. past, subst (λ at. HostedWaits u ps (standing m at) (load LoadSettled (node place.trail.node.0 (Settled Head)))) (is_walking (e.guard m.edit) (way_at way goal place.trail place.at) place.at (λ _. past)) x)

    module _ (head : ℕ) where
      -- the update at its guard
      abbrev guarding : LlxRun → UpdateRun E UpdateAt
      guarding llx = standing m (Guard (way_from way goal) head llx)

      -- a machine that updates looks at its guard
      pub guard_looker : Looker TreeAllows o
      guard_looker = inside_host u guarding
          (λ llx h v run y. (begun_at (begun_at u.call y.0) y.3.0, (u.runs h run, y.3.2)))
          (λ llx now v node. moves u m (Guard (way_from way goal) head llx) (Guard (way_from way goal) head now) refl refl)
          (λ llx now h v s node next run y. guard_asks e m (way_from way goal) head llx now u.call y.0 y.3.0 h (Ask s) y.1 y.2 y.3.1 node (next (begun_at (begun_at u.call y.0) y.3.0) (u.runs h run, y.3.2)) s refl)

      -- behind the head of the root it begins to look at its guard
      pub looks_at_guard : (ps : List SeatedPass) → e.guard m.edit ≡ true → HostedIsTold u ps rooted head → LoadsMark guard_looker ps record { 0 = 2 }
      unfolding guard_looker
      looks_at_guard ps has x = record {
        planting = x.planting;
        known = x.known;
        is = x.is;
        sound = x.sound;
        so = (
          u.turns rooted (guarding guard_begun) _ (Some head) guard_step (moves u m (Walk (way_from way goal)) (Guard (way_from way goal) head guard_begun) refl refl) x.so.0 (waiting _ (u.tells rooted _ (Some head) x.so.0)),
          goes_on (u.with_run rooted) (u.stays rooted (guarding guard_begun) (moves u m (Walk (way_from way goal)) (Guard (way_from way goal) head guard_begun) refl refl)) x.so.1,
        );
      }
        where
          waiting : (h : History) → UpdateIsReady e rooted u.call h (Some head) → UpdateWaits e (guarding guard_begun) u.call h guard_step
          waiting h y = guard_begins e m (way_from way goal) u.call y.0 h head y.1 y.2 y.3.0 y.3.1 refl has

      -- if something is in the way, it waits for the state again
      pub guards_again : (ps : List SeatedPass) (b : Bool) (scx : ScxNo) → LoadsStateAgain guard_looker ps record { 0 = 2 } b scx → UpdaterGuardsAgain u ps m way goal head b scx
      unfolding guard_looker
      guards_again ps b scx x = x

      -- with the snapshot it goes down from the root
      module _ (ps : List SeatedPass) (snap : Snap) (x : LookerSnaps guard_looker ps record { 0 = 2 } snap) (turn : LastTurns) where
        abbrev kept : UpdateRun E A
        kept = record m { guard = snap }

        abbrev below : WalkRun
        below = way_at way goal root_trail (WalkChild (head_of head).level Left)

        goes_below : HasUpdateGoneOn e (guarding x.last) (passing kept below) (node_tries (passing kept below) (passing kept below).at) (scx_tries (passing kept below) (passing kept below).at)
        goes_below =
            let is = place_tries (passing kept below) (e.guard m.edit) below below.at in
            let z = moves u m (Guard (way_from way goal) head x.last) (walk_place (e.guard m.edit) below below.at) is.0 is.1 in
            record { edit = z.edit; called = z.called; limit = z.limit; tries = z.tries; spends = z.spends; end = z.end }

        module _ (h : History) (run : IsRun o.allows u.call.layout h) (ready : UpdateIsReady e (guarding x.last) u.call h (Some x.told)) where
          abbrev looks : Call
          looks = begun_at (begun_at u.call ready.0) ready.3.0

          answers : LlxAnswers x.last looks h (Snapshot snap)
          answers = subst (λ (n : NodeNo). IsSnapshot u.call.layout h n.0 snap × HasJustLooked u.call.pass h ready.3.0 n.0 × HasFoundThere u.call.pass h ready.3.0 n.0 snap.scx.0) (sym x.is_node)
              (x.snaps looks h (u.runs h run) ready.3.2, x.looked looks h (u.runs h run) ready.3.2, x.found looks h (u.runs h run) ready.3.2)

          told_below : IsToldThere kept (way_from way goal) h head
          told_below = record {
            begin = ready.0;
            try = ready.1;
            first = ready.2;
            walks = guard_walks e m (way_from way goal) head x.last x.last u.call ready.0 ready.3.0 h (Done (Snapshot snap)) ready.1 ready.2 ready.3.1 refl answers snap;
            told = guard_told e m (way_from way goal) head x.last x.last u.call ready.0 ready.3.0 h (Done (Snapshot snap)) ready.1 ready.2 ready.3.1 refl answers ready.3.3;
            guarded = guard_kept e m (way_from way goal) head x.last x.last u.call ready.0 ready.3.0 h (Done (Snapshot snap)) ready.1 ready.2 ready.3.1 refl answers snap refl ready.3.3;
          }

          waits_below : UpdateWaits e (passing kept below) u.call h (load LoadChild (node 0 (ChildWord Left)))
          waits_below =
              let f = root_fork goal head (sym ready.3.1.told ∙ root_head u.call.layout h ready.3.1.run) in
              waits_there kept (way_from way goal) below h head _ tt (refl, refl)
              (λ d t. subst (λ side. WalkWaits (way_at way goal root_trail (WalkChild (head_of head).level side)) d h (load LoadChild (node 0 (ChildWord side)))) f.2 (head_to_child way goal root_trail d h WalkRoot head (head_of head) tt refl t f.0 f.1))
              told_below

        pub passes_guard : WalkerGoesDown (walker kept) ps way goal root_trail (head_of head).level Left turn
        unfolding walker guard_looker
        passes_guard = record {
          planting = x.so.planting;
          known = x.so.known;
          is = x.so.is;
          sound = x.so.sound;
          so = (
            u.turns (guarding x.last) (passing kept below) _ (Some x.told) _ goes_below x.so.so.0 (waits_below _ x.so.sound (u.tells (guarding x.last) _ (Some x.told) x.so.so.0)),
            goes_on (u.with_run (guarding x.last)) (u.stays (guarding x.last) (passing kept below) goes_below) x.so.so.1,
          );
        }

  -- after its walk it continues as its try does
  pub finds : (ps : List SeatedPass) {A : Type 0} (m now : UpdateRun E A) (way : Way) (goal : Goal) (turn : LastTurns) (f : Found) (next : Result Next Stop) → way ≡ e.way m.edit → goal ≡ e.goal m.edit → IsSameUpdate m now → now.tries ≡ m.tries → HasSpentForNext e m.share now f next (m.tries + 1) (m.tries + 1)
      → ((b h : History) → IsRun TreeAllows u.call.layout h → IsTry u.call b h m.limit m.tries → IsUntouched u.call b m.share → MayBeginTry e m (begun_at u.call b) h → IsQuietSince u.call.layout u.call.pass b h → HasFilledNone u.call.pass h b → FoundBy (e.way m.edit) (e.goal m.edit) (begun_at u.call b) h f → Guarded e m.edit (begun_at u.call b) h m.guard (λ k. FoundBy (e.way m.edit) (e.goal m.edit) k h f) → UpdateGoesOn e u.call h now f next)
      → WalkerFinds (walker m) ps way goal turn f → UpdaterGoesOn u ps now f next
  unfolding walker
  finds ps m now way goal turn f next is_way is_goal is tries spent goes x = goes_behind u ps now f (passing m x.last) x.told next is tries spent_there x.so (found _ x.so.sound (told_there m x.last _ x.told (u.tells (passing m x.last) _ (Some x.told) x.so.so.0)))
    where
      spent_there : HasSpentForNext e m.share now f next (node_tries (passing m x.last) (passing m x.last).at) (scx_tries (passing m x.last) (passing m x.last).at)
      spent_there = let p = place_tries (passing m x.last) (e.guard m.edit) x.last x.last.at in rw (p.0, p.1) spent

      found : (h : History) → IsRun o.allows u.call.layout h → IsToldThere m x.last h x.told → UpdateGoesOn e u.call h now f next
      found h run y = goes y.begin h (u.runs h run) y.try y.first record { run = y.told.run; small = y.walks.small; may = y.walks.may; since = own_since (begun_at u.call y.begin) h y.told.own; rests = y.walks.rests } y.walks.quiet y.walks.none_filled
          (rw (← is_goal, ← is_way) (x.finds (begun_at u.call y.begin) h y.told))
          (λ has. let z = y.guarded has in (z.0, z.1, rw (← is_goal, ← is_way) (x.finds (begun_at (begun_at u.call y.begin) z.0) h z.2)))

-- the steps up to a walk from the root are none, and up to one behind a guard nine at most
pub root_steps : (b : Bool) (now rest most : ℕ) → b ≡ false → now + (suc (3 * (2 + rest) + 4) + 64 * most) ≤ now + (3 * (2 + rest) + 5 + 64 * all_looks b most)
root_steps b now rest most plain = rw plain (omega arith)

pub guard_steps : (b : Bool) (old headed looked new rest level most : ℕ) → b ≡ true → headed ≡ suc old → looked ≤ headed + 7 → new ≡ suc looked → new + (suc (3 * (1 + rest - level) + 4) + 64 * most) ≤ old + (3 * (2 + rest) + 5 + 64 * all_looks b most)
guard_steps b old headed looked new rest level most has one look last = rw has (omega (arith, one, look, last))

-- and so it is where its machine looks again at the guard
again_steps : (b : Bool) (old headed looked new tries rest most works : ℕ) → b ≡ true → headed ≡ suc old → looked ≤ headed + 7 → new ≤ looked + suc (tries + (llx_left (StateAgain false record { 0 = 0 }) + (3 * (2 + rest) + 4) + (64 * most + works + 39))) → new ≤ old + (tries + (3 * (2 + rest) + 5 + (64 * all_looks b most + works + 39)))
again_steps b old headed looked new tries rest most works has one look left = rw has (omega (arith, one, look, left))

pub left_again : {E A : Type 0} (e : EditMeaning E) (m : UpdateRun E A) (way : Way) (goal : Goal) (head : ℕ) (marked : Bool) (scx : ScxNo) (nodes old headed looked new : ℕ) → way ≡ e.way m.edit → e.guard m.edit ≡ true → headed ≡ suc old → looked ≤ headed + 7 → new ≤ looked + left_at_guard e m way goal head marked scx nodes → new ≤ old + update_left e (standing m Start) nodes
left_again e m way goal head marked scx nodes old headed looked new is has one look left =
    subst (λ by. new ≤ old + (m.tries * try_left e m.edit nodes + (3 * (2 + room by nodes) + 5 + (64 * all_looks (e.guard m.edit) (e.most_looks m.edit) + most_works e m.edit + 39)))) is
    (again_steps (e.guard m.edit) old headed looked new (m.tries * try_left e m.edit nodes) (room way nodes) (e.most_looks m.edit) (most_works e m.edit) has one look left)

-- the steps of a call are those up to its walk, those of the walk, and those that are left after it
pub call_steps : (ends walked begun old walk left tries first all looks works : ℕ) → begun + (walk + 64 * looks) ≤ old + (first + 64 * all) → walked ≤ begun + walk → left ≤ tries + (64 * looks + works + 39) → ends ≤ walked + left → ends ≤ old + (tries + (first + (64 * all + works + 39)))
call_steps ends walked begun old walk left tries first all looks works a b c d = omega (arith, a, b, c, d)
