-- How an SCX begins: with the next records of the share, and with snapshots that may be used.
use Rattle.std.proofs.Common.{◌≡◌, ℕ, ◌+◌, ◌<◌, ◌≤◌, ◌↔◌, map, ⊎_elim, true, false, cond, eqb, ne_eqb, List, [], ◌∷◌, length, if◌then◌else◌, Option, Some, None, slice_get, refl, sym, ◌∙◌, ap, subst, arith}
use Rattle.std.proofs.Math.ListN.{set}
use Rattle.arena.specs.Opening.{is_map}
use Rattle.histories.specs.Common.{taken_nodes, Layout, Records, Side, Remaining, LoadInfo, History}
use Rattle.histories.specs.Common.{Extends, IsLastStep, IsOwnNode, IsOwnScx, IsTakenScx, HasWon, NodeNo, plan_finalizes, side_of, Resource}
use Rattle.arena.specs.Share.{after_taking}
use Rattle.arena.proofs.Lemmas.{last_now, ends_self}
use Rattle.template.specs.Common.{update_field_index, Update, ListsNode, IsUpdateOver, nodes_of, snap_at, Snap, LlxRun, PutRun, Llx as LlxAnswer, Snapshot as LlxSnapshot, IsShare}
use Rattle.prims.specs.Put.Steps.{put_left}
use Rattle.prims.specs.declared.scx.ScxAt.TheVariants.{Start as ScxStart}
use Rattle.prims.specs.declared.put.PutAt.TheVariants.{Start as PutStart}
use Rattle.record.specs.Common.{Command, Set as SetOf, commands, IsLastLook, command_steps}
use Rattle.player.specs.declared.run.Run.TheVariants.{Llx, Scx}
use Rattle.player.specs.declared.run.Ended.TheVariants as ended
use Rattle.player.specs.declared.client.Client.{Client}
use Rattle.player.specs.declared.client.SetField.{SetField}
use Rattle.player.specs.declared.kept.Kept.{Kept}
use Rattle.record.specs.declared.record.Answer.{Answer}
use Rattle.record.specs.declared.record.Answer.TheVariants.{Full}
use Rattle.player.specs.KeptSnaps.{IsUnspent, kept_of, node_of, found_of}
use Rattle.record.specs.Shares.{HasTooFew}
use Rattle.player.proofs.Left.{full_left}
use Rattle.player.specs.ClientView.{call_steps, ClientView, IsSound, IsLlxOf, IsPutOf, no_hand, held, HoldsShare, IsClientState, Rests, Starts, Answered, HasBeenTold, TellsFull, CanPut, Puts, BeginsOrRefuses}
use Rattle.prims.specs.Laws.Begun.{taken_since}
use Rattle.prims.specs.Shares.{IsUpperEnd}
use Rattle.prims.proofs.Lemmas.{taken_node_since, left_own_node, left_own_scx, same_end, taken_share, free_unnamed, all_over, put_ready_first}
use Rattle.player.proofs.Over.{taken_nothing}
use Rattle.player.proofs.Snapshots.{has_snap, dropped, kept_without, unkept_without}
use Rattle.player.proofs.MapEnds.{entered_none}
use Rattle.player.proofs.Ends.{rests_kept, snapshot_unspent, among_none}

-- A full share

-- the answer of a share that is too small names what is used up
pub record IsFullAnswer (lay : Layout) (c : ℕ) (h : History) (answer : Answer) : Type 0 where
  pub what : Resource
  pub left : ℕ
  pub is : answer ≡ Full what left
  pub few : HasTooFew lay c h 1 what left

pub full_answer : (lay : Layout) (h : History) (c : ℕ) (left : Remaining) (answer : Answer) → IsShare lay h c left left.next_node left.next_scx → IsUpperEnd lay c left → TellsFull left answer → IsFullAnswer lay c h answer
full_answer lay h c left (Full what k) share upper full = record { what = what; left = k; is = refl; few = full_left lay h c left share upper what k full }
full_answer lay h c left answer share upper full = absurd full

-- The SCX of a set

-- what is said of the snapshots if the SCX of the command is refused: that of a `set` has been
-- taken now
abbrev pub linked_now : ClientView → Command → ℕ → Option History
linked_now v (SetOf field x) n = cond (eqb field.0 n) (Some v.past) (v.linked n)
linked_now v _ n = v.linked n

single_snap : (snap : Snap) (i : ℕ) → i < length (snap ∷ []) → snap_at (snap ∷ []) i ≡ snap
single_snap snap i p = rw (let e : i ≡ 0 = omega arith in e) refl

-- its LLX has just loaded the info of the cell
just_looked : (v : ClientView) (c : Client) (m : LlxRun) (next : Option SetField) (snap : Snap) → Answered v c (Llx m) next (ended.Llx (LlxSnapshot snap)) → IsLastLook c.pass.0 v.past v.start v.past snap.node.0
just_looked v c m next snap x =
    let y = x.answers.1 in
    record { row = y.row; before = y.before; is = y.is; since = subst (λ (s : History). Extends y.before s) x.works.begun y.since; last = subst (λ (h : History). IsLastStep c.pass.0 h LoadInfo snap.node.0 y.row y.before) (sym y.is) (last_now c.pass.0 y.before LoadInfo snap.node.0 y.row y.own y.kind (rw x.answers.0.node y.word)) }

-- a snapshot that an SCX follows is that of a set, and with it the SCX may begin
pub can_put : (v : ClientView) (old : Client) (kept : Kept) (m : LlxRun) (put : SetField) (snap : Snap) → IsSound v → (x : Answered v old (Llx m) (Some put) (ended.Llx (LlxSnapshot snap))) → kept.found ≡ set old.kept.found (node_of (LlxSnapshot snap)) (found_of (LlxSnapshot snap)) → CanPut v (linked_now v x.works.command) (record old { kept = kept }) (snap ∷ []) [] (snap.node.0, put.side) put.value
can_put v old kept m put snap sound x e = go x.works.command x.works.is x.works.run_of.1 x.few
  where
    unspent : IsUnspent v.layout old.pass.0 v.past snap v.past
    unspent = snapshot_unspent v old m (Some put) snap sound x

    go : (command : Command) → slice_get (commands v.calls old.pass.0) v.answered ≡ Some command → IsLlxOf command m.node.0 (Some put) → ((taken : ℕ) → length (taken_nodes v.past) ≤ taken → v.steps + 40 ≤ call_steps v command taken) → CanPut v (linked_now v command) (record old { kept = kept }) (snap ∷ []) [] (snap.node.0, put.side) put.value
    go (SetOf field y) is f few = record {
      mode = x.works.mode;
      rests = rests_kept v old kept m (Some put) (LlxSnapshot snap) (linked_now v (SetOf field y)) sound x e (λ n. rw (x.answers.0.node ∙ f.0) refl);
      others = λ n d. rw (ne_eqb field.0 n (λ q. d record { at = 0; within = omega arith; is = x.answers.0.node ∙ f.0 ∙ q })) refl;
      since = subst (λ (s : History). Extends v.past s) x.works.begun x.works.since;
      unwon = x.works.won;
      unspent = λ i p. (v.past, rw (single_snap snap i p) unspent);
      command = SetOf field y;
      is = is;
      moments = λ i p. record { moment = v.past; found = rw (single_snap snap i p) unspent.usable.found; source = rw (single_snap snap i p) (just_looked v old m (Some put) snap x) };
      took = x.works.took;
      serves = λ k z. record {
        called = z.called;
        covers = z.covers ∙ ap (λ (n : ℕ). n ∷ []) (x.answers.0.node ∙ f.0);
        finalizes = z.finalizes;
        node = z.node ∙ x.answers.0.node ∙ f.0;
        side = z.side ∙ f.1;
        value = z.value ∙ f.2;
      };
      few = λ taken. few (length (taken_nodes v.past)) (omega arith);
    }
    go command is f few = absurd f

-- what it answers then
pub told_put : (v : ClientView) (old new : Client) (kept : Kept) (m : LlxRun) (put : SetField) (snap : Snap) (answer : Option Answer) → (x : Answered v old (Llx m) (Some put) (ended.Llx (LlxSnapshot snap))) → Puts v (linked_now v x.works.command) (record old { kept = kept }) new answer → HasBeenTold v old new answer
told_put v old new kept m put snap None x p = record { same = record { pass = p.same.pass; number = p.same.number; next = p.same.next }; begin = p.begin; running = p.running; is = p.is; waits = p.waits }
told_put v old new kept m put snap (Some answer) x p = go x.works.command x.works.is x.works.run_of.1 p.2
  where
    go : (command : Command) → slice_get (commands v.calls old.pass.0) v.answered ≡ Some command → IsLlxOf command m.node.0 (Some put) → Rests (record v { linked = linked_now v command }) new → HasBeenTold v old new (Some answer)
    go (SetOf field y) is f rests =
        let w = full_answer v.layout v.past new.pass.0 (held new) answer rests.holds.share rests.holds.upper p.3 in
        subst (λ (a : Answer). HasBeenTold v old new (Some a)) (sym w.is)
        record {
          same = record { pass = p.0.pass; number = p.0.number; next = p.0.next };
          begin = p.1;
          command = SetOf field y;
          is = rw p.0.pass is;
          rests = record { stands = rests.stands; holds = rests.holds; none = rests.none };
          answers = tt;
          right = (w.few, rw (sym (x.answers.0.node ∙ f.0)) (rw x.answers.0.node x.answers.0.not_final), rw (p.0.pass, sym (x.answers.0.node ∙ f.0)) (just_looked v old m (Some put) snap x));
          entry = entered_none v.won x.works.won;
          tells = tt;
          took = rw p.0.pass (taken_nothing v old.pass.0 (held old) 1 1 x.works.holds.share x.works.took);
          late = λ turn e. rw p.1 (x.works.late turn e);
        }
    go command is f rests = absurd f

-- the same with what it has answered written out
pub answered_put : (v : ClientView) (c : Client) (m : LlxRun) (next : Option SetField) (put : SetField) (a : LlxAnswer) (snap : Snap) → next ≡ Some put → a ≡ LlxSnapshot snap → Answered v c (Llx m) next (ended.Llx a) → Answered v c (Llx m) (Some put) (ended.Llx (LlxSnapshot snap))
answered_put v c m next put a snap e d x = subst (λ t. Answered v c (Llx m) t (ended.Llx (LlxSnapshot snap))) e (subst (λ t. Answered v c (Llx m) next (ended.Llx t)) d x)

-- An SCX takes the next records of the share

-- an SCX over an update of these snapshots
pub put_of : (m : PutRun) (u : Update) (number : ℕ) (snaps : List Snap) (finalize : List NodeNo) (field : NodeNo × Side) (x : ℕ) → m.scx.update ≡ u → m.scx.call ≡ number → m.value ≡ x → u.snaps ≡ snaps → (snap_at snaps (update_field_index u)).node.0 ≡ field.0.0 → side_of u.plan.0 ≡ field.1 → ((j : ℕ) → j < length snaps → (plan_finalizes u.plan.0 j ≡ true) ↔ ListsNode finalize (snap_at snaps j).node.0) → IsPutOf m number (nodes_of snaps) (map (λ (n : NodeNo). n.0) finalize) (field.0.0, field.1) x
put_of m u number snaps finalize field x e k w is at side removed = record {
  called = k;
  covers = rw (e, is) refl;
  finalizes = rw (e, is) removed;
  node = rw (e, is) at;
  side = rw e side;
  value = w;
}

-- with them the SCX may begin
pub put_starts : (v : ClientView) (linked : ℕ → Option History) (c : Client) (snaps : List Snap) (removed : List ℕ) (field : ℕ × Side) (x : ℕ) (kept : Kept) (m : PutRun) → IsSound v → CanPut v linked c snaps removed field x → 0 < (held c).nodes → 0 < (held c).scx → ((n : ℕ) → kept_of kept n ≡ (if has_snap snaps n then None else kept_of c.kept n)) → IsUpdateOver m.scx.update → m.scx.update.snaps ≡ snaps → m.scx.update.fresh.0 ≡ (held c).next_node → m.scx.scx.0 ≡ (held c).next_scx → m.scx.at ≡ ScxStart → m.at ≡ PutStart → IsPutOf m c.number (nodes_of snaps) removed field x → put_left m ≤ 40 → Starts v (record c { share = Some (after_taking (held c)); kept = kept }) (Scx m) None
put_starts v linked c snaps removed field x kept m sound can some_node some_scx left over is fresh scx start at of bound = record {
  works = record {
    mode = can.mode;
    stands = record {
      is_pass = y.is_pass;
      tries = y.tries;
      number = y.number;
      place = y.place;
      kept = kept_without c.kept kept snaps left v.layout c.pass.0 v.past linked v.linked can.others y.kept;
      unkept = λ n i d. rw is (unkept_without c.kept kept snaps left linked v.linked can.others (λ n i d. ⊎_elim (λ z. absurd (among_none n z)) (λ z. z) (y.unkept n i d)) n i d);
      dropped = λ n z. dropped c.kept kept snaps left n (rw is at z);
      free = λ map. absurd (let z : false ≡ true = sym (ap is_map can.mode) ∙ map in cc);
      trie = can.rests.stands.trie;
    };
    holds = record {
      some = refl;
      share = rw (fresh, scx) (taken_share v.layout v.past c.pass.0 (held c) some_node some_scx h.share);
      upper = same_end (held c) some_node some_scx ∙ h.upper;
      over = rw scx h.over;
    };
    newest = (omega (arith, fresh), omega (arith, scx), real);
    command = can.command;
    is = can.is;
    run_of = can.serves m of;
    limit = tt;
    is_pass = y.is_pass;
    start = v.past;
    since = ends_self v.past;
    begun = can.since;
    moments = rw is can.moments;
    alone = rw is (λ i p. let z = can.unspent i p in z.1.alone);
    took = rw (fresh, scx) record { nodes = can.took.nodes; scx_records = can.took.scx_records };
    room = (
      record {
        node_number = (held c).next_node;
        own_node = own_next_node;
        free_node = λ t. h.share.untaken_nodes (held c).next_node own_next_node (omega arith) (taken_node_since v.past v.start (held c).next_node can.since t);
        scx_number = (held c).next_scx;
        own_scx = own_next_scx;
        free_scx = fresh_scx;
      },
      rw scx fresh_scx,
    );
    won = record { own = own; yes = λ w. absurd (unwon w); no = λ w. can.unwon };
    late = λ turn e. let d = can.unwon in absurd (let z : v.won ≡ Some turn = e in cc);
  };
  none = can.rests.none;
  ready = put_ready_first v.layout c.pass.0 c.number y.is_pass v.past m sound.lawful over (λ i p. rw is (let z = can.unspent i (rw is at p) in (z.0, z.1.usable))) at start own
      (rw scx h.share.taken_scx) free
      (rw fresh own_next_node)
      (rw fresh h.share.taken_nodes) (rw fresh (h.share.unmentioned (held c).next_node own_next_node (omega arith))) (rw fresh (h.share.untaken_nodes (held c).next_node own_next_node (omega arith))) (all_over v.layout v.past c.pass.0 (held c) _ _ h.share h.over);
  few = λ taken i. let few = can.few taken in omega (arith, bound);
}
  where
    y : IsClientState (record v { linked = linked }) c (no_hand (held c))
    y = can.rests.stands

    h : HoldsShare (record v { linked = linked }) c (no_hand (held c))
    h = can.rests.holds

    own_next_node : IsOwnNode v.layout c.pass.0 (held c).next_node
    own_next_node = left_own_node v.layout v.past c.pass.0 (held c) _ _ (held c).next_node h.share record { from = omega arith; below = omega arith }

    own_next_scx : IsOwnScx v.layout c.pass.0 (held c).next_scx
    own_next_scx = left_own_scx v.layout v.past c.pass.0 (held c) _ _ (held c).next_scx h.share record { from = omega arith; below = omega arith }

    fresh_scx : ¬ IsTakenScx v.start (held c).next_scx
    fresh_scx t = h.share.untaken (held c).next_scx own_next_scx (omega arith) (taken_since v.past v.start (held c).next_scx can.since t)

    own : IsOwnScx v.layout c.pass.0 m.scx.scx.0
    own = rw scx own_next_scx

    real : m.scx.scx.0 ≡ 0 → ⊥
    real e = let a = own.from in omega arith

    free : ¬ IsTakenScx v.past m.scx.scx.0
    free = rw scx (h.share.untaken (held c).next_scx own_next_scx (omega arith))

    unwon : ¬ HasWon v.past m.scx.scx.0
    unwon = (free_unnamed v.layout v.past c.pass.0 m.scx.scx.0 sound.lawful own free).1

puts : (v : ClientView) (linked : ℕ → Option History) (old : Client) (share : Option Remaining) (kept : Kept) (new : Client) (answer : Option Answer) → answer ≡ None → BeginsOrRefuses v old.begin (record old { share = share; kept = kept }) new answer → Puts v linked old new answer
puts v linked old share kept new None e x = record { same = record { pass = x.0.pass; number = x.0.number; next = x.0.next }; begin = x.1; running = x.2.0; is = x.2.1; waits = x.2.2 }
puts v linked old share kept new (Some answer) e x = absurd cc

-- an SCX asks for a step first
pub put_runs : (v : ClientView) (linked : ℕ → Option History) (old mid : Client) (kept : Kept) (new : Client) (m : PutRun) (answer : Option Answer) → mid ≡ record old { share = Some (after_taking (held old)) } → (Starts v (record mid { kept = kept }) (Scx m) None → (answer ≡ None) × BeginsOrRefuses v mid.begin (record mid { kept = kept }) new answer) → Starts v (record old { share = Some (after_taking (held old)); kept = kept }) (Scx m) None → Puts v linked old new answer
put_runs v linked old mid kept new m answer e f starts =
    let x = subst (λ (n : Client). Starts v (record n { kept = kept }) (Scx m) None → (answer ≡ None) × BeginsOrRefuses v n.begin (record n { kept = kept }) new answer) e f starts in
    puts v linked old (Some (after_taking (held old))) kept new answer x.0 x.1
