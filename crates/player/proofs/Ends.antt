-- How calls end: what their answers say, and what is left to the client.
use Rattle.std.proofs.Common.{◌≡◌, ◌≢◌, ℕ, zero, suc, ◌<◌, ◌≤◌, ◌⊎◌, inl, inr, ⊎_elim, Bool, true, false, cond, ◌||◌, eqb, List, [], ◌∷◌, length, get_or, slice_get, Option, Some, None, IsSome, refl, sym, ◌∙◌, ap, subst, arith}
use Rattle.std.proofs.Math.ListN.{set}
use Rattle.std.specs.List.{Contains}
use Rattle.arena.specs.Opening.{is_map}
use Rattle.histories.specs.Common.{NodeNo, ScxNo, state, Kind, Freeze, LoadInfo, IsTakenScx, History, value, Extends, WasInTheWay, HasFailed, log, is_final, has, Records, Remaining}
use Rattle.arena.proofs.Lemmas.{found_wider, ends_self}
use Rattle.histories.proofs.Lemmas.{aborted_never_won, committed_won, finished_taken}
use Rattle.template.specs.Common.{HasChanged, IsAmong, PutAnswers, snap_at, VlxAnswers, Snap, LlxRun, PutRun, VlxRun, Llx as LlxAnswer, Scx as ScxAnswer, Vlx as VlxAnswer, Snapshot as LlxSnapshot}
use Rattle.template.specs.Common.{Finalized as LlxFinalized, Fail as LlxFail, Done as ScxDone, Lost as ScxLost, Same as VlxSame, Changed as VlxChanged, MayReply, form_of, nodes_of}
use Rattle.prims.specs.Moments.{IsMoment, IsAsFound, AreLeftAlone}
use Rattle.prims.proofs.Lemmas.{alone_now, over_begins, over_ends, share_ends, all_idle, usable_now, among, put_finished}
use Rattle.record.specs.Common.{Command, Llx as LlxOf, Scx as ScxOf, Vlx as VlxOf, Set as SetOf, Map as MapOf, cells_of, update_cells, Reply, MayAnswerAfterStep}
use Rattle.record.specs.Common.{HasTakenFew, enters, IsRight, MapCall, number_reply, map_request, Request, IsLastLook, AreLinked, IsInTheWay, IsAsSnapped, HasItsEntry}
use Rattle.player.specs.declared.run.Run.{Run}
use Rattle.player.specs.declared.run.Run.TheVariants.{Llx, Scx, Vlx, Map}
use Rattle.player.specs.declared.run.Ended.{Ended}
use Rattle.player.specs.declared.run.Ended.TheVariants as ended
use Rattle.player.specs.declared.client.Client.{Client}
use Rattle.player.specs.declared.client.SetField.{SetField}
use Rattle.player.specs.declared.kept.Kept.{Kept}
use Rattle.player.specs.declared.kept.KeptSnapshot.{KeptSnapshot}
use Rattle.record.specs.declared.record.Answer.{Answer}
use Rattle.record.specs.declared.record.Answer.TheVariants.{Map as MapAnswer}
use Rattle.player.specs.KeptSnaps.{IsUnspent, kept_of, node_of, found_of, parts, snap_of}
use Rattle.record.specs.Shares.{HasTakenAtMost}
use Rattle.dict.specs.Calls.{AsksForPairs, HasSpent, share_of}
use Rattle.dict.specs.DictKnown.{DictAnswers, DictRefuses}
use Rattle.dict.specs.Says.{TellsOfMap}
use Rattle.prims.specs.Shares.{IsUpperEnd}
use Rattle.edits.specs.Known.{RestsWith}
use Rattle.player.specs.Allowed.{FitsTwoWords, IsSmall}
use Rattle.player.proofs.MapEnds.{IsRightEnd, map_ends, entered_some, entered_none}
use Rattle.record.specs.Snapshots.{IsBehindAll}
use Rattle.record.specs.Answers.{HasRoom}
use Rattle.player.specs.RunKnown.{answer_of}
use Rattle.player.specs.ClientView.{ClientView, IsSound, IsLlxOf, IsScxOf, IsVlxOf, Hand, no_hand, in_hand, held, HoldsShare, HaveMoments, AnswersRight, command_of, IsClientState, Rests, Answered, EndsCall, machine_call, linked_by}
use Rattle.player.proofs.Puts.{put_committed, put_aborted}
use Rattle.player.proofs.Snapshots.{has_snap, snap_there, snap_found, kept_after, unkept_after}
use Rattle.player.proofs.Over.{taken_one, taken_nothing, map_took}

-- Nodes of snapshots

-- no snapshot is among none
pub among_none : (n : ℕ) → IsAmong [] n → ⊥
among_none n x = let i = x.within in omega arith

-- a list of nodes has those of its snapshots
pub has_nodes : (snaps : List Snap) (n : ℕ) → has (nodes_of snaps) n ≡ has_snap snaps n
has_nodes [] n = refl
has_nodes (snap ∷ snaps) n = ap (λ b. eqb snap.node.0 n || b) (has_nodes snaps n)

contains_node : (snaps : List Snap) (i : ℕ) → i < length snaps → Contains (nodes_of snaps) (snap_at snaps i).node.0
contains_node [] i p = absurd (omega arith)
contains_node (snap ∷ snaps) zero p = (0, omega arith, refl)
contains_node (snap ∷ snaps) (suc i) p = let x = contains_node snaps i (omega arith) in (suc x.0, omega (arith, x.1), x.2)

-- what is said of the snapshots once those of some nodes are dropped
record IsDropped (snaps : List Snap) (old new : ℕ → Option History) : Type 0 where
  gone : (n : ℕ) → IsAmong snaps n → new n ≡ None
  others : (n : ℕ) → (IsAmong snaps n → ⊥) → new n ≡ old n

drop_nodes : (snaps : List Snap) (nodes : List ℕ) (old : ℕ → Option History) → nodes_of snaps ≡ nodes → IsDropped snaps old (λ n. cond (has nodes n) None (old n))
drop_nodes snaps nodes old e = record {
  gone = λ n x. rw (there n x) refl;
  others = λ n d. go n (has nodes n) refl d;
}
  where
    there : (n : ℕ) → IsAmong snaps n → has nodes n ≡ true
    there n x = rw (sym e) (has_nodes snaps n ∙ snap_found snaps n x.at x.within x.is)

    go : (n : ℕ) (b : Bool) → has nodes n ≡ b → (IsAmong snaps n → ⊥) → cond b None (old n) ≡ old n
    go n false p d = refl
    go n true p d = absurd (d (snap_there snaps n (sym (has_nodes snaps n) ∙ rw e p)))

-- the same for one node
drop_one : (snaps : List Snap) (node : ℕ) (old : ℕ → Option History) → nodes_of snaps ≡ node ∷ [] → IsDropped snaps old (λ n. cond (eqb node n) None (old n))
drop_one snaps node old e = record { gone = λ n x. single n ∙ x_gone n x; others = λ n d. single n ∙ x.others n d }
  where
    x : IsDropped snaps old (λ n. cond (has (node ∷ []) n) None (old n))
    x = drop_nodes snaps (node ∷ []) old e

    x_gone : (n : ℕ) → IsAmong snaps n → cond (has (node ∷ []) n) None (old n) ≡ None
    x_gone n y = x.gone n y

    single : (n : ℕ) → cond (eqb node n) None (old n) ≡ cond (has (node ∷ []) n) None (old n)
    single n = go (eqb node n)
      where
        go : (b : Bool) → cond b None (old n) ≡ cond (b || false) None (old n)
        go true = refl
        go false = refl

-- The end of an SCX

-- what an SCX answers
record IsOutcome (v : ClientView) (c : ℕ) (snaps : List Snap) (command : Command) (answer : Answer) : Type 0 where
  answers : MayAnswerAfterStep command answer
  right : IsRight v.layout v.tries c v.past v.start v.linked command answer
  entry : HasItsEntry (enters command answer) v.won
  tells : AnswersRight v c command answer
  took : HasTakenFew v.layout v.tries c v.past v.start command
  drops : IsDropped snaps v.linked (linked_by v command answer)

-- one of the nodes was changed by another client
blamed_is : (kind : Kind) (v : ClientView) (c : Client) (command : Command) (snaps : List Snap) (nodes : List ℕ) (start : History) → Extends start v.start → (node scx : ℕ) (IsSuch : History → Type 0) → nodes_of snaps ≡ nodes → HaveMoments v c.pass.0 command snaps → AreLeftAlone v.layout c.pass.0 start snaps → ((i : ℕ) → i < length snaps → (snap_at snaps i).node.0 ≡ node → (moment : History) × IsMoment v.layout v.past (snap_at snaps i) moment × IsSuch moment) → HasChanged v.layout c.pass.0 kind v.past start snaps node scx → IsInTheWay v.layout c.pass.0 v.past v.start kind nodes node scx IsSuch
blamed_is kind v c command snaps nodes start since node scx IsSuch e x alone f b =
    let y = f b.index b.within b.is in
    record {
      among = subst (λ (n : ℕ). Contains nodes n) b.is (subst (λ (l : List ℕ). Contains l (snap_at snaps b.index).node.0) e (contains_node snaps b.index b.within));
      moment = y.0;
      of_snapshot = y.2;
      way = subst (λ (n : ℕ). WasInTheWay v.past y.0 n scx) b.is (b.blamed.in_the_way y.0 y.1);
      found = found_wider c.pass.0 v.past start v.start kind node scx since b.found;
      others = b.blamed.others (alone b.index b.within);
    }

-- where there is one node, each snapshot is of that
only_node : (snaps : List Snap) (n i : ℕ) → nodes_of snaps ≡ n ∷ [] → i < length snaps → (snap_at snaps i).node.0 ≡ n
only_node [] n i e p = absurd (omega arith)
only_node (snap ∷ []) n i e p = rw (let z : i ≡ 0 = omega arith in z) (let z : snap.node.0 ≡ n = cc in z)
only_node (snap ∷ next ∷ snaps) n i e p = cc

-- of each node a snapshot is kept
pub are_linked : (v : ClientView) (c : Client) (command : Command) (snaps : List Snap) (nodes : List ℕ) → nodes_of snaps ≡ nodes → ((i : ℕ) → i < length snaps → (moment : History) × (v.linked (snap_at snaps i).node.0 ≡ Some moment)) → AreLinked v.linked nodes
are_linked v c command snaps nodes e f n q =
    let i = among snaps n (rw (sym e) at q) in
    let z = f i.at i.within in
    subst (λ (m : Option History). IsSome m) (sym (subst (λ (k : ℕ). v.linked k ≡ Some z.0) i.is z.1)) refl

-- what the answer of an SCX says
scx_outcome : (v : ClientView) (c : Client) (command : Command) (m : PutRun) (then : Option SetField) (a : ScxAnswer) (start : History) → Extends start v.start → (is_pass : c.pass.0 < v.layout.passes) → IsScxOf command c.number m then → HaveMoments v c.pass.0 command m.scx.update.snaps → AreLeftAlone v.layout c.pass.0 start m.scx.update.snaps → HasRoom v.layout c.pass.0 v.start → (a ≡ ScxDone → (turn : ℕ) × (v.won ≡ Some turn)) → (a ≢ ScxDone → v.won ≡ None) → HasTakenAtMost v.layout c.pass.0 v.past v.start 1 1 → PutAnswers m (machine_call v c is_pass start) v.past a → IsOutcome v c.pass.0 m.scx.update.snaps command (answer_of (ended.Scx a))
scx_outcome v c (ScxOf update) m None ScxDone start since is_pass x moments alone room done lost took y = record {
  answers = tt;
  right = room;
  entry = entered_some v.won (done refl).0 (done refl).1;
  tells = tt;
  took = took;
  drops = drop_nodes m.scx.update.snaps (update_cells update) v.linked x.covers;
}
scx_outcome v c (SetOf field value) m None ScxDone start since is_pass x moments alone room done lost took y = record {
  answers = tt;
  right = room;
  entry = entered_some v.won (done refl).0 (done refl).1;
  tells = tt;
  took = took;
  drops = drop_one m.scx.update.snaps field.0 v.linked x.covers;
}
scx_outcome v c (ScxOf update) m None (ScxLost node scx) start since is_pass x moments alone room done lost took y = record {
  answers = tt;
  right = (
    are_linked v c (ScxOf update) m.scx.update.snaps (update_cells update) x.covers (λ i p. let z = moments i p in (z.moment, z.source)),
    room,
    blamed_is Freeze v c (ScxOf update) m.scx.update.snaps (update_cells update) start since node.0 scx.0 (λ moment. v.linked node.0 ≡ Some moment) x.covers moments alone
        (λ i p e. let z = moments i p in (z.moment, z.found, subst (λ (n : ℕ). v.linked n ≡ Some z.moment) e z.source))
        y.1.changed,
  );
  entry = entered_none v.won (lost (λ e. cc));
  tells = tt;
  took = took;
  drops = drop_nodes m.scx.update.snaps (update_cells update) v.linked x.covers;
}
scx_outcome v c (SetOf field value) m None (ScxLost node scx) start since is_pass x moments alone room done lost took y = record {
  answers = tt;
  right = (
    room,
    blamed_is Freeze v c (SetOf field value) m.scx.update.snaps (field.0 ∷ []) start since node.0 scx.0 (λ moment. IsLastLook c.pass.0 v.past v.start moment field.0 × (is_final (log v.layout moment) field.0 ≡ false)) x.covers moments alone
        (λ i p e. let z = moments i p in (z.moment, z.found, subst (λ (n : ℕ). IsLastLook c.pass.0 v.past v.start z.moment n × (is_final (log v.layout z.moment) n ≡ false)) (only_node m.scx.update.snaps field.0 i x.covers p) (z.source, z.found.not_final)))
        y.1.changed,
  );
  entry = entered_none v.won (lost (λ e. cc));
  tells = tt;
  took = took;
  drops = drop_one m.scx.update.snaps field.0 v.linked x.covers;
}
scx_outcome v c command m then a start since is_pass x moments alone room done lost took y = absurd x

-- a client whose SCX has ended drops its snapshots
stands_scx : (v : ClientView) (c : Client) (m : PutRun) (linked : ℕ → Option History) → IsDropped m.scx.update.snaps v.linked linked → IsClientState v c (in_hand (held c) (Scx m)) → IsClientState (record v { linked = linked }) c (no_hand (held c))
stands_scx v c m linked drops y = record {
  is_pass = y.is_pass;
  tries = y.tries;
  number = y.number;
  place = y.place;
  kept = λ n found e. kept n found e;
  unkept = λ n i e. ⊎_elim (λ z. inr (drops.gone n z)) (λ z. inr (unkept n i e z)) (y.unkept n i e);
  dropped = λ n z. absurd (among_none n z);
  free = y.free;
  trie = y.trie;
}
  where
    -- what is still kept is not of those snapshots
    other : (n : ℕ) (found : KeptSnapshot) → kept_of c.kept n ≡ Some found → IsAmong m.scx.update.snaps n → ⊥
    other n found e z = let none : kept_of c.kept n ≡ None = y.dropped n z in let some : kept_of c.kept n ≡ Some found = e in cc

    kept : (n : ℕ) (found : KeptSnapshot) → kept_of c.kept n ≡ Some found → (moment : History) × (linked n ≡ Some moment) × IsUnspent v.layout c.pass.0 v.past (snap_of n found) moment
    kept n found e = let z = y.kept n found e in (z.0, drops.others n (other n found e) ∙ z.1, z.2)

    unkept : (n : ℕ) → n ≤ 8 → kept_of c.kept n ≡ None → v.linked n ≡ None → linked n ≡ None
    unkept n i e z = go (has_snap m.scx.update.snaps n) refl
      where
        go : (b : Bool) → has_snap m.scx.update.snaps n ≡ b → linked n ≡ None
        go true q = drops.gone n (snap_there m.scx.update.snaps n q)
        go false q = drops.others n (λ w. let t : has_snap m.scx.update.snaps n ≡ true = snap_found m.scx.update.snaps n w.at w.within w.is in cc) ∙ z

-- its SCX-record is taken, and finished
scx_finished : (v : ClientView) (c : Client) (m : PutRun) (then : Option SetField) (a : ScxAnswer) → Answered v c (Scx m) then (ended.Scx a) → value v.past (state m.scx.scx.0) ≢ 0
scx_finished v c m then a x = put_finished m (machine_call v c x.works.is_pass x.works.start) v.past a x.answers

scx_taken : (v : ClientView) (c : Client) (m : PutRun) (then : Option SetField) (a : ScxAnswer) → IsSound v → Answered v c (Scx m) then (ended.Scx a) → IsTakenScx v.past m.scx.scx.0
scx_taken v c m then a sound x = finished_taken v.layout v.past m.scx.scx.0 sound.lawful x.works.newest.2 (scx_finished v c m then a x)

-- and the client has taken what it had in hand
holds_scx : (v : ClientView) (c : Client) (m : PutRun) (then : Option SetField) (a : ScxAnswer) (linked : ℕ → Option History) → IsSound v → Answered v c (Scx m) then (ended.Scx a) → HoldsShare (record v { linked = linked }) c (no_hand (held c))
holds_scx v c m then a linked sound x = record {
  some = x.works.holds.some;
  share = share_ends v.layout v.past c.pass.0 (held c) m.scx.update.fresh.0 m.scx.scx.0 x.works.newest.0 x.works.newest.1 x.answers.0.taken (scx_taken v c m then a sound x) x.works.holds.share;
  upper = x.works.holds.upper;
  over = over_begins v.layout c.pass.0 (held c).next_scx v.past (over_ends v.layout c.pass.0 m.scx.scx.0 v.past x.works.holds.over (scx_finished v c m then a x));
}

-- the call of an SCX ends with its answer
ends_scx : (v : ClientView) (c : Client) (run : Run) (then : Option SetField) (a : ScxAnswer) → IsSound v → Answered v c run then (ended.Scx a) → EndsCall v c c (answer_of (ended.Scx a))
ends_scx v c (Scx m) then a sound x =
    record {
      same = record { pass = refl; number = refl; next = refl };
      begin = refl;
      command = x.works.command;
      is = x.works.is;
      rests = record { stands = stands_scx v c m (linked_by v x.works.command (answer_of (ended.Scx a))) o.drops x.works.stands; holds = holds_scx v c m then a (linked_by v x.works.command (answer_of (ended.Scx a))) sound x; none = x.none };
      answers = o.answers;
      right = o.right;
      entry = o.entry;
      tells = o.tells;
      took = o.took;
      late = x.works.late;
    }
  where
    done : (a : ScxAnswer) → PutAnswers m (machine_call v c x.works.is_pass x.works.start) v.past a → a ≡ ScxDone → (turn : ℕ) × (v.won ≡ Some turn)
    done ScxDone y e = x.works.won.yes (committed_won v.layout v.past m.scx.scx.0 sound.lawful (put_committed m (machine_call v c x.works.is_pass x.works.start) v.past y))
    done (ScxLost node scx) y e = cc

    lost : (a : ScxAnswer) → PutAnswers m (machine_call v c x.works.is_pass x.works.start) v.past a → a ≢ ScxDone → v.won ≡ None
    lost ScxDone y d = absurd (d refl)
    lost (ScxLost node scx) y d = x.works.won.no (aborted_never_won v.layout v.past m.scx.scx.0 sound.lawful (put_aborted m (machine_call v c x.works.is_pass x.works.start) v.past node scx y))

    o : IsOutcome v c.pass.0 m.scx.update.snaps x.works.command (answer_of (ended.Scx a))
    o = scx_outcome v c x.works.command m then a x.works.start x.works.begun x.works.is_pass x.works.run_of x.works.moments x.works.alone x.works.room.0 (done a x.answers) (lost a x.answers) (taken_one v c.pass.0 _ x.works.won.own x.works.room.1 (scx_taken v c m then a sound x) x.works.took) x.answers
ends_scx v c run then a sound x = absurd x.answers

-- The end of a VLX

-- the cell of a snapshot, by its place
cell_there : (snaps : List Snap) (i : ℕ) → i < length snaps → slice_get (nodes_of snaps) i ≡ Some (snap_at snaps i).node.0
cell_there [] i p = absurd (omega arith)
cell_there (snap ∷ snaps) zero p = refl
cell_there (snap ∷ snaps) (suc i) p = cell_there snaps i (omega arith)

cell_is : (snaps : List Snap) (i : ℕ) → i < length snaps → get_or (nodes_of snaps) i 0 ≡ (snap_at snaps i).node.0
cell_is [] i p = absurd (omega arith)
cell_is (snap ∷ snaps) zero p = refl
cell_is (snap ∷ snaps) (suc i) p = cell_is snaps i (omega arith)

-- it names the first that was changed
first_changed : (v : ClientView) (c : ℕ) (cells : _) (snaps : List Snap) (node index : ℕ) → nodes_of snaps ≡ cells_of cells → HaveMoments v c (VlxOf cells) snaps → index < length snaps → (snap_at snaps index).node.0 ≡ node → ((i : ℕ) → i < index → IsAsFound v.layout v.past v.start (snap_at snaps i)) → IsBehindAll (IsAsSnapped v.layout v.start v.linked) (cells_of cells) node
first_changed v c cells snaps node index e moments within is found =
    subst (λ (l : List ℕ). IsBehindAll (IsAsSnapped v.layout v.start v.linked) l node) e
    record { place = index; is = cell_there snaps index within ∙ ap (λ (n : ℕ). Some n) is; before = before }
  where
    before : (i : ℕ) → i < index → IsAsSnapped v.layout v.start v.linked (get_or (nodes_of snaps) i 0)
    before i p =
        let z = moments i (omega (arith, within)) in
        let w = found i p in
        subst (IsAsSnapped v.layout v.start v.linked) (sym (cell_is snaps i (omega (arith, within)))) (z.moment, z.source, record { same = w.last z.moment z.found; not_final = w.not_final })

-- what the answer of a VLX says: it leaves the snapshots
vlx_outcome : (v : ClientView) (c : Client) (command : Command) (m : VlxRun (List Snap)) (then : Option SetField) (a : VlxAnswer) → IsVlxOf command m.snaps then → HaveMoments v c.pass.0 command m.snaps → AreLeftAlone v.layout c.pass.0 v.start m.snaps → v.won ≡ None → HasTakenAtMost v.layout c.pass.0 v.past v.start 0 0 → (is_pass : c.pass.0 < v.layout.passes) → VlxAnswers m.snaps (machine_call v c is_pass v.start) v.past a → IsOutcome v c.pass.0 [] command (answer_of (ended.Vlx a))
vlx_outcome v c (VlxOf cells) m None VlxSame x moments alone won took is_pass y = record {
  answers = tt;
  right = λ n q. same n (rw (sym x) at q);
  entry = entered_none v.won won;
  tells = tt;
  took = took;
  drops = record { gone = λ n z. absurd (among_none n z); others = λ n z. refl };
}
  where
    same : (n : ℕ) → Contains (nodes_of m.snaps) n → IsAsSnapped v.layout v.start v.linked n
    same n q =
        let i = among m.snaps n q in
        let z = moments i.at i.within in
        let w = y.found i.at i.within in
        subst (IsAsSnapped v.layout v.start v.linked) i.is (z.moment, z.source, record { same = w.last z.moment z.found; not_final = w.not_final })
vlx_outcome v c (VlxOf cells) m None (VlxChanged node scx) x moments alone won took is_pass y = record {
  answers = tt;
  right = (
    are_linked v c (VlxOf cells) m.snaps (cells_of cells) x (λ i p. let z = moments i p in (z.moment, z.source)),
    blamed_is LoadInfo v c (VlxOf cells) m.snaps (cells_of cells) v.start (ends_self v.start) node.0 scx.0 (λ moment. v.linked node.0 ≡ Some moment) x moments alone
        (λ i p e. let z = moments i p in (z.moment, z.found, subst (λ (n : ℕ). v.linked n ≡ Some z.moment) e z.source))
        y.changed,
    first_changed v c.pass.0 cells m.snaps node.0 y.changed.index x moments y.changed.within y.changed.is y.before,
  );
  entry = entered_none v.won won;
  tells = tt;
  took = took;
  drops = record { gone = λ n z. absurd (among_none n z); others = λ n z. refl };
}
vlx_outcome v c command m then a x moments alone won took is_pass y = absurd x

-- what is said of the snapshots as before leaves a client at rest
rests_as : (v : ClientView) (c : Client) (linked : ℕ → Option History) → IsDropped [] v.linked linked → IsClientState v c (no_hand (held c)) → IsClientState (record v { linked = linked }) c (no_hand (held c))
rests_as v c linked drops x = record {
  is_pass = x.is_pass;
  tries = x.tries;
  number = x.number;
  place = x.place;
  kept = λ n found e. let z = x.kept n found e in (z.0, drops.others n (among_none n) ∙ z.1, z.2);
  unkept = λ n i e. ⊎_elim (λ z. inl z) (λ z. inr (drops.others n (among_none n) ∙ z)) (x.unkept n i e);
  dropped = x.dropped;
  free = x.free;
  trie = x.trie;
}

-- nor does what it holds of its share
holds_as : (v : ClientView) (c : Client) (linked : ℕ → Option History) (hand : Hand) → HoldsShare v c hand → HoldsShare (record v { linked = linked }) c hand
holds_as v c linked hand x = record { some = x.some; share = x.share; upper = x.upper; over = x.over }

-- a call ends with this answer, which leaves what the client has
ends_as : (v : ClientView) (c : Client) (command : Command) (answer : Answer) → command_of v c ≡ Some command → IsClientState v c (no_hand (held c)) → HoldsShare v c (no_hand (held c)) → c.running ≡ None → IsOutcome v c.pass.0 [] command answer → ((turn : ℕ) → v.won ≡ Some turn → c.begin ≤ turn) → EndsCall v c c answer
ends_as v c command answer is stands holds none o late = record {
  same = record { pass = refl; number = refl; next = refl };
  begin = refl;
  command = command;
  is = is;
  rests = record { stands = rests_as v c (linked_by v command answer) o.drops stands; holds = holds_as v c (linked_by v command answer) (no_hand (held c)) holds; none = none };
  answers = o.answers;
  right = o.right;
  entry = o.entry;
  tells = o.tells;
  took = o.took;
  late = late;
}

ends_vlx : (v : ClientView) (c : Client) (run : Run) (then : Option SetField) (a : VlxAnswer) → Answered v c run then (ended.Vlx a) → EndsCall v c c (answer_of (ended.Vlx a))
ends_vlx v c (Vlx m) then a x =
    let y = subst (λ (k : History). VlxAnswers m.snaps (machine_call v c x.works.is_pass k) v.past a) x.works.begun x.answers in
    let alone = subst (λ (k : History). AreLeftAlone v.layout c.pass.0 k m.snaps) x.works.begun x.works.alone in
    ends_as v c x.works.command (answer_of (ended.Vlx a)) x.works.is x.works.stands x.works.holds x.none
    (vlx_outcome v c x.works.command m then a x.works.run_of x.works.moments alone x.works.won (taken_nothing v c.pass.0 (held c) 0 0 x.works.holds.share x.works.took) x.works.is_pass y)
    x.works.late
ends_vlx v c run then a x = absurd x.answers

-- The end of a call of the map

-- it leaves the snapshots
map_leaves : (v : ClientView) (request : Request ℕ ℕ) (answer : Answer) (n : ℕ) → linked_by v (MapOf request) answer n ≡ v.linked n
map_leaves v request answer n = refl

map_outcome : (v : ClientView) (c : Client) (request : Request ℕ ℕ) (answer : Answer) → IsRightEnd v c.pass.0 (MapOf request) answer → HasTakenFew v.layout v.tries c.pass.0 v.past v.start (MapOf request) → IsOutcome v c.pass.0 [] (MapOf request) answer
map_outcome v c request answer x took = record { answers = x.answers; right = x.right; entry = x.entry; tells = x.tells; took = took; drops = record { gone = λ n z. absurd (among_none n z); others = λ n z. map_leaves v request answer n } }

-- the share is the client's again
holds_back : (v : ClientView) (c : Client) (share : Remaining) (is_pass : c.pass.0 < v.layout.passes) → c.share ≡ Some share → RestsWith (machine_call v c is_pass v.start) v.past share → IsUpperEnd v.layout c.pass.0 share → HoldsShare v c (no_hand (held c))
holds_back v c share is_pass back rests upper = record {
  some = rw back refl;
  share = rw back rests.share;
  upper = rw back upper;
  over = rw back (over_begins v.layout c.pass.0 share.next_scx v.past rests.over);
}

ends_map : (v : ClientView) (c : Client) (run : Run) (then : Option SetField) (a : Reply ℕ ℕ) → Answered v c run then (ended.Map a) → EndsCall v c c (answer_of (ended.Map a))
ends_map v c (Map m) then a x =
    let works = x.works in
    let request = works.run_of.request in
    let of = works.run_of.called in
    let share = share_of m.run in
    let call = machine_call v c works.is_pass v.start in
    let answers : DictAnswers IsSmall (λ k. k) FitsTwoWords (λ w. w) m call v.past a = subst (λ (k : History). DictAnswers IsSmall (λ k. k) FitsTwoWords (λ w. w) m (machine_call v c works.is_pass k) v.past a) works.begun x.answers in
    let refuses : DictRefuses call v.past (map_request request) share m.tries a = subst (λ (k : MapCall). DictRefuses call v.past k share m.tries a) of answers.refuses in
    let spent : HasSpent call v.past (map_request request) m.tries share = subst (λ (k : MapCall). HasSpent call v.past k m.tries share) of answers.spent in
    let right =
    map_ends v c works.is_pass works.won request a share (subst AsksForPairs of works.run_of.asks) (answers.rests, works.holds)
    (subst (λ (k : MapCall). MayReply k (form_of a)) of answers.form)
    (subst (λ (k : MapCall). TellsOfMap call v.past k (number_reply a)) of answers.tells)
    (subst (λ (n : ℕ). DictRefuses call v.past (map_request request) share n a) works.limit refuses) in
    let took =
    map_took call v.past request v.tries share (subst (λ (k : History). Extends v.past k) works.begun works.since) answers.rests
    (subst (λ (n : ℕ). HasSpent call v.past (map_request request) n share) works.limit spent) in
    ends_as v c works.command (MapAnswer a) works.is works.stands (holds_back v c share works.is_pass x.back answers.rests works.holds) x.none
    (subst (λ (k : Command). IsOutcome v c.pass.0 [] k (MapAnswer a)) (sym works.run_of.is) (map_outcome v c request (MapAnswer a) right took))
    works.late
ends_map v c run then a x = absurd x.answers

-- what has ended is the call of a machine other than an LLX
pub ends_other : (v : ClientView) (c : Client) (run : Run) (then : Option SetField) (end : Ended) → ((a : LlxAnswer) → end ≢ ended.Llx a) → IsSound v → Answered v c run then end → EndsCall v c c (answer_of end)
ends_other v c run then (ended.Llx a) d sound x = absurd (d a refl)
ends_other v c run then (ended.Scx a) d sound x = ends_scx v c run then a sound x
ends_other v c run then (ended.Vlx a) d sound x = ends_vlx v c run then a x
ends_other v c run then (ended.Map a) d sound x = ends_map v c run then a x

-- The end of an LLX

-- the node of its answer is the one that it looked at
answer_node : (v : ClientView) (c : Client) (m : LlxRun) (then : Option SetField) (a : LlxAnswer) → Answered v c (Llx m) then (ended.Llx a) → node_of a ≡ m.node.0
answer_node v c m then (LlxSnapshot snap) x = x.answers.0.node
answer_node v c m then (LlxFinalized node scx) x = x.answers.0
answer_node v c m then (LlxFail node scx) x = x.answers.0

-- its snapshot may be used from now on, and is unspent
pub snapshot_unspent : (v : ClientView) (c : Client) (m : LlxRun) (then : Option SetField) (snap : Snap) → IsSound v → Answered v c (Llx m) then (ended.Llx (LlxSnapshot snap)) → IsUnspent v.layout c.pass.0 v.past snap v.past
snapshot_unspent v c m then snap sound x = record {
  usable = usable_now v.layout v.past m.node.0 snap x.answers.0;
  alone = alone_now v.layout c.pass.0 v.past m.node.0 snap (all_idle v.layout v.past c.pass.0 (held c) _ _ sound.lawful x.works.holds.share x.works.holds.over) x.answers.0;
}

-- what is said of its node then
abbrev pub moment_then : LlxAnswer → History → Option History
moment_then (LlxSnapshot snap) now = Some now
moment_then (LlxFinalized node scx) now = None
moment_then (LlxFail node scx) now = None

-- with its snapshot kept, or dropped, the client rests
pub rests_kept : (v : ClientView) (c : Client) (kept : Kept) (m : LlxRun) (then : Option SetField) (a : LlxAnswer) (linked : ℕ → Option History) → IsSound v → Answered v c (Llx m) then (ended.Llx a) → kept.found ≡ set c.kept.found (node_of a) (found_of a) → ((n : ℕ) → linked n ≡ cond (eqb (node_of a) n) (moment_then a v.past) (v.linked n)) → Rests (record v { linked = linked }) (record c { kept = kept })
rests_kept v c kept m then a linked sound x e said = record {
  stands = record {
    is_pass = y.is_pass;
    tries = y.tries;
    number = y.number;
    place = y.place;
    kept = kept_after c.kept kept a v.linked linked (moment_then a v.past) e small said v.layout c.pass.0 v.past y.kept (unspent a x);
    unkept = λ n i d. inr (unkept_after c.kept kept a v.linked linked (moment_then a v.past) e small said (λ n i d. ⊎_elim (λ z. absurd (among_none n z)) (λ z. z) (y.unkept n i d)) (none a) n i d);
    dropped = λ n z. absurd (among_none n z);
    free = λ map. absurd (let z : false ≡ true = sym (ap is_map x.works.mode) ∙ map in cc);
    trie = x.works.stands.trie;
  };
  holds = record { some = x.works.holds.some; share = x.works.holds.share; upper = x.works.holds.upper; over = x.works.holds.over };
  none = x.none;
}
  where
    y : IsClientState v c (no_hand (held c))
    y = x.works.stands

    small : node_of a ≤ 8
    small = rw (answer_node v c m then a x) x.works.run_of.0

    none : (a : LlxAnswer) → found_of a ≡ None → moment_then a v.past ≡ None
    none (LlxSnapshot snap) d = cc
    none (LlxFinalized node scx) d = refl
    none (LlxFail node scx) d = refl

    unspent : (a : LlxAnswer) → Answered v c (Llx m) then (ended.Llx a) → (found : KeptSnapshot) → found_of a ≡ Some found → (k : History) × (moment_then a v.past ≡ Some k) × IsUnspent v.layout c.pass.0 v.past (snap_of (node_of a) found) k
    unspent (LlxSnapshot snap) z found d = let same : parts snap ≡ found = cc in (v.past, refl, subst (λ (f : KeptSnapshot). IsUnspent v.layout c.pass.0 v.past (snap_of snap.node.0 f) v.past) same (snapshot_unspent v c m then snap sound z))
    unspent (LlxFinalized node scx) z found d = cc
    unspent (LlxFail node scx) z found d = cc

-- a failed LLX failed since the call's start
failed_since : (v : ClientView) (c : Client) (m : LlxRun) (then : Option SetField) (node : NodeNo) (scx : ScxNo) → Answered v c (Llx m) then (ended.Llx (LlxFail node scx)) → (node.0 ≡ m.node.0) × HasFailed v.layout c.pass.0 v.past v.start m.node.0 scx.0
failed_since v c m then node scx x = (x.answers.0, subst (λ (k : History). HasFailed v.layout c.pass.0 v.past k m.node.0 scx.0) x.works.begun x.answers.1)

-- what an LLX answers that ends a call
record IsLlxOutcome (v : ClientView) (c : ℕ) (command : Command) (a : LlxAnswer) : Type 0 where
  answers : MayAnswerAfterStep command (answer_of (ended.Llx a))
  right : IsRight v.layout v.tries c v.past v.start v.linked command (answer_of (ended.Llx a))
  entry : enters command (answer_of (ended.Llx a)) ≡ false
  tells : AnswersRight v c command (answer_of (ended.Llx a))
  took : HasTakenFew v.layout v.tries c v.past v.start command
  said : (n : ℕ) → linked_by v command (answer_of (ended.Llx a)) n ≡ cond (eqb (node_of a) n) (moment_then a v.past) (v.linked n)

-- it ends an `llx`, and a `set` where it is no snapshot
llx_outcome : (v : ClientView) (c : Client) (command : Command) (m : LlxRun) (then : Option SetField) (a : LlxAnswer) → ((then ≡ None) ⊎ ((snap : Snap) → a ≢ LlxSnapshot snap)) → IsLlxOf command m.node.0 then → ((scx nodes : ℕ) → HasTakenAtMost v.layout c.pass.0 v.past v.start scx nodes) → Answered v c (Llx m) then (ended.Llx a) → IsLlxOutcome v c.pass.0 command a
llx_outcome v c (LlxOf cell) m None (LlxSnapshot snap) d x took y = record {
  answers = tt;
  entry = refl;
  tells = tt;
  took = took 0 0;
  right = rw (sym x) record { left_is = y.answers.0.left; right_is = y.answers.0.right; not_final = y.answers.0.not_final };
  said = λ n. rw (y.answers.0.node ∙ x) refl;
}
llx_outcome v c (LlxOf cell) m None (LlxFinalized node scx) d x took y = record { answers = tt; entry = refl; tells = tt; took = took 0 0; right = rw (sym x) y.answers.1.final; said = λ n. rw (y.answers.0 ∙ x) refl }
llx_outcome v c (LlxOf cell) m None (LlxFail node scx) d x took y = record { answers = tt; entry = refl; tells = tt; took = took 0 0; right = rw (sym x) (failed_since v c m None node scx y); said = λ n. rw (y.answers.0 ∙ x) refl }
llx_outcome v c (SetOf field value) m (Some put) (LlxFinalized node scx) d x took y = record { answers = tt; entry = refl; tells = tt; took = took 1 1; right = rw (sym x.0) y.answers.1.final; said = λ n. rw (y.answers.0 ∙ x.0) refl }
llx_outcome v c (SetOf field value) m (Some put) (LlxFail node scx) d x took y = record { answers = tt; entry = refl; tells = tt; took = took 1 1; right = rw (sym x.0) (failed_since v c m (Some put) node scx y); said = λ n. rw (y.answers.0 ∙ x.0) refl }
llx_outcome v c (SetOf field value) m (Some put) (LlxSnapshot snap) (inl e) x took y = cc
llx_outcome v c (SetOf field value) m (Some put) (LlxSnapshot snap) (inr d) x took y = absurd (d snap refl)
llx_outcome v c command m then a d x took y = absurd x

-- its call ends, where no SCX follows
pub ends_llx : (v : ClientView) (old : Client) (kept : Kept) (m : LlxRun) (then : Option SetField) (a : LlxAnswer) → IsSound v → Answered v old (Llx m) then (ended.Llx a) → kept.found ≡ set old.kept.found (node_of a) (found_of a) → ((then ≡ None) ⊎ ((snap : Snap) → a ≢ LlxSnapshot snap)) → EndsCall v old (record old { kept = kept }) (answer_of (ended.Llx a))
ends_llx v old kept m then a sound x e d =
    let o = llx_outcome v old x.works.command m then a d x.works.run_of.1 (λ scx nodes. taken_nothing v old.pass.0 (held old) scx nodes x.works.holds.share x.works.took) x in
    record {
      same = record { pass = refl; number = refl; next = refl };
      begin = refl;
      command = x.works.command;
      is = x.works.is;
      rests = rests_kept v old kept m then a (linked_by v x.works.command (answer_of (ended.Llx a))) sound x e o.said;
      answers = o.answers;
      right = o.right;
      entry = rw o.entry (entered_none v.won x.works.won);
      tells = o.tells;
      took = o.took;
      late = x.works.late;
    }
