-- What the entry of a row that wins says: the update of the call that the owner of its SCX-record
-- has in hand.
use Rattle.std.proofs.Common.{◌≡◌, ◌≢◌, ℕ, zero, suc, ◌<◌, inl, ⊎_elim, Bool, true, false, cond, eqb, eqb-true, eq-eqb, ◌↔◌, List, [], ◌∷◌, length, Option, Some, None, refl, sym, ◌∙◌, ap, subst, arith}
use Rattle.std.specs.List.{Contains}
use Rattle.arena.specs.Opening.{is_map, IsMap}
use Rattle.histories.specs.Common.{Row, Side, node, scx, child, first_value, History, ◌⊳◌, value, IsInProgress, IsOwnNode, IsOwnScx, IsNamedScx}
use Rattle.histories.specs.Common.{Lawful, IsWin, HasWon, Entry as Entered, log, has, Call as MachineCall, IsRun, IsTold}
use Rattle.arena.specs.declared.word.ScxWord.TheVariants.{Call as CallWord}
use Rattle.std.proofs.lemmas.Bool.{or_left}
use Rattle.arena.proofs.Lemmas.{or_right, or_split}
use Rattle.histories.proofs.Lemmas.{UpdateWins, entry_of, facts_before, log_wins, update_is_first, update_win, won_since}
use Rattle.template.specs.Common.{AllowsAll, PutWaits, PutIsReady, IsAmong, nodes_of, snap_at, Snap, PutRun}
use Rattle.prims.specs.Scx.Known.{IsEntryAt, update_entry, removed_nodes}
use Rattle.prims.proofs.Lemmas.{moment_more, put_full, put_entry, put_entry_then, removed_those, own_in_hand, next_idle, wins_in_progress, among}
use Rattle.script.specs.Part.{is_subsequence}
use Rattle.record.specs.Common.{update_cells, update_finalize, update_field, update_value, Command, Scx as ScxOf, Set as SetOf, Map as MapOf}
use Rattle.record.specs.Common.{IsLastLook, IsEntryOver, IsMapEntry, IsEntryFor, map_request, Request, Pair, MapCall, MapEdit, edit_of, reply, Spells}
use Rattle.player.specs.declared.run.Run.{Run}
use Rattle.player.specs.declared.run.Run.TheVariants.{Llx, Scx, Vlx, Map}
use Rattle.player.specs.declared.client.Client.{Client}
use Rattle.player.specs.declared.client.Running.{Running}
use Rattle.player.specs.declared.client.SetField.{SetField}
use Rattle.record.specs.Answers.{IsUnchanged, AreUnchanged}
use Rattle.player.proofs.EachCall.{entry_makes}
use Rattle.player.specs.Allowed.{PlayedAllows}
use Rattle.player.specs.RunKnown.{RunWaits, RunIsReady, edit_in_hand, run_mode}
use Rattle.player.proofs.RunLaws.{run_keeps, run_made}
use Rattle.player.specs.ClientView.{ClientView, IsSound, IsMachineOf, IsMapOf, IsPutOf, IsScxOf, IsStart, IsOwnWin, IsWonSince, held, HoldsShare, HaveMoments, no_hand, Rests, Works, WaitsForStep, machine_call, command_of}
use Rattle.dict.specs.Calls.{call_in, trie_in}
use Rattle.dict.specs.Inner.{inner}
use Rattle.dict.specs.declared.dict.DictRun.{DictRun}
use Rattle.ordered_map.proofs.MapLemmas.{run_spells}
use Rattle.player.proofs.MapCalls.{map_run}
use Rattle.player.proofs.Shapes.{of_map}
use Rattle.edits.specs.Tries.{HasEnteredOnly}
use Rattle.player.proofs.Editing.{IsEditHand, map_hand}
use Rattle.player.proofs.Winners.{owner_is}
use Rattle.player.proofs.Ends.{has_nodes}
use Rattle.player.proofs.Snapshots.{snap_there}
use Rattle.player.proofs.Views.{own_row, step_sound}

-- Which nodes an entry finalizes

-- a list has what it contains
has_contained : (xs : List ℕ) (n : ℕ) → Contains xs n → has xs n ≡ true
has_contained [] n x = absurd (let i = x.1 in omega arith)
has_contained (y ∷ ys) n (zero, i, e) = or_left (eqb y n) (has ys n) (eq-eqb y n e)
has_contained (y ∷ ys) n (suc k, i, e) = or_right (eqb y n) (has ys n) (has_contained ys n (k, omega arith, e))

contained : (xs : List ℕ) (n : ℕ) → has xs n ≡ true → Contains xs n
contained [] n e = cc
contained (y ∷ ys) n e = ⊎_elim (λ q. (0, omega arith, eqb-true y n q)) (λ q. let x = contained ys n q in (suc x.0, omega (arith, x.1), x.2)) (or_split (eqb y n) (has ys n) e)

-- a part of a list has only what the list has
part_inside : (part whole : List ℕ) (n : ℕ) → is_subsequence part whole ≡ true → has part n ≡ true → has whole n ≡ true
part_inside [] whole n p e = cc
part_inside (x ∷ part) [] n p e = cc
part_inside (x ∷ part) (y ∷ whole) n p e = go (eqb x y) refl p (λ q. part_inside part whole n q) (λ q. part_inside (x ∷ part) whole n q e)
  where
    go : (b : Bool) → eqb x y ≡ b → cond b (is_subsequence part whole) (is_subsequence (x ∷ part) whole) ≡ true → (is_subsequence part whole ≡ true → has part n ≡ true → has whole n ≡ true) → (is_subsequence (x ∷ part) whole ≡ true → has whole n ≡ true) → has (y ∷ whole) n ≡ true
    go false q r f g = or_right (eqb y n) (has whole n) (g r)
    go true q r f g = ⊎_elim (λ z. or_left (eqb y n) (has whole n) (eq-eqb y n (sym (eqb-true x y q) ∙ eqb-true x n z))) (λ z. or_right (eqb y n) (has whole n) (f r z)) (or_split (eqb x n) (has part n) e)

same_test : (a b : Bool) → (a ≡ true → b ≡ true) → (b ≡ true → a ≡ true) → a ≡ b
same_test true true f g = refl
same_test false false f g = refl
same_test true false f g = sym (f refl)
same_test false true f g = g refl

-- an SCX finalizes the nodes that it is to
removes_those : (m : PutRun) (number : ℕ) (nodes removed : List ℕ) (field : _) (x n : ℕ) → IsPutOf m number nodes removed field x → ((k : ℕ) → has removed k ≡ true → has nodes k ≡ true) → has (removed_nodes m.scx.update.plan.0 m.scx.update.snaps 0) n ≡ has removed n
removes_those m number nodes removed field x n p inside = same_test _ _ to from
  where
    snaps : List Snap
    snaps = m.scx.update.snaps

    those : (has (removed_nodes m.scx.update.plan.0 snaps 0) n ≡ true) ↔ (IsAmong snaps n × Contains removed n)
    those = removed_those m.scx.update.plan.0 snaps removed p.finalizes n

    to : has (removed_nodes m.scx.update.plan.0 snaps 0) n ≡ true → has removed n ≡ true
    to e = has_contained removed n (those.0 e).1

    from : has removed n ≡ true → has (removed_nodes m.scx.update.plan.0 snaps 0) n ≡ true
    from e =
        let there : has (nodes_of snaps) n ≡ true = rw p.covers (inside n e) in
        those.1 (snap_there snaps n (sym (has_nodes snaps n) ∙ there), contained removed n e)

-- What the entry says

-- the entry of a row is of the client's call, which it does
pub record IsEntryFrom (v : ClientView) (c : Client) (row : Row) (s : ℕ) : Type 0 where
  pub first : v.won ≡ None
  pub number : c.number ≡ v.answered
  pub command : Command
  pub is : command_of v c ≡ Some command
  pub entered : Entered
  pub logged : log v.layout (row ⊳ v.past) ≡ entered ∷ log v.layout v.past
  pub same_scx : entered.scx ≡ s
  pub same_owner : entered.owner ≡ c.pass.0
  pub same_call : entered.call ≡ c.number
  pub called : value v.past (scx s CallWord) ≡ c.number
  pub does : IsEntryFor v.layout c.pass.0 v.past v.start v.linked entered command

-- the entry of an SCX, and what its SCX-record says of its call
record IsOfPut (v : ClientView) (c : Client) (row : Row) (m : PutRun) (start : History) (is_pass : c.pass.0 < v.layout.passes) : Type 0 where
  at : IsEntryAt (machine_call v c is_pass start) (row ⊳ v.past) m.scx row v.past
  fresh : IsOwnNode v.layout c.pass.0 m.scx.update.fresh.0
  value_is : value v.past (node m.scx.update.fresh.0 first_value) ≡ m.value
  empty_fields : (side : Side) → value v.past (child m.scx.update.fresh.0 side) ≡ 0
  called : value v.past (scx m.scx.scx.0 CallWord) ≡ m.scx.call

module _ (v : ClientView) (c : Client) (row : Row) (m : PutRun) (start : History) (is_pass : c.pass.0 < v.layout.passes) (x : IsOfPut v c row m start is_pass) where
  over_nodes : (nodes removed : List ℕ) (field : _) (y : ℕ) → ((k : ℕ) → has removed k ≡ true → has nodes k ≡ true) → IsPutOf m c.number nodes removed field y → IsEntryOver v.layout c.pass.0 v.past (update_entry c.pass.0 m.scx) nodes removed field y
  over_nodes nodes removed field y inside p = record {
    members = p.covers;
    finalizes = λ n. removes_those m c.number nodes removed field y n p inside;
    node_is = p.node;
    side_is = p.side;
    fresh = x.fresh;
    value_is = x.value_is ∙ p.value;
    empty_fields = x.empty_fields;
  }

  unchanged : (command : Command) (i : ℕ) → i < length m.scx.update.snaps → (z : HaveMoments v c.pass.0 command m.scx.update.snaps) → (p : i < length m.scx.update.snaps) → IsUnchanged v.layout v.past (z i p).moment (snap_at m.scx.update.snaps i).node.0
  unchanged command i within z p =
      let y = x.at.found i p in
      record { same = y.last (z i p).moment (moment_more v.layout v.past row (snap_at m.scx.update.snaps i) (z i p).moment (z i p).found); not_final = y.not_final }

  does : (command : Command) → IsScxOf command c.number m None → HaveMoments v c.pass.0 command m.scx.update.snaps → IsEntryFor v.layout c.pass.0 v.past v.start v.linked (update_entry c.pass.0 m.scx) command
  does (ScxOf update) p z = (over_nodes (update_cells update) (update_finalize update) (update_field update) (update_value update) (λ k e. part_inside (update_finalize update) (update_cells update) k update.part e) p, all)
    where
      all : AreUnchanged v.layout v.past v.linked (update_cells update)
      all n q =
          let i = among m.scx.update.snaps n (rw (sym p.covers) at q) in
          subst (λ (k : ℕ). (moment : History) × (v.linked k ≡ Some moment) × IsUnchanged v.layout v.past moment k) i.is ((z i.at i.within).moment, (z i.at i.within).source, unchanged (ScxOf update) i.at i.within z i.within)
  does (SetOf field y) p z =
      let one : has (nodes_of m.scx.update.snaps) field.0 ≡ true = rw p.covers (or_left (eqb field.0 field.0) false (eq-eqb field.0 field.0 refl)) in
      let i : IsAmong m.scx.update.snaps field.0 = snap_there m.scx.update.snaps field.0 (sym (has_nodes m.scx.update.snaps field.0) ∙ one) in (
        over_nodes (field.0 ∷ []) [] field y (λ k e. cc) p,
        ((z i.at i.within).moment, (z i.at i.within).found.within, subst (λ (k : ℕ). IsLastLook c.pass.0 v.past v.start (z i.at i.within).moment k) i.is (z i.at i.within).source, subst (λ (k : ℕ). IsUnchanged v.layout v.past (z i.at i.within).moment k) i.is (unchanged (SetOf field y) i.at i.within z i.within)),
      )
  does command p z = absurd p

-- an update that a row makes win has won after it
has_won : (row : Row) (before : History) (t : ℕ) → IsWin before row t → HasWon (row ⊳ before) t
unfolding HasWon
has_won row before t w = inl w

-- a row that wins wins for the SCX that its owner has in hand
module _ (v : ClientView) (c : Client) (sound : IsSound v) (row : Row) (s : ℕ) (l : Lawful v.layout (row ⊳ v.past)) (wins : UpdateWins v.past row s) (own : IsOwnScx v.layout c.pass.0 s) where
  in_progress : IsInProgress v.past s
  in_progress = wins_in_progress v.layout v.past row s l wins

  is_win : IsWin v.past row s
  is_win = update_win (facts_before v.layout v.past row l) wins

  -- without one in hand no update of its wins
  no_hand_wins : HoldsShare v c (no_hand (held c)) → ⊥
  no_hand_wins x =
      let same : s ≡ (held c).next_scx = own_in_hand v.layout v.past c.pass.0 s (held c).next_scx sound.lawful x.over own in_progress in
      next_idle v.layout v.past c.pass.0 (held c) _ _ sound.lawful x.share (rw same at own) (rw same at in_progress)

  -- one of an edit's that wins is the first of its call
  edit_first : HasEnteredOnly v.layout c.pass.0 s v.past v.start → IsWonSince v c.pass.0 → v.won ≡ None
  edit_first only x = ⊎_elim (λ e. e) (λ y. absurd (again y.0 y.1 y.2 y.3)) x.no
    where
      again : (other : Row) (before : History) (t : ℕ) → IsOwnWin v c.pass.0 other before t → ⊥
      again other before t w =
          let same : t ≡ s = only other before t w.within w.since w.wins w.own in
          update_is_first (facts_before v.layout v.past row l) wins (rw same at (won_since v.layout v.past (other ⊳ before) t sound.lawful w.within (has_won other before t w.wins)))

  -- the reply of the call on the map just before says that it makes this edit
  abbrev Gives : MapCall → MapEdit → Type 0
  Gives of edit = (map : List Pair) → Spells v.layout (value v.past) map → edit_of of (reply of map) ≡ Some edit

  module _ (m : DictRun ℕ ℕ) (is_pass : c.pass.0 < v.layout.passes) (map_there : IsMap v.layout.mode) (run : IsRun PlayedAllows v.layout (row ⊳ v.past)) (x : IsEditHand (inner m.run) (machine_call v c is_pass v.start) v.past s) where
    hand_gives : Gives (call_in m.run) x.edit
    hand_gives map spells = x.gives row (map_run v.layout (row ⊳ v.past) map_there run) is_win map spells

    -- there is such a map
    spelled : (map : List Pair) × Spells v.layout (value v.past) map
    spelled = run_spells v.layout v.past (map_run v.layout v.past map_there sound)

    -- so its entry is one that the call makes
    entry_is : IsMapEntry (call_in m.run) v.layout v.past (entry_of v.layout v.past s)
    entry_is = entry_makes v.layout v.past s (call_in m.run) x.edit spelled.0 spelled.1 hand_gives x.hand.makes

  from_map : (m : DictRun ℕ ℕ) (then : Option SetField) (x : Works v c (Map m) then) → IsRun PlayedAllows v.layout (row ⊳ v.past) → IsEditHand (inner m.run) (machine_call v c x.is_pass v.start) v.past s → IsEntryFrom v c row s
  from_map m then x run h = record {
    first = edit_first h.hand.only x.won;
    number = x.stands.number;
    command = x.command;
    is = x.is;
    entered = entry_of v.layout v.past s;
    logged = log_wins (facts_before v.layout v.past row l) wins;
    same_scx = refl;
    same_owner = owner_is v.layout s c.pass.0 own.from own.below;
    same_call = h.hand.called;
    called = h.hand.called;
    does = subst (λ (k : Command). IsEntryFor v.layout c.pass.0 v.past v.start v.linked (entry_of v.layout v.past s) k) (sym x.run_of.is)
        (subst (λ (k : MapCall). IsMapEntry k v.layout v.past (entry_of v.layout v.past s)) x.run_of.called (entry_is m x.is_pass (of_map v.layout.mode (trie_in m.run) x.mode) run h));
  }

  from_run : (run : Run) (then : Option SetField) (x : Works v c run then) → ((m : PutRun) → run ≡ Scx m → m.scx.scx.0 ≡ s → IsOfPut v c row m x.start x.is_pass) → ((m : DictRun ℕ ℕ) → run ≡ Map m → IsEditHand (inner m.run) (machine_call v c x.is_pass v.start) v.past s) → IsRun PlayedAllows v.layout (row ⊳ v.past) → IsEntryFrom v c row s
  from_run (Scx m) then x f g run =
      let same : s ≡ m.scx.scx.0 = own_in_hand v.layout v.past c.pass.0 s m.scx.scx.0 sound.lawful x.holds.over own in_progress in
      let y = f m refl (sym same) in
      subst (λ (k : ℕ). IsEntryFrom v c row k) (sym same) record {
        number = x.stands.number;
        first = x.won.no (rw same at (update_is_first (facts_before v.layout v.past row l) wins));
        command = x.command;
        is = x.is;
        entered = update_entry c.pass.0 m.scx;
        logged = y.at.logged;
        same_scx = refl;
        same_owner = refl;
        same_call = called x.command then x.run_of;
        called = y.called ∙ called x.command then x.run_of;
        does = by_then then x.run_of x.moments y;
      }
    where
      called : (command : Command) (then : Option SetField) → IsScxOf command c.number m then → m.scx.call ≡ c.number
      called (ScxOf update) None p = p.called
      called (SetOf field y) None p = p.called
      called command then p = absurd p

      by_then : (then : Option SetField) → IsScxOf x.command c.number m then → HaveMoments v c.pass.0 x.command m.scx.update.snaps → IsOfPut v c row m x.start x.is_pass → IsEntryFor v.layout c.pass.0 v.past v.start v.linked (update_entry c.pass.0 m.scx) x.command
      by_then None p z y = does v c row m x.start x.is_pass y x.command p z
      by_then (Some put) p z y = absurd (none_then x.command put p)
        where
          none_then : (command : Command) (put : SetField) → IsScxOf command c.number m (Some put) → ⊥
          none_then (ScxOf update) put p = p
          none_then command put p = p
  from_run (Llx m) then x f g run = absurd (no_hand_wins x.holds)
  from_run (Vlx m) then x f g run = absurd (no_hand_wins x.holds)
  from_run (Map m) then x f g run = from_map m then x run (g m refl)

  -- and none wins for a client at rest
  pub rest_wins_not : Rests v c → ⊥
  rest_wins_not x = no_hand_wins x.holds

-- what a call of the map that waits has in hand
map_waits : (v : ClientView) (c : Client) (q : Running) (m : DictRun ℕ ℕ) (s : ℕ) → IsSound v → (w : WaitsForStep v c q) → q.run ≡ Map m → IsOwnScx v.layout c.pass.0 s → IsInProgress v.past s → IsEditHand (inner m.run) (machine_call v c w.works.is_pass v.start) v.past s
map_waits v c q m s sound w e own p =
    let begun : w.works.start ≡ v.start = subst (λ (k : Run). IsStart k w.works.start v.start) e w.works.begun in
    let call = machine_call v c w.works.is_pass v.start in
    let waits : RunWaits (Map m) call v.past q.step = subst (λ (k : Run). RunWaits k call v.past q.step) e (subst (λ (k : History). RunWaits q.run (machine_call v c w.works.is_pass k) v.past q.step) begun w.waits) in
    map_hand call v.past s sound.lawful own p q.step (inner m.run) waits.1.0.number waits.1.1

-- A row makes an update win of this client, which waits for a step: its call is one of the map, and
-- has an edit in hand; its reply on the map just before says that it makes that.
pub record IsEditOfCall (v : ClientView) (c : Client) (q : Running) : Type 0 where
  pub request : Request ℕ ℕ
  pub is : command_of v c ≡ Some (MapOf request)
  pub edit : MapEdit
  pub in_hand : edit_in_hand q.run ≡ Some edit
  pub gives : (map : List Pair) → Spells v.layout (value v.past) map → edit_of (map_request request) (reply (map_request request) map) ≡ Some edit

pub edit_entered : (v : ClientView) (c : Client) (q : Running) (row : Row) (s : ℕ) → IsSound v → WaitsForStep v c q → IsRun PlayedAllows v.layout (row ⊳ v.past) → UpdateWins v.past row s → IsOwnScx v.layout c.pass.0 s → IsMap v.layout.mode → IsEditOfCall v c q
edit_entered v c q row s sound w run wins own map_there = go q.run refl
  where
    go : (run_is : Run) → q.run ≡ run_is → IsEditOfCall v c q
    go (Map m) e =
        let of : IsMapOf w.works.command m q.then = subst (λ (k : Run). IsMachineOf w.works.command c.number k q.then) e w.works.run_of in
        let h = map_waits v c q m s sound w e own (in_progress v c sound row s run.lawful wins own) in
        record {
          request = of.request;
          is = w.works.is ∙ ap (λ (k : Command). Some k) of.is;
          edit = h.edit;
          in_hand = ap (λ (k : Run). edit_in_hand k) e ∙ h.is;
          gives = λ map spells. subst (λ (k : MapCall). edit_of k (reply k map) ≡ Some h.edit) of.called (hand_gives v c sound row s run.lawful wins own m w.works.is_pass map_there run h map spells);
        }
    go (Llx m) e = absurd (let z : true ≡ false = sym map_there ∙ ap is_map (w.works.mode ∙ ap (λ (k : Run). run_mode k) e) in cc)
    go (Scx m) e = absurd (let z : true ≡ false = sym map_there ∙ ap is_map (w.works.mode ∙ ap (λ (k : Run). run_mode k) e) in cc)
    go (Vlx m) e = absurd (let z : true ≡ false = sym map_there ∙ ap is_map (w.works.mode ∙ ap (λ (k : Run). run_mode k) e) in cc)

-- a machine that has an edit in hand is one of a map
pub in_hand_map : (v : ClientView) (c : Client) (q : Running) (edit : MapEdit) → WaitsForStep v c q → edit_in_hand q.run ≡ Some edit → IsMap v.layout.mode
in_hand_map v c q edit w is = ap is_map w.works.mode ∙ go q.run is
  where
    go : (run : Run) → edit_in_hand run ≡ Some edit → IsMap (run_mode run)
    go (Map m) is = of_map (run_mode (Map m)) (trie_in m.run) refl
    go (Llx m) is = cc
    go (Scx m) is = cc
    go (Vlx m) is = cc

-- a row of another client
pub entry_by_others : (v : ClientView) (c : Client) (q : Running) (row : Row) (s : ℕ) → IsSound v → WaitsForStep v c q → IsRun PlayedAllows v.layout (row ⊳ v.past) → row.pass.0 ≢ c.pass.0 → UpdateWins v.past row s → IsOwnScx v.layout c.pass.0 s → IsEntryFrom v c row s
entry_by_others v c q row s sound w run other wins own = from_run v c sound row s run.lawful wins own q.run q.then w.works of_put of_map run
  where
    call : MachineCall
    call = machine_call v c w.works.is_pass w.works.start

    of_map : (m : DictRun ℕ ℕ) → q.run ≡ Map m → IsEditHand (inner m.run) (machine_call v c w.works.is_pass v.start) v.past s
    of_map m e = map_waits v c q m s sound w e own (in_progress v c sound row s run.lawful wins own)

    of_put : (m : PutRun) → q.run ≡ Scx m → m.scx.scx.0 ≡ s → IsOfPut v c row m w.works.start w.works.is_pass
    of_put m e same =
        let before : PutWaits AllowsAll m call v.past q.step = subst (λ (k : Run). RunWaits k call v.past q.step) e w.waits in
        let after : PutWaits AllowsAll m call (row ⊳ v.past) q.step = subst (λ (k : Run). RunWaits k call (row ⊳ v.past) q.step) e (run_keeps q.run call v.past q.step row w.works.mode run other w.waits) in
        let win : IsWin v.past row m.scx.scx.0 = rw same (is_win v c sound row s run.lawful wins own) in
        let named : IsNamedScx v.past m.scx.scx.0 = rw same (in_progress v c sound row s run.lawful wins own).named in
        let y = put_entry AllowsAll m call (row ⊳ v.past) q.step row v.past run.lawful (inl refl) win after in
        let z = put_full AllowsAll m call v.past q.step named before in
        record { at = y.0; fresh = z.1.own; value_is = y.1; empty_fields = y.2; called = z.0.called }

-- its own row
pub entry_by_own : (v : ClientView) (c : Client) (q : Running) (s : ℕ) → IsSound v → WaitsForStep v c q → UpdateWins v.past (own_row v c q.step) s → IsOwnScx v.layout c.pass.0 s → IsTold q.step.access (value v.past q.step.word) (value v.past q.step.word) → IsEntryFrom v c (own_row v c q.step) s
entry_by_own v c q s sound w wins own told = from_run v c sound (own_row v c q.step) s run.lawful wins own q.run q.then w.works of_put of_map run
  where
    call : MachineCall
    call = machine_call v c w.works.is_pass w.works.start

    run : IsRun PlayedAllows v.layout (own_row v c q.step ⊳ v.past)
    run = step_sound v c q sound w v.won

    of_map : (m : DictRun ℕ ℕ) → q.run ≡ Map m → IsEditHand (inner m.run) (machine_call v c w.works.is_pass v.start) v.past s
    of_map m e = map_waits v c q m s sound w e own (in_progress v c sound (own_row v c q.step) s run.lawful wins own)

    of_put : (m : PutRun) → q.run ≡ Scx m → m.scx.scx.0 ≡ s → IsOfPut v c (own_row v c q.step) m w.works.start w.works.is_pass
    of_put m e same =
        let before : PutWaits AllowsAll m call v.past q.step = subst (λ (k : Run). RunWaits k call v.past q.step) e w.waits in
        let after : PutIsReady AllowsAll m call (own_row v c q.step ⊳ v.past) (Some (value v.past q.step.word)) = subst (λ (k : Run). RunIsReady k call (own_row v c q.step ⊳ v.past) (Some (value v.past q.step.word))) e (run_made q.run call v.past q.step (value v.past q.step.word) w.works.mode run told w.waits) in
        let win : IsWin v.past (own_row v c q.step) m.scx.scx.0 = rw same (is_win v c sound (own_row v c q.step) s run.lawful wins own) in
        let named : IsNamedScx v.past m.scx.scx.0 = rw same (in_progress v c sound (own_row v c q.step) s run.lawful wins own).named in
        let y = put_entry_then AllowsAll m call (own_row v c q.step ⊳ v.past) (value v.past q.step.word) (own_row v c q.step) v.past run.lawful (inl refl) win after in
        let z = put_full AllowsAll m call v.past q.step named before in
        record { at = y.0; fresh = z.1.own; value_is = y.1; empty_fields = y.2; called = z.0.called }
