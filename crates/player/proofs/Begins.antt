-- What calls need to begin.
use Rattle.std.proofs.Common.{Vec, ◌≡◌, ◌≢◌, ℕ, suc, ◌+◌, ◌<◌, ◌≤◌, inl, List, Option, Some, None, refl, sym, ◌∙◌, ap, subst, arith, length, zero, [], ◌∷◌, ◌⊎◌, ⊎_elim, slice_index_or, slice_get, get_or, unwrap_or, nat_lt, map, AllPairs, Contains, MatchOption, Bool, true, false, All}
use Rattle.record.specs.Common.{cells_of, update_cells, update_finalize, update_field, update_value, AreLinked, Command, Llx as LlxCommand, Vlx as VlxCommand}
use Rattle.arena.specs.Opening.{IsMap}
use Rattle.template.specs.Balance.{map_mode, nodes_by}
use Rattle.record.specs.Common.{Scx as ScxCommand, Set as SetCommand, Map, Range as RangeCommand, command_steps, nodes_counted, IsOfMode, MapCall, map_request, Request, Call, Pairs}
use Rattle.histories.specs.Common.{Mode, Records, History, value, Extends, NodeNo, Side, Remaining, IsOwnScx, IsTakenScx, Call as MachineCall}
use Rattle.arena.proofs.Lemmas.{ends_self}
use Rattle.template.specs.Common.{AllowsAll, AreDistinct, IsAmong, Snap, llx_left, vlx_left, snap_at, LlxRun, VlxRun, AreFinished, most_steps as most_map_steps, nodes_of}
use Rattle.prims.proofs.Lemmas.{ready_at_start, cell_opened, all_over, all_idle, vlx_ready_first, among}
use Rattle.player.specs.declared.kept.KeptSnapshot.{KeptSnapshot}
use Rattle.player.specs.KeptSnaps.{AllKept, IsFirstUnkept, IsUnspent, kept_of}
use Rattle.player.proofs.EachCall.{few_pairs}
use Rattle.player.proofs.Over.{either, taken_nothing, taken_none}
use Rattle.player.proofs.Ends.{among_none, are_linked}
use Rattle.player.proofs.Putting.{full_answer}
use Rattle.std.proofs.Math.Logic.{∥∥₁_elim}
use Rattle.std.proofs.lemmas.List.{length-map}
use Rattle.player.proofs.Snapshots.{has_snap, snap_there, snap_found, kept_linked, first_unlinked}
use Rattle.prims.specs.declared.llx.LlxAt.TheVariants.{Start}
use Rattle.player.specs.declared.run.Run.{Run}
use Rattle.player.specs.declared.run.Run.TheVariants.{Llx, Scx, Vlx, Map as MapRun}
use Rattle.player.specs.declared.client.Client.{Client}
use Rattle.player.specs.declared.client.SetField.{SetField}
use Rattle.record.specs.declared.record.Answer.{Answer}
use Rattle.record.specs.declared.record.Answer.TheVariants.{Unlinked, Map as MapAnswer}
use Rattle.prims.specs.Shares.{IsUpperEnd}
use Rattle.edits.specs.Known.{RestsWith}
use Rattle.edits.specs.Laws.Entered.{none_yet}
use Rattle.dict.specs.Laws.Begins.{dict_begins}
use Rattle.dict.specs.Calls.{AsksForPairs, call_in, IsFewCall, share_of, trie_in}
use Rattle.dict.specs.Known.{IsUnbegun as IsFresh}
use Rattle.dict.specs.Steps.{map_left}
use Rattle.dict.specs.Typed.{IsTypedCall}
use Rattle.dict.specs.declared.dict.DictRun.{DictRun}
use Rattle.ordered_map.specs.Requests.{AsksForFew}
use Rattle.dict.specs.Words.{IsNumber, IsWideNumber}
use Rattle.player.specs.RunKnown.{IsForNothing, RunAsksFirst}
use Rattle.player.proofs.Shapes.{as_numbers}
use Rattle.player.specs.RunSteps.{then_left}
use Rattle.player.specs.ClientView.{ClientView, no_hand, held, IsSound, Rests, Refuses, Starts, IsLlxOf, IsMachineOf, IsNextCallUnbegun, command_of, machine_call, GoesOn, IsSameCall, CanPut, Puts, BeginsOrRefuses, IsNextAction, call_steps}
use Rattle.player.specs.declared.client.NextAction.{NextAction}
use Rattle.player.specs.declared.client.NextAction.TheVariants.{Finished, Answers, Asks}
use Rattle.std.proofs.lemmas.Option.{slice_get_read, slice_get_within, get_or_from_slice_get}
use Rattle.record.proofs.Lemmas.{next_at}
use Rattle.std.specs.Global.{Global}

none_late : (won : Option ℕ) (turn begin : ℕ) → won ≡ None → won ≡ Some turn → begin ≤ turn
none_late won turn begin e d = cc

-- what is kept of no node
pub nothing_kept : {X : Type 0} {found : Option KeptSnapshot} {f : KeptSnapshot} → found ≡ None → found ≡ Some f → X
nothing_kept e d = absurd (cc)

-- an LLX from its start, and the SCX that may follow it, make no more steps than their command may
llx_few : (tries : ℕ) (command : Command) (n : ℕ) (then : Option SetField) → IsLlxOf command n then → (taken : ℕ) → llx_left Start + then_left then ≤ command_steps command tries taken
llx_few tries (LlxCommand cell) n None f taken = omega arith
llx_few tries (SetCommand field value) n (Some put) f taken = omega arith
llx_few tries command n then f taken = absurd f

-- an LLX of a cell
pub llx_starts : (v : ClientView) (began : Option ℕ) (c : Client) (m : LlxRun) (then : Option SetField) (command : Command) → IsSound v → v.layout.mode ≡ Records → Rests v c → IsNextCallUnbegun v began → m.at ≡ Start → m.node.0 ≤ 8 → command_of v c ≡ Some command → IsLlxOf command m.node.0 then → Starts v c (Llx m) then
llx_starts v began c m then command sound mode r u start i is f = record {
  works = record { mode = mode; stands = r.stands; holds = r.holds; newest = tt; command = command; is = is; run_of = (i, f); limit = tt; is_pass = r.stands.is_pass; start = v.past; since = ends_self v.past; begun = sym u.start; moments = λ j p. absurd (omega arith); alone = λ j p. absurd (omega arith); room = tt; took = taken_none v c.pass.0 (no_hand (held c)) u.start; won = u.won; late = λ turn e. none_late v.won turn c.begin u.won e };
  none = r.none;
  ready = ready_at_start AllowsAll m (machine_call v c r.stands.is_pass v.past) v.past refl start (cell_opened v.layout v.past m.node.0 mode i) (all_idle v.layout v.past c.pass.0 (held c) _ _ sound.lawful r.holds.share r.holds.over);
  few = λ taken i. let few = llx_few v.tries command m.node.0 then f (nodes_counted v.layout.mode taken) in rw (u.steps, start) (omega arith);
}

-- a VLX of unspent snapshots
pub vlx_starts : (v : ClientView) (began : Option ℕ) (c : Client) (m : VlxRun (List Snap)) (cells : _) → IsSound v → v.layout.mode ≡ Records → Rests v c → IsNextCallUnbegun v began → m.asked ≡ 0 → 0 < length m.snaps → nodes_of m.snaps ≡ cells_of cells → ((i : ℕ) → i < length m.snaps → (moment : History) × (v.linked (snap_at m.snaps i).node.0 ≡ Some moment) × IsUnspent v.layout c.pass.0 v.past (snap_at m.snaps i) moment) → command_of v c ≡ Some (VlxCommand cells) → vlx_left m.snaps m.asked ≡ length (cells_of cells) → Starts v c (Vlx m) None
vlx_starts v began c m cells sound mode r u start some nodes l is left = record {
  works = record { mode = mode; stands = r.stands; holds = r.holds; newest = tt; command = VlxCommand cells; is = is; run_of = nodes; limit = tt; is_pass = r.stands.is_pass; start = v.past; since = ends_self v.past; begun = sym u.start; moments = λ i p. let x = l i p in record { moment = x.0; found = x.2.usable.found; source = x.1 }; alone = λ i p. let x = l i p in x.2.alone; room = tt; took = taken_none v c.pass.0 (no_hand (held c)) u.start; won = u.won; late = λ turn e. none_late v.won turn c.begin u.won e };
  none = r.none;
  ready = vlx_ready_first v.layout c.pass.0 c.number r.stands.is_pass v.past m.snaps m.asked start some (λ i p. let x = l i p in (x.0, x.2.usable)) (all_over v.layout v.past c.pass.0 (held c) _ _ r.holds.share r.holds.over);
  few = λ taken i. omega (arith, u.steps, left);
}

-- a request for nothing is answered so at once
pub map_refuses : (v : ClientView) (began : Option ℕ) (c : Client) (request : Request ℕ ℕ) (found : Vec (ℕ × ℕ) Global) → Rests v c → IsNextCallUnbegun v began → command_of v c ≡ Some (Map request) → IsForNothing request → found.items ≡ [] → Refuses v c (MapAnswer (Pairs found))
map_refuses v began c (RangeCommand low high most) found r u is nothing none = record {
  rests = r;
  command = Map (RangeCommand low high most);
  is = is;
  refusal = (nothing, none);
  right = tt;
  unwon = u.won;
  took = taken_nothing v c.pass.0 (held c) 0 0 r.holds.share (taken_none v c.pass.0 (no_hand (held c)) u.start);
}
map_refuses v began c request found r u is nothing none = absurd nothing

-- the taken nodes count as records say
counted : (mode : Mode) (trie : Bool) (taken : ℕ) → mode ≡ map_mode trie → nodes_by trie taken ≡ nodes_counted mode taken
counted mode false taken e = ap (λ (m : Mode). nodes_counted m taken) (sym e)
counted mode true taken e = ap (λ (m : Mode). nodes_counted m taken) (sym e)

-- a client at rest rests with its share
rests_with : (v : ClientView) (c : Client) (r : Rests v c) → RestsWith (machine_call v c r.stands.is_pass v.past) v.past (held c)
rests_with v c r = record { share = r.holds.share; over = over }
  where
    next_free : (s : ℕ) → s ≡ (held c).next_scx → IsOwnScx v.layout c.pass.0 s → ¬ IsTakenScx v.past s
    next_free s e own = r.holds.share.untaken s own (omega (arith, e))

    over : AreFinished v.layout c.pass.0 0 v.past
    over s own d t = ⊎_elim (λ e. absurd (next_free s e own t)) (λ e. r.holds.over s own e t) (either s (held c).next_scx)

-- what is known of the machine of a call of the map that is made from this request
pub record IsMadeOf (v : ClientView) (c : Client) (request : Request ℕ ℕ) (m : DictRun ℕ ℕ) : Type 0 where
  pub called : call_in m.run ≡ map_request request
  pub typed : IsTypedCall IsNumber IsWideNumber (call_in m.run)
  pub share : Some (share_of m.run) ≡ c.share
  pub tries : m.tries ≡ v.tries
  pub trie : trie_in m.run ≡ c.trie
  pub fresh : IsFresh m.run v.tries c.number
  pub steps : (nodes : ℕ) → map_left m.run nodes ≤ most_map_steps (call_in m.run) v.tries (nodes_by (trie_in m.run) nodes)

-- a call of the map from its start, to which the client gives its share
pub map_starts : (v : ClientView) (began : Option ℕ) (c : Client) (m : DictRun ℕ ℕ) (request : Request ℕ ℕ) → IsSound v → IsMap v.layout.mode → Rests v c → IsNextCallUnbegun v began → AsksForFew request → AsksForPairs (map_request request) → IsMadeOf v c request m → command_of v c ≡ Some (Map request) → Starts v (record c { share = None }) (MapRun m) None
map_starts v began c m request sound map r u few asks made is = record {
  works = record {
    mode = mode;
    stands = record { is_pass = r.stands.is_pass; tries = r.stands.tries; number = r.stands.number; place = r.stands.place; kept = r.stands.kept; unkept = r.stands.unkept; dropped = r.stands.dropped; free = r.stands.free; trie = r.stands.trie };
    holds = upper;
    newest = tt;
    command = Map request;
    is = is;
    run_of = record { request = request; is = refl; called = made.called; asks = subst AsksForPairs (sym made.called) asks; alone = refl };
    limit = made.tries;
    is_pass = r.stands.is_pass;
    start = v.past;
    since = ends_self v.past;
    begun = sym u.start;
    moments = λ j p. absurd (omega arith);
    alone = λ j p. absurd (omega arith);
    room = tt;
    took = tt;
    won = record { yes = λ row before s w. absurd (none_yet v.layout c.pass.0 v.past row before s w.within (subst (λ (k : History). Extends before k) u.start w.since) w.wins w.own); no = inl u.won };
    late = λ turn e. none_late v.won turn c.begin u.won e;
  };
  none = r.none;
  ready = let call : MachineCall = machine_call v c r.stands.is_pass v.past in dict_begins IsNumber IsWideNumber m call mode (as_numbers v.layout v.past map sound) made.typed (subst (λ (n : ℕ). IsFresh m.run n c.number) (sym made.tries) made.fresh) (subst IsFewCall (sym made.called) (few_pairs request few)) (subst (RestsWith call v.past) has (rests_with v c r));
  few = λ taken i. rw u.steps (let left = made.steps taken in let same : most_map_steps (call_in m.run) v.tries (nodes_by (trie_in m.run) taken) ≡ call_steps v (Map request) taken = ap (λ (k : MapCall). most_map_steps k v.tries (nodes_by (trie_in m.run) taken)) made.called ∙ ap (most_map_steps (map_request request) v.tries) (counted v.layout.mode (trie_in m.run) taken mode) in omega (arith, left, same));
}
  where
    mode : v.layout.mode ≡ map_mode (trie_in m.run)
    mode = r.stands.trie map ∙ ap map_mode (sym made.trie)

    has : held c ≡ share_of m.run
    has = ap (λ (o : Option Remaining). unwrap_or o record { next_node = 0; nodes = 0; next_scx = 0; scx = 0 }) (sym made.share)

    upper : IsUpperEnd v.layout c.pass.0 (share_of m.run)
    upper = subst (IsUpperEnd v.layout c.pass.0) has r.holds.upper

-- a machine of a command asks for a step first
pub asks_first : (command : Command) (number : ℕ) (run : Run) (then : Option SetField) → IsMachineOf command number run then → RunAsksFirst run
asks_first command number (Llx m) then of = tt
asks_first command number (Scx m) then of = tt
asks_first command number (Vlx m) then of = tt
asks_first command number (MapRun m) then of = of.asks

-- as many snapshots as cells
pub as_many_snaps : (snaps : List Snap) (cells : List ℕ) → map (λ (s : Snap). s.node.0) snaps ≡ cells → length snaps ≡ length cells
as_many_snaps snaps cells e = sym (length-map snaps (λ (s : Snap). s.node.0)) ∙ ap (λ (l : List ℕ). length l) e

-- so there is one
pub some_snaps : (snaps : List Snap) (cells : List ℕ) → map (λ (s : Snap). s.node.0) snaps ≡ cells → 1 ≤ length cells → 0 < length snaps
some_snaps snaps cells e i = rw (as_many_snaps snaps cells e) i

-- different cells have snapshots of different nodes
node_at : (snaps : List Snap) (i : ℕ) → i < length snaps → slice_index_or (map (λ (s : Snap). s.node.0) snaps) i 0 ≡ (snap_at snaps i).node.0
node_at [] i p = absurd (omega arith)
node_at (s ∷ snaps) zero p = refl
node_at (s ∷ snaps) (suc i) p = node_at snaps i (omega arith)

apart : (i j : ℕ) → i ≢ j → (i < j) ⊎ (j < i)
apart i j d = grind arith

pub distinct_snaps : (snaps : List Snap) (cells : List ℕ) → map (λ (s : Snap). s.node.0) snaps ≡ cells → AllPairs (λ a b. a ≢ b) cells → AreDistinct snaps
distinct_snaps snaps cells e d i j p q n same = ⊎_elim (λ less. differ i j less q (rw (node_at snaps i p, node_at snaps j q) same)) (λ less. differ j i less p (rw (node_at snaps i p, node_at snaps j q) (sym same))) (apart i j n)
  where
    differ : (i j : ℕ) → i < j → j < length snaps → slice_index_or (map (λ (s : Snap). s.node.0) snaps) i 0 ≢ slice_index_or (map (λ (s : Snap). s.node.0) snaps) j 0
    differ i j less q = rw e (d i j 0 less (rw (sym e) (rw (length-map snaps (λ (s : Snap). s.node.0)) q)))

-- a cell of those has a snapshot
pub among_snaps : (snaps : List Snap) (cells : List ℕ) (n : ℕ) → map (λ (s : Snap). s.node.0) snaps ≡ cells → ∥ Contains cells n ∥₁ → IsAmong snaps n
among_snaps snaps cells n e x = go (has_snap snaps n) refl
  where
    go : (b : Bool) → has_snap snaps n ≡ b → IsAmong snaps n
    go true d = snap_there snaps n d
    go false d = absurd (∥∥₁_elim x (λ a b. absurd a) (λ (c : Contains cells n). let y = among snaps n (rw e c) in let z = snap_found snaps n y.at y.within y.is in cc))

-- what is known of a client does not ask when its call began
pub rests_at : (v : ClientView) (c : Client) (turn : ℕ) → Rests v c → Rests v (record c { begin = turn })
rests_at v c turn r = record { holds = record { some = r.holds.some; share = r.holds.share; upper = r.holds.upper; over = r.holds.over }; stands = record { is_pass = r.stands.is_pass; tries = r.stands.tries; number = r.stands.number; place = r.stands.place; kept = r.stands.kept; unkept = r.stands.unkept; dropped = r.stands.dropped; free = r.stands.free; trie = r.stands.trie }; none = r.none }

-- a call that runs has begun
pub begins_so : (v : ClientView) (old new : Client) → GoesOn v old new → BeginsOrRefuses v old.begin old new None
begins_so v old new x = (x.same, x.begin, (x.running, x.is, x.waits))

same_call : (old new : Client) (turn : ℕ) → IsSameCall (record old { begin = turn }) new → IsSameCall old new
same_call old new turn x = record { pass = x.pass; number = x.number; next = x.next }

-- that a call begins does not ask when the call before it did
pub begins_run : (v : ClientView) (old new : Client) (turn : ℕ) (answer : Option Answer) → BeginsOrRefuses v turn (record old { begin = turn }) new answer → BeginsOrRefuses v turn old new answer
begins_run v old new turn None x = (same_call old new turn x.0, x.1, x.2)
begins_run v old new turn (Some answer) x = (same_call old new turn x.0, x.1, x.2)

-- nor who has the share
begins_held : (v : ClientView) (old new : Client) (share : Option Remaining) (answer : Option Answer) → BeginsOrRefuses v old.begin (record old { share = share }) new answer → BeginsOrRefuses v old.begin old new answer
begins_held v old new share None x = (record { pass = x.0.pass; number = x.0.number; next = x.0.next }, x.1, x.2)
begins_held v old new share (Some answer) x = (record { pass = x.0.pass; number = x.0.number; next = x.0.next }, x.1, x.2)

-- the call of the map that starts is that of the client
pub map_begins : (v : ClientView) (old new : Client) (m : DictRun ℕ ℕ) (share : Option Remaining) (answer : Option Answer) → share ≡ None → Starts v (record old { share = None }) (MapRun m) None → (Starts v (record old { share = share }) (MapRun m) None → BeginsOrRefuses v old.begin (record old { share = share }) new answer) → BeginsOrRefuses v old.begin old new answer
map_begins v old new m share answer none x f = begins_held v old new share answer (f (subst (λ (o : Option Remaining). Starts v (record old { share = o }) (MapRun m) None) (sym none) x))

-- a client at rest keeps a snapshot of each cell that is said to have one
unkept_is : (v : ClientView) (c : Client) → Rests v c → (n : ℕ) → n ≤ 8 → kept_of c.kept n ≡ None → v.linked n ≡ None
unkept_is v c r n i e = ⊎_elim (λ z. absurd (among_none n z)) (λ z. z) (r.stands.unkept n i e)

-- what is kept of different cells is given to an SCX
pub scx_can_put : (v : ClientView) (began : Option ℕ) (c : Client) (update : _) (snaps : List Snap) (finalize : List NodeNo) (field : NodeNo × Side) (x : ℕ) → v.layout.mode ≡ Records → Rests v c → IsNextCallUnbegun v began → command_of v c ≡ Some (ScxCommand update) → AllKept c.kept snaps → nodes_of snaps ≡ update_cells update → map (λ (n : NodeNo). n.0) finalize ≡ update_finalize update → (field.0.0 ≡ (update_field update).0) × (field.1 ≡ (update_field update).1) → x ≡ update_value update → CanPut v v.linked c snaps (map (λ (n : NodeNo). n.0) finalize) (field.0.0, field.1) x
scx_can_put v began c update snaps finalize field x mode r u is kept nodes removed at value = record {
  mode = mode;
  rests = record { stands = r.stands; holds = r.holds; none = r.none };
  others = λ n d. refl;
  since = rw u.start (ends_self v.past);
  unwon = u.won;
  unspent = λ i p. let y = l i p in (y.0, y.2);
  command = ScxCommand update;
  is = is;
  moments = λ i p. let y = l i p in record { moment = y.0; found = y.2.usable.found; source = y.1 };
  took = taken_none v c.pass.0 (no_hand (held c)) u.start;
  serves = λ m z. record { called = z.called; covers = z.covers ∙ nodes; finalizes = rw (sym removed) z.finalizes; node = z.node ∙ at.0; side = z.side ∙ at.1; value = z.value ∙ value };
  few = λ taken. omega (arith, u.steps);
}
  where
    l : (i : ℕ) → i < length snaps → (moment : History) × (v.linked (snap_at snaps i).node.0 ≡ Some moment) × IsUnspent v.layout c.pass.0 v.past (snap_at snaps i) moment
    l = kept_linked v.layout c.pass.0 v.past v.linked c.kept snaps kept r.stands.kept

-- each cell of what is kept has its snapshot
pub scx_linked : (v : ClientView) (c : Client) (command : Command) (snaps : List Snap) (cells : List ℕ) → Rests v c → AllKept c.kept snaps → nodes_of snaps ≡ cells → AreLinked v.linked cells
scx_linked v c command snaps cells r kept nodes = are_linked v c command snaps cells nodes (λ i p. let y = kept_linked v.layout c.pass.0 v.past v.linked c.kept snaps kept r.stands.kept i p in (y.0, y.1))

pub begins_put : (v : ClientView) (began : Option ℕ) (old new : Client) (update : _) (answer : Option Answer) → IsNextCallUnbegun v began → command_of v old ≡ Some (ScxCommand update) → AreLinked v.linked (update_cells update) → Puts v v.linked old new answer → BeginsOrRefuses v old.begin old new answer
begins_put v began old new update None u is linked p = (p.same, p.begin, (p.running, p.is, p.waits))
begins_put v began old new update (Some answer) u is linked p =
    let w = full_answer v.layout v.past new.pass.0 (held new) answer p.2.holds.share p.2.holds.upper p.3 in
    subst (λ (a : Answer). BeginsOrRefuses v old.begin old new (Some a)) (sym w.is)
    (p.0, p.1, record { rests = record { stands = p.2.stands; holds = p.2.holds; none = p.2.none }; command = ScxCommand update; is = rw p.0.pass is; refusal = tt; right = (linked, w.few); unwon = u.won; took = taken_nothing v new.pass.0 (held new) 1 1 p.2.holds.share (taken_none v new.pass.0 (no_hand (held new)) u.start) })

-- a cell without a snapshot is a refusal of an SCX and of a VLX
pub scx_unlinked : (v : ClientView) (began : Option ℕ) (c : Client) (update : _) (node : NodeNo) → Rests v c → IsNextCallUnbegun v began → command_of v c ≡ Some (ScxCommand update) → IsFirstUnkept c.kept (update_cells update) node.0 → Refuses v c (Unlinked node)
scx_unlinked v began c update node r u is x = record { rests = r; command = ScxCommand update; is = is; refusal = tt; right = first_unlinked v.layout c.pass.0 v.past v.linked c.kept (update_cells update) node.0 r.stands.kept (unkept_is v c r) x; unwon = u.won; took = taken_nothing v c.pass.0 (held c) 1 1 r.holds.share (taken_none v c.pass.0 (no_hand (held c)) u.start) }

pub vlx_unlinked : (v : ClientView) (began : Option ℕ) (c : Client) (cells : _) (node : NodeNo) → Rests v c → IsNextCallUnbegun v began → command_of v c ≡ Some (VlxCommand cells) → IsFirstUnkept c.kept (cells_of cells) node.0 → Refuses v c (Unlinked node)
vlx_unlinked v began c cells node r u is x = record { rests = r; command = VlxCommand cells; is = is; refusal = tt; right = first_unlinked v.layout c.pass.0 v.past v.linked c.kept (cells_of cells) node.0 r.stands.kept (unkept_is v c r) x; unwon = u.won; took = taken_nothing v c.pass.0 (held c) 0 0 r.holds.share (taken_none v c.pass.0 (no_hand (held c)) u.start) }

some_call : (a b : Call) → Some a ≡ Some b → a ≡ b
some_call a b e = cc

-- a call at this place of the script is the client's next
pub next_is : (v : ClientView) (c : Client) (calls : List Call) (at : ℕ) (call : Call) → Rests v c → calls ≡ v.calls → c.next ≡ Some at → slice_get calls at ≡ Some call → command_of v c ≡ Some call.command
next_is v c calls at call r e is get =
    let x = next_at v.calls c.pass.0 c.number at (rw is at r.stands.place) in
    let y : Some call ≡ Some x.0 = sym get ∙ ap (λ (l : List Call). slice_get l at) e ∙ x.1 in
    rw (sym r.stands.number) (x.3 ∙ ap (λ (k : Command). Some k) (sym (ap (λ (k : Call). k.command) (some_call call _ y))))

-- a call of a script whose calls are of its mode
pub mode_there : (mode : Mode) (calls : List Call) (at : ℕ) (call : Call) → All (λ (k : Call). IsOfMode mode k.command) calls → slice_get calls at ≡ Some call → IsOfMode mode call.command
mode_there mode calls at call all e = subst (λ (k : Call). IsOfMode mode k.command) (get_or_from_slice_get calls at call call e) (all at call (slice_get_within calls at call e))

-- what a lookup found
pub get_there : (calls : List Call) (at : ℕ) (call : Call) → true ≡ nat_lt at (length calls) → call ≡ get_or calls at call → slice_get calls at ≡ Some call
get_there calls at call i e = slice_get_read calls (length calls) at call refl (grind (arith, i)) e

-- how a client is once its call has begun, or was refused
pub stood_refused : (v : ClientView) (turn : ℕ) (old new : Client) (answer : Answer) → Rests v old → BeginsOrRefuses v turn old new (Some answer) → IsNextAction v turn old new (Answers answer)
stood_refused v turn old new answer r x = (x.0, r, x.2, x.1)

pub stood_begun : (v : ClientView) (turn : ℕ) (old new : Client) (standing : NextAction) → Rests v old → BeginsOrRefuses v turn old new None → MatchOption new.running (standing ≡ Finished) (λ r. standing ≡ Asks r.step) → IsNextAction v turn old new standing
stood_begun v turn old new standing r x m =
    let y : standing ≡ Asks x.2.0.step = rw x.2.1 at m in
    rw y (x.0, x.2.0, x.2.1, refl, x.2.2, inl (r, x.1))
