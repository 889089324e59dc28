-- What each row leaves of what the clients know.
use Rattle.std.proofs.Common.{◌≡◌, ◌≢◌, ℕ, suc, ◌<◌, ◌≤◌, ◌⊎◌, inl, inr, ⊎_elim, Option, Some, None, List, refl, sym, ◌∙◌, subst, arith}
use Rattle.arena.specs.Opening.{IsMap}
use Rattle.histories.specs.Common.{Layout, Row, Step as Ask, Remaining, word_after, History, ◌⊳◌, value, Extends, IsMember}
use Rattle.histories.specs.Common.{IsInProgress, IsOwnNode, IsOwnScx, IsTakenNode, IsTakenScx, Lawful, HasWon, IsWin, Call, IsTold, row_of, LoadInfo}
use Rattle.arena.proofs.Lemmas.{last_more, ends_self, ends_trans, taken_more}
use Rattle.histories.proofs.Lemmas.{Logs, UpdateWins, facts_before, logs, same as log_same, update_split, update_win, update_won, lawful_row, wins as log_wins, won_more}
use Rattle.template.specs.Common.{AllowsAll, AreFinished, IsAmong, snap_at, Snap, IsShare, PutRun}
use Rattle.prims.specs.Laws.Begun.{TakesOnly, takes_by_others}
use Rattle.prims.proofs.Lemmas.{alone_more, moment_more, over_more, put_covers, put_covers_then, share_by_others, share_by_step, share_by_put, own_in_hand, next_idle, wins_in_progress, usable_since, llx_fills_not, vlx_fills_not, put_looks_not, untaken_node_by_others}
use Rattle.record.specs.Common.{Command, Llx as LlxOf, Scx as ScxOf, Vlx as VlxOf, Set as SetOf, Map as MapOf}
use Rattle.player.specs.declared.run.Run.{Run}
use Rattle.player.specs.declared.run.Run.TheVariants.{Llx, Scx, Vlx, Map}
use Rattle.player.specs.declared.client.Client.{Client}
use Rattle.player.specs.declared.client.Running.{Running}
use Rattle.player.specs.declared.client.SetField.{SetField}
use Rattle.player.specs.declared.kept.KeptSnapshot.{KeptSnapshot}
use Rattle.player.specs.KeptSnaps.{IsUnspent, kept_of, snap_of}
use Rattle.record.specs.Answers.{HasRoom}
use Rattle.dict.specs.Calls.{trie_in}
use Rattle.player.proofs.NewestRow.{older, newest_row}
use Rattle.player.proofs.Shapes.{of_map}
use Rattle.player.specs.RunKnown.{RunWaits, RunIsReady, run_mode}
use Rattle.player.proofs.RunLaws.{run_keeps, run_lawful, run_made}
use Rattle.player.specs.ClientView.{ClientView, Hand, no_hand, in_hand, snaps_of, IsSound, HasNewest, IsStart, IsSource, IsMachineOf, HasTaken, HaveMoments, IsRoomy, IsWonAs, IsOwnWin, IsWonSince, IsWonBy, held, HoldsShare, Holds, TakesInHand, IsClientState, Rests, Works, WaitsForStep, Hears, IsClient, machine_call}
use Rattle.player.proofs.Over.{IsOfCells, takes_by_own, nodes_by_own}

some_number : (a b : ℕ) → Some a ≡ Some b → a ≡ b
some_number a b e = cc

-- Its own machine's step leaves what the share still has untouched

pub share_by_own : (run : Run) (call : Call) (h : History) (step : Ask) (left : Remaining) (node scx : ℕ) → IsOfCells run → Lawful call.layout (row_of call step h ⊳ h) → RunWaits run call h step → HasNewest left run → IsShare call.layout h call.pass left node scx → IsShare call.layout (row_of call step h ⊳ h) call.pass left node scx
share_by_own (Llx m) call h step left node scx is l w newest x = share_by_step call.layout h (row_of call step h) call.pass left node scx l (llx_fills_not AllowsAll m call h step w) x
share_by_own (Vlx m) call h step left node scx is l w newest x = share_by_step call.layout h (row_of call step h) call.pass left node scx l (vlx_fills_not m.snaps m.asked call h step w) x
share_by_own (Map m) call h step left node scx is l w newest x = absurd is
share_by_own (Scx m) call h step left node scx is l w newest x = share_by_put AllowsAll m call h step left node scx l w newest.0 newest.1 x

-- the view with one row more, with this begin of the call, this many steps of its own, and this
-- turn of its update
abbrev pub after_row : ClientView → Row → History → ℕ → Option ℕ → ClientView
after_row v r start steps won = record { layout = v.layout; tries = v.tries; calls = v.calls; past = r ⊳ v.past; answered = v.answered; start = start; steps = steps; won = won; linked = v.linked }

-- the row of a client's own step
abbrev pub own_row : ClientView → Client → Ask → Row
own_row v c step = record { pass = record { 0 = c.pass.0 }; call = c.number; kind = step.kind; word = step.word; before = value v.past step.word; after = word_after step.access (value v.past step.word) }

-- what a client has does not ask when its call began, nor whether an update has won
pub stands_from : (v : ClientView) (c : Client) (start : History) (won : Option ℕ) (hand : Hand) → IsClientState v c hand → IsClientState (record v { start = start; won = won }) c hand
stands_from v c start won hand x = record { is_pass = x.is_pass; tries = x.tries; number = x.number; place = x.place; kept = x.kept; unkept = x.unkept; dropped = x.dropped; free = x.free; trie = x.trie }

pub holds_from : (v : ClientView) (c : Client) (start : History) (won : Option ℕ) (hand : Hand) → HoldsShare v c hand → HoldsShare (record v { start = start; won = won }) c hand
holds_from v c start won hand x = record { some = x.some; share = x.share; upper = x.upper; over = x.over }

-- What a client has in hand

-- what an SCX-record in hand covers: the nodes of the snapshots in hand
abbrev pub Covers : Layout → History → ℕ → Hand → Type 0
Covers lay h c hand = (n : ℕ) → IsOwnScx lay c hand.scx → IsInProgress h hand.scx → IsMember h hand.scx n → IsAmong hand.snaps n

-- a client without one covers nothing
covers_none : (lay : Layout) (h : History) (c : ℕ) (left : Remaining) (node scx : ℕ) → Lawful lay h → IsShare lay h c left node scx → Covers lay h c (no_hand left)
covers_none lay h c left node scx l share n own p m = absurd (next_idle lay h c left node scx l share own p)

covers_waits : (run : Run) (call : Call) (h : History) (step : Ask) (left : Remaining) → IsOfCells run → Lawful call.layout h → RunWaits run call h step → IsShare call.layout h call.pass left (in_hand left run).node (in_hand left run).scx → Covers call.layout h call.pass (in_hand left run)
covers_waits (Map m) call h step left is l w share = absurd is
covers_waits (Scx m) call h step left is l w share = λ n own p x. put_covers AllowsAll m call h step n w p x
covers_waits run call h step left is l w share = covers_none call.layout h call.pass left _ _ l share

covers_ready : (run : Run) (call : Call) (h : History) (v : ℕ) (left : Remaining) → IsOfCells run → Lawful call.layout h → RunIsReady run call h (Some v) → IsShare call.layout h call.pass left (in_hand left run).node (in_hand left run).scx → Covers call.layout h call.pass (in_hand left run)
covers_ready (Map m) call h v left is l w share = absurd is
covers_ready (Scx m) call h v left is l w share = λ n own p x. put_covers_then AllowsAll m call h v n w p x
covers_ready run call h v left is l w share = covers_none call.layout h call.pass left _ _ l share

-- One more row

-- at which no SCX-record of the client in progress covers its node, a snapshot stays unspent
unspent_more : (lay : Layout) (c : ℕ) (h : History) (r : Row) (snap : Snap) (moment : History) → Lawful lay (r ⊳ h) → ((s : ℕ) → IsOwnScx lay c s → IsInProgress (r ⊳ h) s → ¬ IsMember (r ⊳ h) s snap.node.0) → IsUnspent lay c h snap moment → IsUnspent lay c (r ⊳ h) snap moment
unspent_more lay c h r snap moment l none x = record { usable = usable_since lay (r ⊳ h) h snap moment l (inr (ends_self h)) x.usable; alone = alone_more lay c h r snap none x.alone }

-- no SCX-record of the client in progress covers a node that it keeps a snapshot of
abbrev LeavesKept : ClientView → Client → History → Type 0
LeavesKept v c h = (n : ℕ) (found : KeptSnapshot) → kept_of c.kept n ≡ Some found → (s : ℕ) → IsOwnScx v.layout c.pass.0 s → IsInProgress h s → ¬ IsMember h s n

-- the one in hand covers nodes of its own snapshots alone
leaves_hand : (v : ClientView) (c : Client) (h : History) (hand : Hand) → Lawful v.layout h → AreFinished v.layout c.pass.0 hand.scx h → Covers v.layout h c.pass.0 hand → IsClientState v c hand → LeavesKept v c h
leaves_hand v c h hand l over covers x n found e s own p m =
    let same : s ≡ hand.scx = own_in_hand v.layout h c.pass.0 s hand.scx l over own p in
    let none : kept_of c.kept n ≡ None = x.dropped n (covers n (rw same at own) (rw same at p) (rw same at m)) in
    let e2 : kept_of c.kept n ≡ Some found = e in
    cc

-- of a map nothing is kept
leaves_map : (v : ClientView) (c : Client) (h : History) (hand : Hand) → IsMap v.layout.mode → IsClientState v c hand → LeavesKept v c h
leaves_map v c h hand mode x n found e s own p m =
    let none : kept_of c.kept n ≡ None = x.free mode n in
    let e2 : kept_of c.kept n ≡ Some found = e in
    absurd cc

-- so it leaves what the client has
stands_more : (v : ClientView) (c : Client) (r : Row) (start : History) (steps : ℕ) (won : Option ℕ) (hand : Hand) → IsSound (after_row v r start steps won) → LeavesKept v c (r ⊳ v.past) → IsClientState v c hand → IsClientState (after_row v r start steps won) c hand
stands_more v c r start steps won hand run alone x = record {
  is_pass = x.is_pass;
  tries = x.tries;
  number = x.number;
  place = x.place;
  kept = λ n found e. let y = x.kept n found e in (y.0, y.1, unspent_more v.layout c.pass.0 v.past r (snap_of n found) y.0 run.lawful (alone n found e) y.2);
  unkept = x.unkept;
  dropped = x.dropped;
  free = x.free;
  trie = x.trie;
}

-- and what it holds of its share, if that is untouched and what it has taken finished
holds_more : (v : ClientView) (c : Client) (r : Row) (start : History) (steps : ℕ) (won : Option ℕ) (hand : Hand) → IsShare v.layout (r ⊳ v.past) c.pass.0 (held c) hand.node hand.scx → AreFinished v.layout c.pass.0 hand.scx (r ⊳ v.past) → HoldsShare v c hand → HoldsShare (after_row v r start steps won) c hand
holds_more v c r start steps won hand share over x = record { some = x.some; share = share; upper = x.upper; over = over }

-- a row leaves what a machine has in hand, except for a call of the map, which says so by itself
abbrev LeavesHand : ClientView → Client → Row → Run → Type 0
LeavesHand v c r (Map m) = Unit {0}
LeavesHand v c r q = TakesOnly v.layout c.pass.0 (in_hand (held c) q).scx v.past r × ((n : ℕ) → IsOwnNode v.layout c.pass.0 n → n ≢ (in_hand (held c) q).node → ¬ IsTakenNode v.past n → ¬ IsTakenNode (r ⊳ v.past) n)

-- what a row says of the update of client c: it has won in this turn, or its turn is as it was
pub record TellsWon (v : ClientView) (c : ℕ) (r : Row) (number : ℕ) (won : Option ℕ) : Type 0 where
  pub yes : (s : ℕ) → UpdateWins v.past r s → IsOwnScx v.layout c s → won ≡ Some number
  pub no : (won ≡ v.won) ⊎ ((won ≡ Some number) × ((s : ℕ) × UpdateWins v.past r s × IsOwnScx v.layout c s))

-- an SCX-record has won after a row if it had, or if the row is its win
won_by : (lay : Layout) (h : History) (r : Row) (s : ℕ) → Lawful lay (r ⊳ h) → HasWon (r ⊳ h) s → HasWon h s ⊎ UpdateWins h r s
won_by lay h r s l w = go (logs lay h r l)
  where
    go : Logs lay h r → HasWon h s ⊎ UpdateWins h r s
    go (log_same e back) = inl (back s w)
    go (log_wins u x e) = ⊎_elim (λ q. inr (rw q x)) (λ y. inl y) (update_split (facts_before lay h r l) x s w)

module _ (v : ClientView) (c : Client) (r : Row) (number : ℕ) (start : History) (steps : ℕ) (won : Option ℕ) (sound : IsSound v) (run : IsSound (after_row v r start steps won)) (tells : TellsWon v c.pass.0 r number won) where
  -- without an SCX in hand no update of the client's wins
  no_win : (hand : Hand) → HoldsShare v c hand → hand.scx ≡ (held c).next_scx → v.won ≡ None → won ≡ None
  no_win hand x e none = ⊎_elim (λ q. q ∙ none) (λ y. absurd (bad y.1)) tells.no
    where
      bad : ((s : ℕ) × UpdateWins v.past r s × IsOwnScx v.layout c.pass.0 s) → ⊥
      bad y =
          let p : IsInProgress v.past y.0 = wins_in_progress v.layout v.past r y.0 run.lawful y.1 in
          let same : y.0 ≡ (held c).next_scx = own_in_hand v.layout v.past c.pass.0 y.0 hand.scx sound.lawful x.over y.2 p ∙ e in
          next_idle v.layout v.past c.pass.0 (held c) hand.node hand.scx sound.lawful x.share (rw same at y.2) (rw same at p)

  -- a turn in which an update has won stays
  still : (turn : ℕ) → v.won ≡ Some turn → (turn : ℕ) × (won ≡ Some turn)
  still turn e = ⊎_elim (λ q. (turn, q ∙ e)) (λ y. (number, y.0)) tells.no

  -- the update of the SCX in hand has won where its SCX-record has
  won_as : (hand : Hand) → HoldsShare v c hand → IsWonAs v c.pass.0 hand.scx → IsWonAs (after_row v r start steps won) c.pass.0 hand.scx
  won_as hand x w = record { own = w.own; yes = yes; no = no }
    where
      yes : HasWon (r ⊳ v.past) hand.scx → (turn : ℕ) × (won ≡ Some turn)
      yes y = ⊎_elim (λ z. let q = w.yes z in still q.0 q.1) (λ z. (number, tells.yes hand.scx z w.own)) (won_by v.layout v.past r hand.scx run.lawful y)

      no : ¬ HasWon (r ⊳ v.past) hand.scx → won ≡ None
      no y = ⊎_elim (λ q. q ∙ w.no (λ z. y (won_more r v.past hand.scx z))) (λ z. absurd (bad z.1)) tells.no
        where
          bad : ((s : ℕ) × UpdateWins v.past r s × IsOwnScx v.layout c.pass.0 s) → ⊥
          bad z =
              let same : z.0 ≡ hand.scx = own_in_hand v.layout v.past c.pass.0 z.0 hand.scx sound.lawful x.over z.2 (wins_in_progress v.layout v.past r z.0 run.lawful z.1) in
              y (rw same at (update_won (facts_before v.layout v.past r run.lawful) z.1))

  -- an update of the call has won where some row since its start has made one win
  won_since : start ≡ v.start → Extends v.past v.start → IsWonSince v c.pass.0 → IsWonSince (after_row v r start steps won) c.pass.0
  won_since same since x = record { yes = yes; no = no }
    where
      yes : (row : Row) (before : History) (s : ℕ) → IsOwnWin (after_row v r start steps won) c.pass.0 row before s → (turn : ℕ) × (won ≡ Some turn)
      yes row before s w = go w.within
        where
          go : Extends (r ⊳ v.past) (row ⊳ before) → (turn : ℕ) × (won ≡ Some turn)
          go (inl e) =
              let now : IsWin v.past r s = subst (λ (k : History). IsWin (older k) (newest_row r k) s) e w.wins in
              (number, tells.yes s record { kind = now.kind; update = now.update; before = (lawful_row v.layout v.past r run.lawful).before; found = now.found; stored = now.update.exchange.won now.found } w.own)
          go (inr e) = let q = x.yes row before s record { within = e; since = subst (λ (k : History). Extends before k) same w.since; wins = w.wins; own = w.own } in still q.0 q.1

      earlier : (v.won ≡ None) ⊎ ((row : Row) × (before : History) × (s : ℕ) × IsOwnWin v c.pass.0 row before s) → won ≡ v.won → (won ≡ None) ⊎ ((row : Row) × (before : History) × (s : ℕ) × IsOwnWin (after_row v r start steps won) c.pass.0 row before s)
      earlier (inl n) q = inl (q ∙ n)
      earlier (inr (row, before, s, y)) q = inr (row, before, s, record { within = inr y.within; since = subst (λ (k : History). Extends before k) (sym same) y.since; wins = y.wins; own = y.own })

      no : (won ≡ None) ⊎ ((row : Row) × (before : History) × (s : ℕ) × IsOwnWin (after_row v r start steps won) c.pass.0 row before s)
      no = ⊎_elim (λ q. earlier x.no q) (λ y. inr (r, v.past, y.1.0, record { within = inl refl; since = subst (λ (k : History). Extends v.past k) (sym same) since; wins = update_win (facts_before v.layout v.past r run.lawful) y.1.1; own = y.1.2 })) tells.no

  won_more_by : (q : Run) → start ≡ v.start → Extends v.past v.start → Holds v c q → IsWonBy v c.pass.0 q → IsWonBy (after_row v r start steps won) c.pass.0 q
  won_more_by (Scx m) same since x w = won_as (in_hand (held c) (Scx m)) x w
  won_more_by (Map m) same since x w = won_since same since w
  won_more_by q same since x w = no_win (no_hand (held c)) x refl w

  late_more : c.begin ≤ number → ((turn : ℕ) → v.won ≡ Some turn → c.begin ≤ turn) → (turn : ℕ) → won ≡ Some turn → c.begin ≤ turn
  late_more i f turn e = ⊎_elim (λ q. f turn (sym q ∙ e)) (λ y. let same : number ≡ turn = some_number number turn (sym y.0 ∙ e) in rw same at i) tells.no

  -- the moments of snapshots stay, where the row looks at no info word for the client
  moments_more : (command : Command) (snaps : List Snap) → start ≡ v.start → (r.pass.0 ≡ c.pass.0 → r.kind ≢ LoadInfo) → HaveMoments v c.pass.0 command snaps → HaveMoments (after_row v r start steps won) c.pass.0 command snaps
  moments_more command snaps since looks x i p =
      let y = x i p in
      record { moment = y.moment; found = moment_more v.layout v.past r (snap_at snaps i) y.moment y.found; source = source_more command (snap_at snaps i).node.0 y.moment y.source }
    where
      source_more : (command : Command) (n : ℕ) (moment : History) → IsSource v c.pass.0 command n moment → IsSource (after_row v r start steps won) c.pass.0 command n moment
      source_more (SetOf field x) n moment y = record { row = y.row; before = y.before; is = y.is; since = subst (λ (k : History). Extends y.before k) (sym since) y.since; last = last_more c.pass.0 v.past LoadInfo n r y.row y.before looks y.last }
      source_more (ScxOf update) n moment y = y
      source_more (VlxOf cells) n moment y = y
      source_more (LlxOf cell) n moment y = y
      source_more (MapOf request) n moment y = y

  -- an LLX has no snapshots yet, and those of a VLX are kept ones
  moments_by : (q : Run) (then : Option SetField) (command : Command) → start ≡ v.start → ((m : PutRun) → q ≡ Scx m → r.pass.0 ≡ c.pass.0 → r.kind ≢ LoadInfo) → IsMachineOf command c.number q then → HaveMoments v c.pass.0 command (snaps_of q) → HaveMoments (after_row v r start steps won) c.pass.0 command (snaps_of q)
  moments_by (Llx m) then command since looks of x = λ i p. absurd (omega arith)
  moments_by (Scx m) then command since looks of x = moments_more command m.scx.update.snaps since (looks m refl) x
  moments_by (Vlx m) then (VlxOf cells) since looks of x = λ i p. let y = x i p in record { moment = y.moment; found = moment_more v.layout v.past r (snap_at m.snaps i) y.moment y.found; source = y.source }
  moments_by (Map m) then command since looks of x = λ i p. absurd (omega arith)
  moments_by (Vlx m) then command since looks of x = absurd of

  took_hand : (hand : Hand) → TakesOnly v.layout c.pass.0 hand.scx v.past r → ((n : ℕ) → IsOwnNode v.layout c.pass.0 n → n ≢ hand.node → ¬ IsTakenNode v.past n → ¬ IsTakenNode (r ⊳ v.past) n) → start ≡ v.start → HasTaken v c.pass.0 hand → HasTaken (after_row v r start steps won) c.pass.0 hand
  took_hand hand takes nodes e y = record {
    nodes = λ n own d free. nodes n own d (y.nodes n own d (subst (λ (k : History). ¬ IsTakenNode k n) e free));
    scx_records = λ s own d free. takes s own d (y.scx_records s own d (subst (λ (k : History). ¬ IsTakenScx k s) e free));
  }

  took : (q : Run) → LeavesHand v c r q → start ≡ v.start → TakesInHand v c q → TakesInHand (after_row v r start steps won) c q
  took (Map m) leaves e y = tt
  took q leaves e y = took_hand (in_hand (held c) q) leaves.0 leaves.1 e y

  roomy : (q : Run) → start ≡ v.start → IsRoomy v c.pass.0 q → IsRoomy (after_row v r start steps won) c.pass.0 q
  roomy (Scx m) e y = subst (λ (k : History). HasRoom v.layout c.pass.0 k × ¬ IsTakenScx k m.scx.scx.0) (sym e) y
  roomy q e y = tt

  -- a machine has started at the start of its call or later
  begun_since : (q : Run) (start : History) → Extends v.past start → IsStart q start v.start → Extends v.past v.start
  begun_since (Scx m) start since begun = ends_trans v.past start v.start since begun
  begun_since q start since begun = subst (λ (k : History). Extends v.past k) begun since

  -- a machine still runs
  works_more : (q : Run) (then : Option SetField) → start ≡ v.start → c.begin ≤ number → ((m : PutRun) → q ≡ Scx m → r.pass.0 ≡ c.pass.0 → r.kind ≢ LoadInfo) → LeavesHand v c r q → IsClientState (after_row v r start steps won) c (in_hand (held c) q) → Holds (after_row v r start steps won) c q → Works v c q then → Works (after_row v r start steps won) c q then
  works_more q then same i looks leaves stands holds x = record {
    mode = x.mode;
    stands = stands;
    holds = holds;
    newest = x.newest;
    command = x.command;
    is = x.is;
    run_of = x.run_of;
    limit = x.limit;
    is_pass = x.is_pass;
    start = x.start;
    since = inr x.since;
    begun = subst (λ (k : History). IsStart q x.start k) (sym same) x.begun;
    moments = moments_by q then x.command same looks x.run_of x.moments;
    alone = x.alone;
    room = roomy q same x.room;
    took = took q leaves same x.took;
    won = won_more_by q same (begun_since q x.start x.since x.begun) x.holds x.won;
    late = late_more i x.late;
  }

-- Rows of others

module _ (v : ClientView) (c : Client) (r : Row) (number : ℕ) (start : History) (won : Option ℕ) (sound : IsSound v) (run : IsSound (after_row v r start v.steps won)) (tells : TellsWon v c.pass.0 r number won) (other : r.pass.0 ≢ c.pass.0) (is_pass : c.pass.0 < v.layout.passes) where
  share_then : (hand : Hand) → HoldsShare v c hand → HoldsShare (after_row v r start v.steps won) c hand
  share_then hand x = holds_more v c r start v.steps won hand (share_by_others v.layout v.past r c.pass.0 (held c) hand.node hand.scx run.lawful is_pass other x.share) (over_more v.layout c.pass.0 hand.scx v.past r run.lawful (takes_by_others v.layout c.pass.0 hand.scx v.past r run.lawful other) x.over) x

  -- what holds of a machine that has none of the share
  record StillStands (q : Run) : Type 0 where
    stands : IsClientState (after_row v r start v.steps won) c (in_hand (held c) q)
    holds : Holds (after_row v r start v.steps won) c q
    leaves : LeavesHand v c r q

  nodes_then : (n : ℕ) → IsOwnNode v.layout c.pass.0 n → ¬ IsTakenNode v.past n → ¬ IsTakenNode (r ⊳ v.past) n
  nodes_then n own = untaken_node_by_others v.layout v.past r c.pass.0 n run.lawful other own

  hand_then : (hand : Hand) → Covers v.layout (r ⊳ v.past) c.pass.0 hand → IsClientState v c hand → HoldsShare v c hand → IsClientState (after_row v r start v.steps won) c hand
  hand_then hand covers x h = stands_more v c r start v.steps won hand run (leaves_hand v c (r ⊳ v.past) hand run.lawful (share_then hand h).over covers x) x

  still_stands : (q : Run) (step : Ask) (p : c.pass.0 < v.layout.passes) (start : History) → RunWaits q (machine_call v c p start) (r ⊳ v.past) step → v.layout.mode ≡ run_mode q → IsClientState v c (in_hand (held c) q) → Holds v c q → StillStands q
  still_stands (Map m) step p start w mode x h = record { stands = stands_more v c r _ v.steps won (in_hand (held c) (Map m)) run (leaves_map v c (r ⊳ v.past) _ (of_map v.layout.mode (trie_in m.run) mode) x) x; holds = h; leaves = tt }
  still_stands q step p start w mode x h = record { stands = hand_then _ (covers_waits q (machine_call v c p start) (r ⊳ v.past) step (held c) tt run.lawful w (share_then _ h).share) x h; holds = share_then _ h; leaves = (takes_by_others v.layout c.pass.0 _ v.past r run.lawful other, λ n own d. nodes_then n own) }

  rests_by_others : Rests v c → Rests (after_row v r start v.steps won) c
  rests_by_others x = record { stands = hand_then (no_hand (held c)) (covers_none v.layout (r ⊳ v.past) c.pass.0 (held c) _ _ run.lawful (share_then (no_hand (held c)) x.holds).share) x.stands x.holds; holds = share_then (no_hand (held c)) x.holds; none = x.none }

  waits_by_others : (began : Option ℕ) → ((k : ℕ) → began ≡ Some k → (start ≡ v.start) × (k ≤ number)) → (q : Running) → c.running ≡ Some q → (w : WaitsForStep v c q) → began ≡ Some c.begin → IsClient (after_row v r start v.steps won) began c
  unfolding works_more
  waits_by_others began g q is w e =
      let waits = run_keeps q.run (machine_call v c w.works.is_pass w.works.start) v.past q.step r w.works.mode run other w.waits in
      let then = still_stands q.run q.step w.works.is_pass w.works.start waits w.works.mode w.works.stands w.works.holds in
      inr (q, is, record { works = works_more v c r number start v.steps won sound run tells q.run q.then (g c.begin e).0 (g c.begin e).1 (λ m z own. absurd (other own)) then.leaves then.stands then.holds w.works; waits = waits; few = λ taken i. w.few taken (let more = taken_more v.past r in omega (arith, i)) }, e)

pub client_by_others : (v : ClientView) (c : Client) (r : Row) (number : ℕ) (start : History) (won : Option ℕ) → IsSound v → IsSound (after_row v r start v.steps won) → TellsWon v c.pass.0 r number won → r.pass.0 ≢ c.pass.0 → (began : Option ℕ) → (began ≡ None → start ≡ r ⊳ v.past) → ((k : ℕ) → began ≡ Some k → (start ≡ v.start) × (k ≤ number)) → IsClient v began c → IsClient (after_row v r start v.steps won) began c
client_by_others v c r number start won sound run tells other began f g (inl (x, inl none)) = inl (rests_by_others v c r number start won sound run tells other x.stands.is_pass x, inl none)
client_by_others v c r number start won sound run tells other began f g (inl (x, inr u)) = inl (rests_by_others v c r number start won sound run tells other x.stands.is_pass x, inr record { none = u.none; start = f u.none; steps = u.steps; won = no_win v c r number start v.steps won sound run tells (no_hand (held c)) x.holds refl u.won })
client_by_others v c r number start won sound run tells other began f g (inr (q, is, w, e)) = waits_by_others v c r number start won sound run tells other w.works.is_pass began g q is w e

-- Its own step

module _ (v : ClientView) (c : Client) (q : Running) (sound : IsSound v) (w : WaitsForStep v c q) where
  abbrev call : Call
  call = machine_call v c w.works.is_pass w.works.start

  pub step_sound : (won : Option ℕ) → IsSound (after_row v (own_row v c q.step) v.start (suc v.steps) won)
  step_sound won = run_lawful q.run call v.past q.step w.works.mode sound w.waits

  -- what its step leaves
  record StandsThen (won : Option ℕ) (run : Run) : Type 0 where
    stands : IsClientState (after_row v (own_row v c q.step) v.start (suc v.steps) won) c (in_hand (held c) run)
    holds : Holds (after_row v (own_row v c q.step) v.start (suc v.steps) won) c run
    leaves : LeavesHand v c (own_row v c q.step) run

  -- of a machine that has none of the share
  hand_stands : (won : Option ℕ) (run : Run) (found : ℕ) → IsOfCells run → RunWaits run call v.past q.step → RunIsReady run call (own_row v c q.step ⊳ v.past) (Some found) → HasNewest (held c) run → IsClientState v c (in_hand (held c) run) → HoldsShare v c (in_hand (held c) run)
      → IsClientState (after_row v (own_row v c q.step) v.start (suc v.steps) won) c (in_hand (held c) run) × HoldsShare (after_row v (own_row v c q.step) v.start (suc v.steps) won) c (in_hand (held c) run) × TakesOnly v.layout c.pass.0 (in_hand (held c) run).scx v.past (own_row v c q.step) × ((n : ℕ) → IsOwnNode v.layout c.pass.0 n → n ≢ (in_hand (held c) run).node → ¬ IsTakenNode v.past n → ¬ IsTakenNode (own_row v c q.step ⊳ v.past) n)
  hand_stands won run found is waits ready newest x h =
      let l = (step_sound won).lawful in
      let takes = takes_by_own run call (held c) v.past q.step is waits in
      let share = share_by_own run call v.past q.step (held c) _ _ is l waits newest h.share in
      let over = over_more v.layout c.pass.0 (in_hand (held c) run).scx v.past (own_row v c q.step) l takes h.over in (
        stands_more v c (own_row v c q.step) v.start (suc v.steps) won (in_hand (held c) run) (step_sound won) (leaves_hand v c (own_row v c q.step ⊳ v.past) (in_hand (held c) run) l over (covers_ready run call (own_row v c q.step ⊳ v.past) found (held c) is l ready share) x) x,
        holds_more v c (own_row v c q.step) v.start (suc v.steps) won (in_hand (held c) run) share over h,
        takes,
        λ n own d. nodes_by_own run call (held c) v.past q.step is waits n d,
      )

  stands_then : (won : Option ℕ) (run : Run) (found : ℕ) → RunWaits run call v.past q.step → RunIsReady run call (own_row v c q.step ⊳ v.past) (Some found) → v.layout.mode ≡ run_mode run → HasNewest (held c) run → IsClientState v c (in_hand (held c) run) → Holds v c run → StandsThen won run
  stands_then won (Map m) found waits ready mode newest x h = record { stands = stands_more v c (own_row v c q.step) v.start (suc v.steps) won (in_hand (held c) (Map m)) (step_sound won) (leaves_map v c (own_row v c q.step ⊳ v.past) _ (of_map v.layout.mode (trie_in m.run) mode) x) x; holds = h; leaves = tt }
  stands_then won run found waits ready mode newest x h = let y = hand_stands won run found tt waits ready newest x h in record { stands = y.0; holds = y.1; leaves = (y.2, y.3) }

  -- the machine may get what the step found
  pub hears : (number : ℕ) (won : Option ℕ) → TellsWon v c.pass.0 (own_row v c q.step) number won → c.begin ≤ number → (found : ℕ) → IsTold q.step.access (value v.past q.step.word) found → Hears (after_row v (own_row v c q.step) v.start (suc v.steps) won) c q found
  unfolding works_more
  hears number won tells late found told =
      let run = step_sound won in
      let ready = run_made q.run call v.past q.step found w.works.mode run told w.waits in
      let then = stands_then won q.run found w.waits ready w.works.mode w.works.newest w.works.stands w.works.holds in
      record { works = works_more v c (own_row v c q.step) number v.start (suc v.steps) won sound run tells q.run q.then refl late (λ m z own. put_looks_not AllowsAll m call v.past q.step (subst (λ (k : Run). RunWaits k call v.past q.step) z w.waits)) then.leaves then.stands then.holds w.works; ready = ready; few = λ taken i. let few = w.few taken (let more = taken_more v.past (own_row v c q.step) in omega (arith, i)) in omega arith }
