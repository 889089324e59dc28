-- What each line leaves of what is true in the middle of a turn.
use Rattle.std.proofs.Common.{◌≡◌, ◌≢◌, ℕ, suc, ◌+◌, ◌<◌, ◌≤◌, Bool, true, false, cond, eqb, eqb-true, is_some, inl, inr, List, [], ◌∷◌, set, length, Option, Some, None, MatchOption, slice_get, refl, sym, ◌∙◌, ap, subst, ne_eqb, eq-eqb, arith}
use Rattle.std.proofs.lemmas.Option.{slice_get_within}
use native.Mathlib.Decide.{ℕ_discrete}
use Rattle.player.proofs.Readings.{placed}
use Rattle.histories.specs.Common.{Mode, Layout, PassNo, Row, Word, IsWord, all_nodes, all_scx, first_scx, NodeNo, Side, NodeWord, Child, Node, Update}
use Rattle.histories.specs.Common.{IsLawful, owner, same_word, info, scx as scx_word, Contents, word_at, IsChanged, History, ◌⊳◌, value, IsRun}
use Rattle.arena.specs.declared.word.ScxWord.TheVariants.{Call as CallWord}
use Rattle.histories.proofs.Lemmas.{lawful_row}
use Rattle.player.proofs.Winners.{tells_won, winner_holds, owner_is, info_kept, call_kept}
use Rattle.player.specs.declared.interleaving.Interleaving.{Interleaving}
use Rattle.arena.proofs.Lemmas.{word_same, word_apart, value_at, value_other}
use Rattle.record.specs.Common.{IsOfMode, Command, asks_map, AreFilledInOrder, Call, Pairs, NoMemory, number_pairs, Llx as LlxOf, Scx as ScxOf, Vlx as VlxOf, Set as SetOf, Map, Successor as SuccessorOf}
use Rattle.record.specs.Common.{Predecessor as PredecessorOf, Range as RangeOf, history, turns, entries, answered, begin, start, steps, won, last_client, entry_of, entry_owed, entry_at}
use Rattle.record.specs.Common.{commands, next_command, linked, HasItsEntry, MayAnswerAtOnce, HasTakenFew, enters, IsRight, IsFitting, OwesNothing, AreLines, ManyPairs}
use Rattle.arena.specs.Opening.{IsMap}
use Rattle.player.proofs.Commands.{place_more, number_small}
use Rattle.player.specs.Allowed.{PlayedAllows}
use Rattle.ordered_map.specs.FillOrder.{IsFillInOrder}
use Rattle.record.specs.declared.record.Line.{Line}
use Rattle.record.specs.declared.record.Line.TheVariants.{Step, Log, Reply as ReplyLine}
use Rattle.record.specs.declared.record.TurnRow.TheVariants.{Step as Made, Idle}
use Rattle.record.specs.declared.record.Finished.{Finished}
use Rattle.record.specs.declared.record.Entry.{Entry}
use Rattle.record.specs.declared.record.Answer.{Answer}
use Rattle.record.specs.declared.record.Answer.TheVariants.{Done, Unlinked, Full, Map as MapAnswer}
use Rattle.player.specs.declared.client.Client.{Client}
use Rattle.player.specs.Moments.{IsMomentBy}
use Rattle.linearization.specs.declared.places.Change.{Change}
use Rattle.linearization.specs.Entries.{AreEntries}
use Rattle.player.proofs.Placing.{moment_same, moment_within}
use Rattle.record.specs.Replies.{IsReply}
use Rattle.record.specs.LawfulRun.{IsNext}
use Rattle.player.specs.ClientView.{ClientView, client_view, no_hand, held, AnswersRight, linked_by, Rests, IsClient, IsAtNextCall, Refuses}
use Rattle.player.specs.BetweenTurns.{IsLawfulSoFar, AreOthers, IsTurnOf, AreBetweenTurns, IsMade, IsEnd, AreWins}
use Rattle.player.proofs.Views.{TellsWon, client_by_others, stands_from, holds_from}
use Rattle.record.proofs.Lemmas.{some_turn, start_kept, begin_within, won_within, get_other, get_own, get_there, of_commands, none_left, next_at}
use Rattle.player.proofs.MapEnds.{entered_none}
use Rattle.linearization.specs.Ordered.{FallFrom}
use Rattle.linearization.proofs.Lemmas.{falls, nothing_taken}

-- Others

pub others_step : (lay : Layout) (tries : ℕ) (calls : List Call) (clients : List Client) (lines : List Line) (i number : ℕ) (row : Row) → IsRun PlayedAllows lay (history lay.mode lines) → IsRun PlayedAllows lay (row ⊳ history lay.mode lines) → row.pass.0 ≡ i → number ≡ suc (turns lines) → AreLines lay tries calls lines → AreOthers lay tries calls clients lines i → AreOthers lay tries calls clients (Step (Made number row) ∷ lines) i
others_step lay tries calls clients lines i number row sound run is turn so_far x j c d get =
    let y = x j c d get in
    let tells = subst (λ (k : ℕ). TellsWon (client_view lay tries calls lines j) k row number (won lay (Step (Made number row) ∷ lines) j)) (sym y.0) (tells_won lay lines number row run.lawful tries calls j) in (
      y.0,
      rw (ne_eqb row.pass.0 j (λ e. d (sym e ∙ is))) (client_by_others (client_view lay tries calls lines j) c row number (cond (is_some (begin lines j)) (start lay.mode lines j) (row ⊳ history lay.mode lines)) (won lay (Step (Made number row) ∷ lines) j) sound run tells (λ e. d (sym y.0 ∙ sym e ∙ is)) (begin lines j)
          (λ e. rw e refl) (λ k e. (rw e refl, let late = begin_within lay tries calls lines j k so_far e in omega (arith, turn))) y.1),
    )

others_idle : (lay : Layout) (tries : ℕ) (calls : List Call) (clients : List Client) (lines : List Line) (i number : ℕ) (pass : PassNo) → pass.0 ≡ i → AreOthers lay tries calls clients lines i → AreOthers lay tries calls clients (Step (Idle number pass) ∷ lines) i
others_idle lay tries calls clients lines i number pass is x j c d get =
    let y = x j c d get in
    (y.0, rw (ne_eqb pass.0 j (λ e. d (sym e ∙ is))) (subst (λ (k : History). IsClient (record { layout = lay; tries = tries; calls = calls; past = history lay.mode lines; answered = answered lines j; start = k; steps = steps lines j; won = won lay lines j; linked = linked calls lay.mode lines j }) (begin lines j) c) (sym (start_kept lay.mode lines j)) y.1))

-- an entry changes nothing of what the clients know
pub others_log : (lay : Layout) (tries : ℕ) (calls : List Call) (clients : List Client) (lines : List Line) (i : ℕ) (entry : Entry) → AreOthers lay tries calls clients lines i → AreOthers lay tries calls clients (Log entry ∷ lines) i
others_log lay tries calls clients lines i entry x = x

-- a reply of another client leaves the snapshots
linked_other : (calls : List Call) (mode : Mode) (lines : List Line) (reply : Finished) (c n : ℕ) → reply.client.0 ≢ c → linked calls mode (ReplyLine reply ∷ lines) c n ≡ linked calls mode lines c n
linked_other calls mode lines reply c n d = rw (ne_eqb reply.client.0 c d) refl

others_reply : (lay : Layout) (tries : ℕ) (calls : List Call) (clients : List Client) (lines : List Line) (i : ℕ) (reply : Finished) → reply.client.0 ≡ i → AreOthers lay tries calls clients lines i → AreOthers lay tries calls clients (ReplyLine reply ∷ lines) i
others_reply lay tries calls clients lines i reply is x j c d get =
    let y = x j c d get in
    let other : reply.client.0 ≢ j = λ e. d (sym e ∙ is) in
    let same : linked calls lay.mode lines j ≡ linked calls lay.mode (ReplyLine reply ∷ lines) j = λ k n. sym (linked_other calls lay.mode lines reply j n other) k in
    (y.0, rw (ne_eqb reply.client.0 j other) (subst (λ (l : ℕ → Option History). IsClient (record { layout = lay; tries = tries; calls = calls; past = history lay.mode lines; answered = answered lines j; start = start lay.mode lines j; steps = steps lines j; won = won lay lines j; linked = l }) (begin lines j) c) same y.1))

-- its turn continues with the client changed
pub turn_changed : (lay : Layout) (tries : ℕ) (calls : List Call) (words : Contents) (clients : List Client) (lines : List Line) (old new : Client) → new.pass ≡ old.pass → IsTurnOf lay tries calls words clients lines old → IsTurnOf lay tries calls words (set clients old.pass.0 new) lines new
turn_changed lay tries calls words clients lines old new same x = record {
  so_far = x.so_far;
  others = λ j c d get. x.others j c (λ e. d (e ∙ ap (λ (p : PassNo). p.0) (sym same))) (sym (get_other clients old.pass.0 j new (λ e. d (e ∙ ap (λ (p : PassNo). p.0) (sym same)))) ∙ get);
  own = subst (λ (k : ℕ). slice_get (set clients old.pass.0 new) k ≡ Some new) (ap (λ (p : PassNo). p.0) (sym same)) (get_own clients old.pass.0 old new x.own);
}

-- a turn begins and ends between two turns
pub turn_begins : (lay : Layout) (tries : ℕ) (calls : List Call) (words : Contents) (clients : List Client) (lines : List Line) (i : ℕ) (c : Client) → slice_get clients i ≡ Some c → AreBetweenTurns lay tries calls words clients lines → IsTurnOf lay tries calls words clients lines c
turn_begins lay tries calls words clients lines i c get x =
    let y = x.each i c get in
    record { so_far = x.so_far; others = λ j d n g. x.each j d g; own = subst (λ (k : ℕ). slice_get clients k ≡ Some c) (sym y.0) get }

pub some_client : (a b : Client) → Some a ≡ Some b → a ≡ b
some_client a b e = cc

pub turn_ends : (lay : Layout) (tries : ℕ) (calls : List Call) (words : Contents) (clients : List Client) (lines : List Line) (c : Client) → OwesNothing lay calls lines → IsClient (client_view lay tries calls lines c.pass.0) (begin lines c.pass.0) c → IsTurnOf lay tries calls words clients lines c → AreBetweenTurns lay tries calls words clients lines
turn_ends lay tries calls words clients lines c settled is x = record { so_far = x.so_far; settled = settled; each = λ j d get. go j d get (ℕ_discrete j c.pass.0) }
  where
    go : (j : ℕ) (d : Client) → slice_get clients j ≡ Some d → Dec (j ≡ c.pass.0) → (d.pass.0 ≡ j) × IsClient (client_view lay tries calls lines j) (begin lines j) d
    go j d get (no n) = x.others j d n get
    go j d get (yes e) =
        let same : d ≡ c = some_client d c (sym get ∙ ap (λ (k : ℕ). slice_get clients k) e ∙ x.own) in
        rw (same, e) (refl, is)

-- Lines

-- a line that no client waits for is written down
pub so_far_same : (lay : Layout) (tries : ℕ) (calls : List Call) (words : Contents) (lines : List Line) (line : Line) → history lay.mode (line ∷ lines) ≡ history lay.mode lines → IsNext lay tries calls lines line → IsLawfulSoFar lay tries calls words lines → IsLawfulSoFar lay tries calls words (line ∷ lines)
unfolding AreLines
so_far_same lay tries calls words lines line e next x = record { layout = x.layout; holds = λ w i. x.holds w i ∙ ap (λ (h : History). value h w) (sym e); sound = rw e x.sound; in_order = (x.in_order, next); filled = λ tree. subst (λ (h : History). AreFilledInOrder h) (sym e) (x.filled tree); of_mode = x.of_mode }

-- a step of the client: the words change as the row says
pub step_made : (lay : Layout) (tries : ℕ) (calls : List Call) (old new : Contents) (lines : List Line) (number : ℕ) (row : Row) → IsChanged old new row.word row.after → IsRun PlayedAllows lay (row ⊳ history lay.mode lines) → IsNext lay tries calls lines (Step (Made number row)) → (IsMap lay.mode → IsFillInOrder (history lay.mode lines) row) → IsLawfulSoFar lay tries calls old lines → IsLawfulSoFar lay tries calls new (Step (Made number row) ∷ lines)
unfolding AreLines
step_made lay tries calls old new lines number row changed run next order x = record {
  layout = changed.layout ∙ x.layout;
  of_mode = x.of_mode;
  holds = λ w i. go w i (same_word row.word w) refl;
  sound = run;
  in_order = (x.in_order, next);
  filled = λ tree. (x.filled tree, order tree);
}
  where
    go : (w : Word) → IsWord lay w → (b : Bool) → same_word row.word w ≡ b → word_at new w ≡ value (row ⊳ history lay.mode lines) w
    go w i true e = ap (λ (u : Word). word_at new u) (sym (word_same row.word w e)) ∙ changed.changed ∙ sym (value_at row (history lay.mode lines) w (word_same row.word w e))
    go w i false e = changed.others w (rw x.layout i) (word_apart row.word w e) ∙ x.holds w i ∙ sym (value_other row (history lay.mode lines) w e)

-- The turn of a client with no call left
pub finished_turn : (lay : Layout) (tries : ℕ) (calls : List Call) (words : Contents) (clients : List Client) (lines : List Line) (c : Client) (number : ℕ) (pass : PassNo) → OwesNothing lay calls lines → IsTurnOf lay tries calls words clients lines c → Rests (client_view lay tries calls lines c.pass.0) c → c.next ≡ None → number ≡ suc (turns lines) → pass ≡ c.pass → AreBetweenTurns lay tries calls words clients (Step (Idle number pass) ∷ lines)
finished_turn lay tries calls words clients lines c number pass settled x r none n is =
    turn_ends lay tries calls words clients (Step (Idle number pass) ∷ lines) c
    record { entry = refl; reply = λ y. let a = y.1 in let b = over in cc }
    (inl (record { stands = stands_from (client_view lay tries calls lines c.pass.0) c _ _ (no_hand (held c)) r.stands; holds = holds_from (client_view lay tries calls lines c.pass.0) c _ _ (no_hand (held c)) r.holds; none = r.none }, inl none))
    record {
      so_far = so_far_same lay tries calls words lines (Step (Idle number pass)) refl (settled, record { is_pass = rw (ap (λ (p : PassNo). p.0) is) r.stands.is_pass; in_turn = n; idle = inl over }) x.so_far;
      others = others_idle lay tries calls clients lines c.pass.0 number pass (ap (λ (p : PassNo). p.0) is) x.others;
      own = x.own;
    }
  where
    over : next_command calls lines pass.0 ≡ None
    over = rw (ap (λ (p : PassNo). p.0) is) (rw (sym r.stands.number) (none_left calls c.pass.0 c.number (rw none at r.stands.place)))

-- A reply

-- the client is at its next call
behind : (lay : Layout) (tries : ℕ) (calls : List Call) (lines : List Line) (old new : Client) (command : Command) (said : ℕ → Option History) → length calls ≤ 65536 → Rests (record (client_view lay tries calls lines old.pass.0) { linked = said }) old → next_command calls lines old.pass.0 ≡ Some command → IsAtNextCall calls old new → Rests (record { layout = lay; tries = tries; calls = calls; past = history lay.mode lines; answered = suc (answered lines old.pass.0); start = history lay.mode lines; steps = 0; won = None; linked = said }) new
behind lay tries calls lines old new command said few r is b = go old.next refl
  where
    go : (next : Option ℕ) → old.next ≡ next → Rests (record { layout = lay; tries = tries; calls = calls; past = history lay.mode lines; answered = suc (answered lines old.pass.0); start = history lay.mode lines; steps = 0; won = None; linked = said }) new
    go None e =
        let none : next_command calls lines old.pass.0 ≡ None = rw (sym r.stands.number) (none_left calls old.pass.0 old.number (rw e at r.stands.place)) in
        absurd cc
    go (Some at) e =
        let place = rw e at r.stands.place in
        let small : old.number < length calls = number_small calls old.pass.0 old.number at place in
        let within : at < length calls = slice_get_within calls at _ place.1 in
        let number : new.number ≡ suc old.number = b.number at e (omega arith) in
        subst (λ (n : Client). Rests (record { layout = lay; tries = tries; calls = calls; past = history lay.mode lines; answered = suc (answered lines old.pass.0); start = history lay.mode lines; steps = 0; won = None; linked = said }) n) (sym b.same)
        record {
          stands = record {
            is_pass = r.stands.is_pass;
            tries = r.stands.tries;
            number = number ∙ ap suc r.stands.number;
            place = rw number (place_more calls old.pass.0 old.number at place new.next (b.next at e (omega arith)));
            kept = r.stands.kept;
            unkept = r.stands.unkept;
            dropped = r.stands.dropped;
            free = r.stands.free;
            trie = r.stands.trie;
          };
          holds = record { some = r.holds.some; share = r.holds.share; upper = r.holds.upper; over = r.holds.over };
          none = r.none;
        }

-- what is known of a call that has ended, except for its reply
pub record IsOver (lay : Layout) (tries : ℕ) (calls : List Call) (lines : List Line) (i : ℕ) (c : Client) (command : Command) (answer : Answer) : Type 0 where
  pub is : next_command calls lines i ≡ Some command
  pub rests : Rests (record (client_view lay tries calls lines i) { linked = linked_by (client_view lay tries calls lines i) command answer }) c
  pub number : c.number ≡ answered lines i
  pub began : begin lines i ≡ Some c.begin
  pub last : last_client lines ≡ Some i
  pub owed : entry_owed lay lines ≡ None
  pub fits : IsFitting lines command answer
  pub right : IsRight lay tries i (history lay.mode lines) (start lay.mode lines i) (linked calls lay.mode lines i) command answer
  pub entry : HasItsEntry (enters command answer) (won lay lines i)
  pub done : answer ≡ Done → enters command answer ≡ true
  pub tells : AnswersRight (client_view lay tries calls lines i) i command answer
  pub took : HasTakenFew lay tries i (history lay.mode lines) (start lay.mode lines i) command
  pub late : (turn : ℕ) → won lay lines i ≡ Some turn → c.begin ≤ turn

-- what the lines say to the client once its reply is written down
view_replied : (lay : Layout) (tries : ℕ) (calls : List Call) (lines : List Line) (reply : Finished) (command : Command) (c : ℕ) → reply.client.0 ≡ c → next_command calls lines c ≡ Some command → (let v : ClientView = record { layout = lay; tries = tries; calls = calls; past = history lay.mode lines; answered = suc (answered lines c); start = history lay.mode lines; steps = 0; won = None; linked = linked_by (client_view lay tries calls lines c) command reply.answer } in v) ≡ client_view lay tries calls (ReplyLine reply ∷ lines) c
view_replied lay tries calls lines reply command c is next = λ i. record {
  layout = lay;
  tries = tries;
  calls = calls;
  past = history lay.mode lines;
  answered = sym (ap (λ (b : Bool). cond b (suc (answered lines c)) (answered lines c)) here) i;
  start = sym (ap (λ (b : Bool). cond b (history lay.mode lines) (start lay.mode lines c)) here) i;
  steps = sym (ap (λ (b : Bool). cond b 0 (steps lines c)) here) i;
  won = sym (ap (λ (b : Bool). cond b None (won lay lines c)) here) i;
  linked = λ n. said n i;
}
  where
    here : eqb reply.client.0 c ≡ true
    here = eq-eqb reply.client.0 c is

    said : (n : ℕ) → linked_by (client_view lay tries calls lines c) command reply.answer n ≡ linked calls lay.mode (ReplyLine reply ∷ lines) c n
    said n = rw (here, next) refl

some_command : (a b : Command) → Some a ≡ Some b → a ≡ b
some_command a b e = cc

-- the reply to a call that has ended
pub replied : (lay : Layout) (tries : ℕ) (calls : List Call) (words : Contents) (clients : List Client) (lines : List Line) (changes : List Change) (old new : Client) (answer : Answer) (said : Option ℕ) (reply : Finished) (command : Command) (number : ℕ) → (IsMap lay.mode → AreEntries calls lines changes) → length calls ≤ 65536 → IsTurnOf lay tries calls words clients lines old → IsOver lay tries calls lines old.pass.0 old command answer → ((turn : ℕ) → won lay lines old.pass.0 ≡ Some turn → said ≡ Some turn) → number ≡ turns lines → IsEnd calls lines changes old new number answer said reply → AreBetweenTurns lay tries calls words (set clients old.pass.0 new) (ReplyLine reply ∷ lines)
replied lay tries calls words clients lines changes old new answer said reply command number entries few x o wins n e =
    turn_ends lay tries calls words (set clients old.pass.0 new) (ReplyLine reply ∷ lines) new
    record { entry = refl; reply = λ y. y }
    (inl (
      rests,
      inr record {
        none = rw here refl;
        start = rw here refl;
        steps = rw here refl;
        won = rw here refl;
      },
    ))
    (turn_changed lay tries calls words clients (ReplyLine reply ∷ lines) old new pass record {
      so_far = so_far_same lay tries calls words lines (ReplyLine reply) refl (o.owed, is_reply) x.so_far;
      others = others_reply lay tries calls clients lines old.pass.0 reply client x.others;
      own = x.own;
    })
  where
    pass : new.pass ≡ old.pass
    pass = ap (λ (k : Client). k.pass) e.behind.same

    client : reply.client.0 ≡ old.pass.0
    client = ap (λ (p : PassNo). p.0) e.client

    to_new : reply.client.0 ≡ new.pass.0
    to_new = client ∙ ap (λ (p : PassNo). p.0) (sym pass)

    here : eqb reply.client.0 new.pass.0 ≡ true
    here = eq-eqb reply.client.0 new.pass.0 to_new

    rests : Rests (client_view lay tries calls (ReplyLine reply ∷ lines) new.pass.0) new
    rests =
        subst (λ (k : ℕ). Rests (client_view lay tries calls (ReplyLine reply ∷ lines) k) new) (ap (λ (p : PassNo). p.0) (sym pass))
        (subst (λ (v : ClientView). Rests v new) (view_replied lay tries calls lines reply command old.pass.0 client o.is)
        (behind lay tries calls lines old new command (linked_by (client_view lay tries calls lines old.pass.0) command reply.answer) few (rw e.answers o.rests) o.is e.behind))

    begins : old.begin ≤ turns lines
    begins = begin_within lay tries calls lines old.pass.0 old.begin x.so_far.in_order o.began

    -- the call is at its place in the script
    moment : IsMomentBy calls lines changes command reply.answer reply.begin reply.end (won lay lines old.pass.0) reply.moment
    moment = rw (e.answers, e.begin, e.end) (go old.next refl)
      where
        go : (next : Option ℕ) → old.next ≡ next → IsMomentBy calls lines changes command answer old.begin number (won lay lines old.pass.0) reply.moment
        go None q =
            let none : next_command calls lines old.pass.0 ≡ None = rw (sym o.rests.stands.number) (none_left calls old.pass.0 old.number (rw q at o.rests.stands.place)) in
            let is : next_command calls lines old.pass.0 ≡ Some command = o.is in
            absurd cc
        go (Some at) q =
            let place = rw q at o.rests.stands.place in
            let there = next_at calls old.pass.0 old.number at place in
            let same : there.0.command ≡ command = some_command there.0.command command (sym there.3 ∙ ap (λ (k : ℕ). slice_get (commands calls old.pass.0) k) o.rests.stands.number ∙ o.is) in
            moment_same lay tries old.pass.0 (history lay.mode lines) (start lay.mode lines old.pass.0) (linked calls lay.mode lines old.pass.0) calls lines changes command answer old.begin number said (won lay lines old.pass.0) reply.moment o.right o.done o.entry wins
            (subst (λ (k : Command). IsMomentBy calls lines changes k answer old.begin number said reply.moment) same (e.moment there.0 at q there.1))

    of_map : asks_map command ≡ true → IsMap lay.mode
    of_map map = sym (of_commands (IsOfMode lay.mode) calls old.pass.0 _ command x.so_far.of_mode o.is) ∙ map

    within : (m : ℕ) → reply.moment ≡ Some m → (reply.begin ≤ m) × (m ≤ reply.end)
    within m q = moment_within calls lines changes reply.begin reply.end m (won lay lines old.pass.0) reply.moment (rw (e.begin, e.end, n) begins) (λ turn w. (rw e.begin (o.late turn w), rw (e.end, n) (won_within lay tries calls lines old.pass.0 turn x.so_far.in_order w))) q lay tries old.pass.0 (history lay.mode lines) (start lay.mode lines old.pass.0) (linked calls lay.mode lines old.pass.0) command reply.answer (rw e.answers o.right) (λ map. entries (of_map map)) (λ map. subst (λ (k : ℕ). FallFrom (suc k) changes) (sym (e.end ∙ n)) (falls lay tries calls lines changes x.so_far.in_order (entries (of_map map)))) moment

    is_reply : IsReply lay tries calls lines reply
    is_reply = record {
      client = o.last ∙ ap (λ (k : ℕ). Some k) (sym client);
      call = e.call ∙ o.number ∙ ap (λ (k : ℕ). answered lines k) (sym client);
      begin = ap (λ (k : ℕ). begin lines k) client ∙ o.began ∙ ap (λ (k : ℕ). Some k) (sym e.begin);
      end = e.end ∙ n;
      command = command;
      is = ap (λ (k : ℕ). next_command calls lines k) client ∙ o.is;
      fits = rw e.answers o.fits;
      right = subst (λ (k : ℕ). IsRight lay tries k (history lay.mode lines) (start lay.mode lines k) (linked calls lay.mode lines k) command reply.answer) (sym client) (rw e.answers o.right);
      took = subst (λ (k : ℕ). HasTakenFew lay tries k (history lay.mode lines) (start lay.mode lines k) command) (sym client) o.took;
      placed = placed lay tries calls words lines changes reply old.pass.0 command x.so_far entries o.owed client (e.call ∙ o.number) (rw e.answers o.right) (rw e.answers o.tells) (rw e.answers o.entry) o.is (o.began ∙ ap (λ (k : ℕ). Some k) (sym e.begin)) (e.end ∙ n) moment;
      within = within;
      entry = subst (λ (k : ℕ). HasItsEntry (enters command reply.answer) (won lay lines k)) (sym client) (rw e.answers o.entry);
    }

-- The turn of a client whose call is refused

-- a refusal in place of a first step leaves the snapshots, and is no done SCX
record IsRefusal (v : ClientView) (command : Command) (answer : Answer) : Type 0 where
  leaves : (n : ℕ) → linked_by v command answer n ≡ v.linked n
  not_done : answer ≡ Done → ⊥
  none : enters command answer ≡ false

is_refusal : (v : ClientView) (command : Command) (answer : Answer) → MayAnswerAtOnce command answer → IsRefusal v command answer
is_refusal v (ScxOf update) (Unlinked node) x = record { leaves = λ n. refl; not_done = λ e. cc; none = refl }
is_refusal v (ScxOf update) (Full what left) x = record { leaves = λ n. refl; not_done = λ e. cc; none = refl }
is_refusal v (VlxOf cells) (Unlinked node) x = record { leaves = λ n. refl; not_done = λ e. cc; none = refl }
is_refusal v (Map (SuccessorOf key)) (MapAnswer NoMemory) x = record { leaves = λ n. refl; not_done = λ e. cc; none = refl }
is_refusal v (Map (PredecessorOf key)) (MapAnswer NoMemory) x = record { leaves = λ n. refl; not_done = λ e. cc; none = refl }
is_refusal v (Map (RangeOf low high most)) (MapAnswer (Pairs found)) x = record { leaves = λ n. refl; not_done = λ e. cc; none = refl }
is_refusal v (Map (RangeOf low high most)) (MapAnswer NoMemory) x = record { leaves = λ n. refl; not_done = λ e. cc; none = refl }
is_refusal v command answer x = absurd x

-- it answers a range that takes nothing
refuses_tells : (v : ClientView) (c : ℕ) (command : Command) (answer : Answer) → MayAnswerAtOnce command answer → AnswersRight v c command answer
refuses_tells v c (LlxOf cell) answer x = tt
refuses_tells v c (ScxOf update) answer x = tt
refuses_tells v c (VlxOf cells) answer x = tt
refuses_tells v c (SetOf field value) answer x = tt
refuses_tells v c (Map (SuccessorOf key)) (MapAnswer NoMemory) x = tt
refuses_tells v c (Map (PredecessorOf key)) (MapAnswer NoMemory) x = tt
refuses_tells v c (Map (RangeOf low high most)) (MapAnswer (Pairs found)) x = inr (λ m. nothing_taken low high most m x.0 ∙ ap (λ (ps : List (ℕ × ℕ)). ManyPairs (number_pairs ps)) (sym x.1))
refuses_tells v c (Map (RangeOf low high most)) (MapAnswer NoMemory) x = tt
refuses_tells v c command answer x = absurd x

pub refused_turn : (lay : Layout) (tries : ℕ) (calls : List Call) (words : Contents) (clients : List Client) (lines : List Line) (c new : Client) (number : ℕ) (pass : PassNo) (answer : Answer) (changes : List Change) (said : Option ℕ) (reply : Finished) → (IsMap lay.mode → AreEntries calls lines changes) → length calls ≤ 65536 → OwesNothing lay calls lines → IsTurnOf lay tries calls words clients lines c → Refuses (client_view lay tries calls lines c.pass.0) c answer → begin lines c.pass.0 ≡ None → c.begin ≡ number → number ≡ suc (turns lines) → pass ≡ c.pass → IsEnd calls (Step (Idle number pass) ∷ lines) changes c new number answer said reply → AreBetweenTurns lay tries calls words (set clients c.pass.0 new) (ReplyLine reply ∷ Step (Idle number pass) ∷ lines)
refused_turn lay tries calls words clients lines c new number pass answer changes said reply entries few settled x r unbegun begins n is e =
    replied lay tries calls words clients (Step (Idle number pass) ∷ lines) changes c new answer said reply r.command number entries few
    record {
      so_far = so_far_same lay tries calls words lines (Step (Idle number pass)) refl (settled, record { is_pass = rw is0 r.rests.stands.is_pass; in_turn = n; idle = inr (rw is0 unbegun) }) x.so_far;
      others = others_idle lay tries calls clients lines c.pass.0 number pass is0 x.others;
      own = x.own;
    }
    record {
      is = r.is;
      rests = subst (λ (l : ℕ → Option History). Rests (record (client_view lay tries calls (Step (Idle number pass) ∷ lines) c.pass.0) { linked = l }) c) (λ k m. sym (refusal.leaves m) k)
          record { stands = stands_from (client_view lay tries calls lines c.pass.0) c _ _ (no_hand (held c)) r.rests.stands; holds = holds_from (client_view lay tries calls lines c.pass.0) c _ _ (no_hand (held c)) r.rests.holds; none = r.rests.none };
      number = r.rests.stands.number;
      began = rw (eq-eqb pass.0 c.pass.0 is0) (ap (λ (k : ℕ). Some k) (rw unbegun (sym begins)));
      last = ap (λ (k : ℕ). Some k) is0;
      owed = refl;
      fits = r.refusal;
      right = rw (eq-eqb pass.0 c.pass.0 is0) r.right;
      entry = rw refusal.none (entered_none (won lay lines c.pass.0) r.unwon);
      done = λ z. absurd (refusal.not_done z);
      tells = tells;
      took = rw (eq-eqb pass.0 c.pass.0 is0) r.took;
      late = λ turn w. never turn w (c.begin ≤ turn);
    }
    (λ turn w. never turn w (said ≡ Some turn)) n e
  where
    is0 : pass.0 ≡ c.pass.0
    is0 = ap (λ (p : PassNo). p.0) is

    tells : AnswersRight (client_view lay tries calls (Step (Idle number pass) ∷ lines) c.pass.0) c.pass.0 r.command answer
    tells = refuses_tells _ _ r.command answer r.refusal

    refusal : IsRefusal (client_view lay tries calls lines c.pass.0) r.command answer
    refusal = is_refusal (client_view lay tries calls lines c.pass.0) r.command answer r.refusal

    never : (turn : ℕ) → won lay lines c.pass.0 ≡ Some turn → (X : Type 0) → X
    never turn w X = absurd (let none : won lay lines c.pass.0 ≡ None = r.unwon in cc)

-- The turns of updates

-- a turn without a step and a reply leave those that are remembered
pub wins_idle : (lay : Layout) (lines : List Line) (number : ℕ) (pass : PassNo) (wins : List (Option ℕ)) → AreWins lay lines wins → AreWins lay (Step (Idle number pass) ∷ lines) wins
wins_idle lay lines number pass wins x c turn e = x c turn e

pub wins_reply : (lay : Layout) (lines : List Line) (reply : Finished) (wins : List (Option ℕ)) → AreWins lay lines wins → AreWins lay (ReplyLine reply ∷ lines) wins
wins_reply lay lines reply wins x c turn e = go (eqb reply.client.0 c) e
  where
    go : (b : Bool) → cond b None (won lay lines c) ≡ Some turn → slice_get wins c ≡ Some (Some turn)
    go true d = cc
    go false d = x c turn d

-- a step that wins is remembered with its turn
pub wins_step : (lay : Layout) (lines pushed after : List Line) (number passes : ℕ) (row : Row) (old new : List (Option ℕ)) → length old ≡ passes → pushed ≡ Step (Made number row) ∷ lines → MatchOption (entry_owed lay pushed) (after ≡ pushed) (λ e. after ≡ Log e ∷ pushed) → MatchOption (entry_owed lay pushed) (new ≡ old) (λ e. (e.client.0 < passes) × (new ≡ set old e.client.0 (Some number))) → AreWins lay lines old → AreWins lay after new
wins_step lay lines pushed after number passes row old new many line is changed x c turn e = go (entry_owed lay (Step (Made number row) ∷ lines)) refl (rw line at is) (rw line at changed)
  where
    go : (owed : Option Entry) → entry_of lay lines number row ≡ owed → MatchOption owed (after ≡ Step (Made number row) ∷ lines) (λ e. after ≡ Log e ∷ Step (Made number row) ∷ lines) → MatchOption owed (new ≡ old) (λ e. (e.client.0 < passes) × (new ≡ set old e.client.0 (Some number))) → slice_get new c ≡ Some (Some turn)
    go None d same kept =
        let w : won lay lines c ≡ Some turn = rw d at (rw same at e) in
        rw kept (x c turn w)
    go (Some entry) d same put = at_client (eqb entry.client.0 c) refl (rw d at (rw same at e))
      where
        at_client : (b : Bool) → eqb entry.client.0 c ≡ b → cond (eqb entry.client.0 c) (Some number) (won lay lines c) ≡ Some turn → slice_get new c ≡ Some (Some turn)
        at_client true q w =
            let same_turn : number ≡ turn = some_turn number turn (rw q at w) in
            let there = get_there old entry.client.0 (omega (arith, put.0, many)) in
            rw put.1 (subst (λ (k : ℕ). slice_get (set old entry.client.0 (Some number)) k ≡ Some (Some turn)) (eqb-true entry.client.0 c q) (get_own old entry.client.0 there.0 (Some number) there.1 ∙ ap (λ (k : ℕ). Some (Some k)) same_turn))
        at_client false q w = rw put.1 (get_other old entry.client.0 c (Some number) (λ z. let t : eqb entry.client.0 c ≡ true = eq-eqb entry.client.0 c (sym z) in cc) ∙ x c turn (rw q at w))

-- The entry of the newest step

made_row : (lay : Layout) (tries : ℕ) (calls : List Call) (words : Contents) (older : List Line) (number : ℕ) (row : Row) → IsLawfulSoFar lay tries calls words (Step (Made number row) ∷ older) → IsLawful lay (history lay.mode older) row
made_row lay tries calls words older number row x = lawful_row lay (history lay.mode older) row x.sound.lawful

-- of the turns so far no two have made an entry
entries_few : (lay : Layout) (tries : ℕ) (calls : List Call) (lines : List Line) → AreLines lay tries calls lines → entries lines ≤ turns lines
unfolding AreLines
entries_few lay tries calls [] x = omega arith
entries_few lay tries calls (Step row ∷ lines) x = let few = entries_few lay tries calls lines x.0 in omega (arith, few)
entries_few lay tries calls (ReplyLine reply ∷ lines) x = entries_few lay tries calls lines x.0
entries_few lay tries calls (Log e ∷ Step (Made n row) ∷ lines) x = let few = entries_few lay tries calls lines x.0.0 in omega (arith, few)
entries_few lay tries calls (Log e ∷ Step (Idle n client) ∷ lines) x = absurd x.1
entries_few lay tries calls (Log e ∷ Log d ∷ lines) x = absurd x.1
entries_few lay tries calls (Log e ∷ ReplyLine reply ∷ lines) x = absurd x.1
entries_few lay tries calls (Log e ∷ []) x = absurd x.1

-- so it is not yet as many as the number of this step
pub made_few : (p : Interleaving) (lines : List Line) (number : ℕ) (row : Row) → IsMade p lines number row → p.entries < number
unfolding AreLines
made_few p lines number row m =
    let x : AreLines p.script.layout p.script.limits.tries p.script.calls.items (Step (Made number row) ∷ m.older) = subst (λ (l : List Line). AreLines p.script.layout p.script.limits.tries p.script.calls.items l) m.is m.so_far.in_order in
    let few = entries_few p.script.layout p.script.limits.tries p.script.calls.items m.older x.0 in
    let n = x.1.1.in_turn in
    let same = m.entered ∙ ap (λ (l : List Line). entries l) m.is in
    omega (arith, few, n, same)

-- its word is one of the table, and so is the info of its node
pub made_info : (p : Interleaving) (lines : List Line) (number : ℕ) (row : Row) (n : NodeNo) (part : NodeWord) → IsMade p lines number row → row.word ≡ Node n part → n.0 < all_nodes p.words.layout
made_info p lines number row n part m e =
    let x : IsLawfulSoFar p.script.layout p.script.limits.tries p.script.calls.items p.words (Step (Made number row) ∷ m.older) = rw (sym m.is) m.so_far in
    let y : IsWord p.script.layout row.word = (made_row p.script.layout p.script.limits.tries p.script.calls.items p.words m.older number row x).word in
    rw x.layout (rw e at y)

-- the info of the field of an update that has won names an SCX-record of the table
pub made_winner : (p : Interleaving) (lines : List Line) (number : ℕ) (row : Row) (n : NodeNo) (side : Side) → IsMade p lines number row → row.kind ≡ Update → row.before ≢ row.after → row.word ≡ Node n (Child side) → (0 < word_at p.words (info n.0)) × (word_at p.words (info n.0) < all_scx p.script.layout)
made_winner p lines number row n side m kind changed word =
    let x : IsLawfulSoFar p.script.layout p.script.limits.tries p.script.calls.items p.words (Step (Made number row) ∷ m.older) = rw (sym m.is) m.so_far in
    let w = winner_holds p.script.layout (history p.script.layout.mode m.older) row n.0 side x.sound.lawful kind changed word in
    let y : IsWord p.script.layout row.word = (made_row p.script.layout p.script.limits.tries p.script.calls.items p.words m.older number row x).word in
    let same : word_at p.words (info n.0) ≡ value (history p.script.layout.mode m.older) (info n.0) = x.holds (info n.0) (rw word at y) ∙ info_kept p.script.layout (history p.script.layout.mode m.older) row n.0 n.0 side word in
    rw same (let d = w.0 in omega arith, w.1)

-- equal parts make equal entries
same_entry : (place place' number scx scx' call call' owner' : ℕ) (client : PassNo) → place ≡ place' → scx ≡ scx' → owner' ≡ client.0 → call ≡ call' → (let x : Option Entry = Some (record { place = place; step = number; scx = record { 0 = scx }; client = client; call = call }) in x) ≡ Some (record { place = place'; step = number; scx = record { 0 = scx' }; client = record { 0 = owner' }; call = call' })
same_entry place place' number scx scx' call call' owner' client p s o c = rw (p, s, o, c) refl

-- what the player reads of a winning update is its entry
pub made_entry : (p : Interleaving) (lines : List Line) (number : ℕ) (row : Row) (n : NodeNo) (side : Side) (place scx call : ℕ) (client : PassNo) → IsMade p lines number row → row.kind ≡ Update → row.before ≢ row.after → row.word ≡ Node n (Child side) → place ≡ suc p.entries → scx ≡ word_at p.words (info n.0) → call ≡ word_at p.words (scx_word scx CallWord) → first_scx p.script.layout client.0 ≤ scx → scx < first_scx p.script.layout client.0 + p.script.layout.scx → Some (record { place = place; step = number; scx = record { 0 = scx }; client = client; call = call }) ≡ entry_owed p.script.layout lines
made_entry p lines number row n side place scx call client m kind changed word pl sc ca from below =
    rw m.is (same_entry place (suc (entries m.older)) number scx (value h (info n.0)) call (value h (scx_word (value h (info n.0)) CallWord)) (owner p.script.layout (value h (info n.0))) client
    (pl ∙ ap suc (m.entered ∙ ap (λ (l : List Line). entries l) m.is)) holder (rw (sym holder) (owner_is p.script.layout scx client.0 from below)) called ∙ sym owed)
  where
    h : History
    h = history p.script.layout.mode m.older

    x : IsLawfulSoFar p.script.layout p.script.limits.tries p.script.calls.items p.words (Step (Made number row) ∷ m.older)
    x = rw (sym m.is) m.so_far

    y : IsWord p.script.layout row.word
    y = (made_row p.script.layout p.script.limits.tries p.script.calls.items p.words m.older number row x).word

    w : (value h (info n.0) ≢ 0) × (value h (info n.0) < all_scx p.script.layout)
    w = winner_holds p.script.layout h row n.0 side x.sound.lawful kind changed word

    holder : scx ≡ value h (info n.0)
    holder = sc ∙ x.holds (info n.0) (rw word at y) ∙ info_kept p.script.layout h row n.0 n.0 side word

    called : call ≡ value h (scx_word (value h (info n.0)) CallWord)
    called = ca ∙ ap (λ (s : ℕ). word_at p.words (scx_word s CallWord)) holder ∙ x.holds (scx_word (value h (info n.0)) CallWord) (w.1, tt) ∙ call_kept p.script.layout h row n.0 (value h (info n.0)) side word

    owed : entry_owed p.script.layout (Step (Made number row) ∷ m.older) ≡ entry_at p.script.layout h (suc (entries m.older)) number (Node n (Child side))
    owed = rw kind (rw (ne_eqb row.before row.after changed) (ap (λ (u : Word). entry_at p.script.layout h (suc (entries m.older)) number u) word))
