use Rattle.std.proofs.Common.{arith, ◌≡◌, ℕ, List, [], ◌∷◌, ◌++◌, ◌<◌, set, Option, None, Some, MatchOption, slice_get, refl, sym, ◌∙◌, ap, subst}
use Rattle.std.proofs.lemmas.Option.{get_or_from_slice_get}
use Rattle.histories.specs.Common.{PassNo, Row}
use Rattle.record.specs.declared.record.Line.{Line}
use Rattle.record.specs.declared.record.Entry.{Entry}
use Rattle.record.specs.declared.record.Line.TheVariants.{Step, Log, Reply}
use Rattle.record.specs.declared.record.TurnRow.TheVariants.{Step as Made}
use Rattle.record.specs.Turns.{entry_owed}
use Rattle.record.proofs.Lemmas.{get_own}
use Rattle.linearization.specs.Places.{changes}
use Rattle.player.specs.Lines.{with_entry}
use Rattle.player.specs.Player.{ScriptView, script_view}
use Rattle.player.specs.ClientView.{client_view}
use Rattle.player.specs.BetweenTurns.{IsEnd, AreWins, ArePlaces, KnowsCounts, IsStepAsked, IsEntryDue, HasLogged}
use Rattle.player.specs.declared.client.Client.{Client}
use Rattle.player.specs.declared.interleaving.Interleaving.{Interleaving}
use Rattle.player.proofs.Middles.{some_client, wins_step, wins_reply}
use Rattle.player.proofs.Played.{reply_last}
use Rattle.player.proofs.Steps.{IsHeard, asked_word, asked_there, asked_row, asked_changed, asked_so_far, asked_hears, heard_on, heard_end, told_goes, told_ends, between_at, asked_owner, begun_before, remembered, turns_logged, logged_as_owed, few_calls}
use Rattle.player.proofs.interleaving.Interleaving.make.Goals.{After-get, After-tell}
use Rattle.player.proofs.interleaving.Interleaving.make.Goals as goal

-- the row that is written down
abbrev row_of : After-get → Row
row_of c = record { pass = c.args.client; call = c.number.result; kind = c.args.step.kind; word = c.args.step.word; before = c.apply-before.result; after = c.get.result }

-- the lines with it
abbrev pushed : After-get → List Line → List Line
pushed c lines = Step (Made c.args.number (row_of c)) ∷ lines

-- its entry is due, where only the words have changed
due : (c : After-get) (q : Interleaving) (lines : List Line) → IsStepAsked c.args.self.now lines c.args.client.0 c.args.number c.args.step → q.script ≡ c.args.self.now.script → q.words ≡ c.apply-before.new.self → q.clients.items ≡ c.args.self.now.clients.items → q.entries ≡ c.args.self.now.entries → q.places ≡ c.args.self.now.places → IsEntryDue q (pushed c lines) c.args.number (row_of c)
due c q lines a same words all entered places =
    let p = c.args.self.now in
    let i = c.args.client.0 in
    let own = c.index.ensures ∙ get_or_from_slice_get p.clients.items i a.client c.index.result.now (asked_there p lines i c.args.number c.args.step a) in
    let row = asked_row p lines i c.args.number c.args.step a c.args.client c.number.result c.apply-before.result c.get.result refl (c.number.ensures ∙ ap (λ (k : Client). k.number) own) c.apply-before.ensures.found (c.get.ensures ∙ c.apply-before.ensures.after.changed) in
    let changed = asked_changed p lines i c.args.number c.args.step a c.apply-before.new.self c.apply-before.result c.apply-before.ensures.found c.apply-before.ensures.after in
    record {
      made = record { older = lines; is = refl; so_far = rw (same, words) (asked_so_far p lines i c.args.number c.args.step a _ c.apply-before.new.self _ row changed refl); entered = entered ∙ a.counted.entered };
      places = rw (same, places) record { entries = λ tree. a.places.entries tree; keys = a.places.keys };
      owner = λ e owed. rw (same, all) (asked_owner p lines i c.args.number c.args.step a _ _ row refl e (rw same at owed));
    }

pub apply-before-requires : goal.apply-before-requires
apply-before-requires c = asked_word c.args.self.now c.requires.asked.0 c.args.client.0 c.args.number c.args.step c.requires.asked.1

pub get-requires : goal.get-requires
get-requires c = rw c.apply-before.ensures.after.layout (asked_word c.args.self.now c.requires.asked.0 c.args.client.0 c.args.number c.args.step c.requires.asked.1)

pub log-entry-requires-clause-due : goal.log-entry-requires-clause-due
log-entry-requires-clause-due c =
    let here = (goal.at.log-entry-requires-clause-due c).After-get in
    (pushed here c.requires.asked.0, due here _ c.requires.asked.0 c.requires.asked.1 refl refl refl refl refl)

module _ (c : After-tell) (lines : List Line) (a : IsStepAsked c.args.self.now lines c.args.client.0 c.args.number c.args.step) where
  abbrev p : Interleaving
  p = c.args.self.now

  abbrev i : ℕ
  i = c.args.client.0

  abbrev number : ℕ
  number = c.args.number

  -- the lines with the row, and with its entry
  abbrev row_lines : List Line
  row_lines = pushed c.before.before.before.before.before.before.before.before.before.before lines

  abbrev after : List Line
  after = with_entry c.log-entry.result row_lines

  logged : HasLogged p c.log-entry.new.self row_lines number c.log-entry.result
  logged =
      let x = c.log-entry.ensures.logged row_lines (due c.before.before.before.before.before.before.before.before.before.before _ lines a refl refl refl refl refl) in
      record { owed = x.owed; wins = x.wins; entered = x.entered; places = x.places }

  -- the entry is the one that the row asks for
  as_owed : MatchOption (entry_owed p.script.layout row_lines) (after ≡ row_lines) (λ e. after ≡ Log e ∷ row_lines)
  as_owed = logged_as_owed p.script.layout c.log-entry.result row_lines logged.owed

  -- the client that makes the step, still there as it gets what the step has found
  there : slice_get c.log-entry.new.self.clients.items i ≡ Some a.client
  there = ap (λ (l : List Client). slice_get l i) c.log-entry.ensures.same.clients ∙ asked_there p lines i number c.args.step a

  -- it is the one that gets it
  seen : c.index_mut.result.now ≡ a.client
  seen = c.index_mut.ensures.value ∙ get_or_from_slice_get c.log-entry.new.self.clients.items i a.client c.index_mut.result.now there

  -- it hears what the step has found, once row and entry are written down
  heard : IsHeard p.script.layout p.script.limits.tries p.script.calls.items c.apply-before.new.self p.clients.items after a.client a.running c.apply-before.result number
  heard =
      let own = c.index.ensures ∙ get_or_from_slice_get p.clients.items i a.client c.index.result.now (asked_there p lines i number c.args.step a) in
      let row = asked_row p lines i number c.args.step a c.args.client c.number.result c.apply-before.result c.get.result refl (c.number.ensures ∙ ap (λ (k : Client). k.number) own) c.apply-before.ensures.found (c.get.ensures ∙ c.apply-before.ensures.after.changed) in
      let changed = asked_changed p lines i number c.args.step a c.apply-before.new.self c.apply-before.result c.apply-before.ensures.found c.apply-before.ensures.after in
      asked_hears p lines i number c.args.step a _ c.apply-before.new.self _ after c.apply-before.result row c.apply-before.ensures.found changed refl as_owed

  -- the turns of winning updates are remembered
  remembered_in : MatchOption (entry_owed p.script.layout row_lines) (c.log-entry.new.self.wins.items ≡ p.wins.items) (λ e. (e.client.0 < p.script.layout.passes) × (c.log-entry.new.self.wins.items ≡ set p.wins.items e.client.0 (Some number)))
  remembered_in = subst (λ (o : Option Entry). MatchOption o (c.log-entry.new.self.wins.items ≡ p.wins.items) (λ e. (e.client.0 < p.script.layout.passes) × (c.log-entry.new.self.wins.items ≡ set p.wins.items e.client.0 (Some number)))) logged.owed logged.wins

  wins : AreWins p.script.layout after c.log-entry.new.self.wins.items
  wins = wins_step p.script.layout lines row_lines after number p.script.layout.passes _ p.wins.items c.log-entry.new.self.wins.items (omega (arith, p.all_wins, p.wins.ok.0)) refl as_owed remembered_in a.wins

  -- and the places
  places : ArePlaces p.script.layout p.script.calls.items after c.log-entry.new.self.places
  places = subst (λ (k : ScriptView). ArePlaces k.layout k.calls after c.log-entry.new.self.places) c.log-entry.ensures.same.script logged.places

  -- the turns are one more
  counted : KnowsCounts c.log-entry.new.self after
  counted = record { turned = c.log-entry.ensures.same.turns ∙ a.in_turn ∙ sym (turns_logged c.log-entry.result row_lines).1; entered = logged.entered }

pub reply-requires-clause-begun : goal.reply-requires-clause-begun
reply-requires-clause-begun c d at =
    let here = (goal.at.reply-requires-clause-begun c).After-tell in
    let lines = c.requires.asked.0 in
    let a = c.requires.asked.1 in
    let hears = heard here lines a in
    let p = c.args.self.now in
    let v = client_view p.script.layout p.script.limits.tries p.script.calls.items (after here lines a) a.client.pass.0 in
    let ends = told_ends v c.index_mut.result.now a.client c.tell.new.self a.running c.apply-before.result c.in-Some.answer (seen here lines a) hears.turn.so_far.sound hears.runs hears.told c.in-Some.ensures in
    let same : d ≡ c.tell.new.self = some_client d c.tell.new.self (sym at ∙ get_own c.log-entry.new.self.clients.items c.args.client.0 a.client c.tell.new.self (there here lines a)) in
    rw (same, ends.begin) (begun_before p lines c.args.client.0 c.args.number c.args.step a)

pub returns-in-None-clause-turn : goal.returns-in-None-clause-turn
returns-in-None-clause-turn c lines a =
    let here = (goal.at.returns-in-None-clause-turn c).After-tell in
    let hears = heard here lines a in
    let p = c.args.self.now in
    let i = c.args.client.0 in
    let told = after here lines a in
    let v = client_view p.script.layout p.script.limits.tries p.script.calls.items told a.client.pass.0 in
    let goes = told_goes v c.index_mut.result.now a.client c.tell.new.self a.running c.apply-before.result (seen here lines a) hears.turn.so_far.sound hears.runs hears.told c.in-None.ensures in
    let between = heard_on p.script.layout p.script.limits.tries p.script.calls.items c.apply-before.new.self p.clients.items told a.client c.tell.new.self a.running c.apply-before.result c.args.number hears goes in
    let count = counted here lines a in
    let kept = places here lines a in
    record {
      script = c.log-entry.ensures.same.script;
      row = Made c.args.number (row_of here.before.before.before.before.before.before.before.before.before.before);
      entry = c.log-entry.result;
      reply = None;
      leaves = c.begin.ensures.lines;
      between = between_at _ (script_view p.script) _ _ _ _ _ c.log-entry.ensures.same.script c.log-entry.ensures.same.words (ap (λ (l : List Client). set l i c.tell.new.self) c.log-entry.ensures.same.clients ∙ ap (λ (k : ℕ). set p.clients.items k c.tell.new.self) (sym a.is)) refl refl
          record { turned = count.turned; entered = count.entered } between (wins here lines a) record { entries = kept.entries; keys = kept.keys };
      turns = (turns_logged c.log-entry.result (row_lines here lines a)).0;
    }

pub returns-in-Some-clause-turn : goal.returns-in-Some-clause-turn
returns-in-Some-clause-turn c lines a =
    let here = (goal.at.returns-in-Some-clause-turn c).After-tell in
    let hears = heard here lines a in
    let p = c.args.self.now in
    let i = c.args.client.0 in
    let told = after here lines a in
    let v = client_view p.script.layout p.script.limits.tries p.script.calls.items told a.client.pass.0 in
    let new = c.tell.new.self in
    let answer = c.in-Some.answer in
    let ends = told_ends v c.index_mut.result.now a.client new a.running c.apply-before.result answer (seen here lines a) hears.turn.so_far.sound hears.runs hears.told c.in-Some.ensures in
    let r = c.reply.ensures.replied new (get_own c.log-entry.new.self.clients.items i a.client new (there here lines a)) (ap (λ (k : PassNo). k.0) ends.same.pass ∙ a.is) in
    let reply = c.reply.result in
    let kept = places here lines a in
    let end : IsEnd p.script.calls.items told (changes c.log-entry.new.self.places) new r.client c.args.number answer r.won reply = subst (λ (k : ScriptView). IsEnd k.calls told (changes c.log-entry.new.self.places) new r.client c.args.number answer r.won reply) c.log-entry.ensures.same.script (r.end told) in
    let between = heard_end p.script.layout p.script.limits.tries p.script.calls.items c.apply-before.new.self p.clients.items told (changes c.log-entry.new.self.places) a.client new r.client a.running c.apply-before.result c.args.number answer r.won reply kept.entries (few_calls p) hears ends (remembered p.script.layout told c.log-entry.new.self.wins.items new.pass.0 a.client.pass.0 r.won (wins here lines a) r.wins (ap (λ (k : PassNo). k.0) ends.same.pass)) end in
    let same = c.reply.ensures.same in
    let script = same.script ∙ c.log-entry.ensures.same.script in
    let count = counted here lines a in
    record {
      script = script;
      row = Made c.args.number (row_of here.before.before.before.before.before.before.before.before.before.before);
      entry = c.log-entry.result;
      reply = Some reply;
      leaves = c.push.ensures.items ∙ ap (λ (l : List Line). l ++ Reply reply ∷ []) c.begin.ensures.lines ∙ reply_last _ c.log-entry.result reply;
      between = between_at c.reply.new.self (script_view p.script) _ _ _ _ _ script (same.words ∙ c.log-entry.ensures.same.words)
          (r.clients ∙ ap (λ (l : List Client). set (set l i new) new.pass.0 r.client) c.log-entry.ensures.same.clients ∙ ap (λ (k : ℕ). set (set p.clients.items k new) new.pass.0 r.client) (sym a.is) ∙ ap (λ (k : PassNo). set (set p.clients.items a.client.pass.0 new) k.0 r.client) ends.same.pass)
          same.wins same.places record { turned = same.turns ∙ count.turned; entered = same.entries ∙ count.entered } between (wins_reply p.script.layout told reply c.log-entry.new.self.wins.items (wins here lines a)) record { entries = kept.entries; keys = kept.keys };
      turns = (turns_logged c.log-entry.result (row_lines here lines a)).0;
    }
