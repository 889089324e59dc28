use Rattle.std.proofs.Common.{[], ◌≡◌, ◌+◌, suc, List, ◌∷◌, ◌++◌, Some, None, slice_get, refl, sym, ◌∙◌, ap, arith}
use Rattle.arena.specs.declared.number.PassNo.{PassNo}
use Rattle.record.specs.declared.record.Line.{Line}
use Rattle.record.specs.declared.record.Line.TheVariants.{Step, Reply}
use Rattle.record.specs.declared.record.TurnRow.TheVariants.{Idle}
use Rattle.player.specs.Player.{script_view}
use Rattle.record.specs.Turns.{turns, begin}
use Rattle.record.proofs.Lemmas.{get_own}
use Rattle.player.specs.ClientView.{IsNextAction, client_view}
use Rattle.linearization.specs.Places.{changes}
use Rattle.player.specs.BetweenTurns.{ArePlaces, IsBetweenTurns}
use Rattle.player.proofs.Middles.{some_client, wins_idle, wins_reply}
use Rattle.player.proofs.Steps.{between_at, places_roomy}
use Rattle.player.proofs.Stands.{client_there, is_client, stood_asked, stood_finished, stood_refused}
use Rattle.player.proofs.interleaving.Interleaving.step.Goals.{After-next_action}
use Rattle.player.proofs.interleaving.Interleaving.step.Goals as goal

module _ (c : After-next_action) (lines : List Line) (played : IsBetweenTurns c.args.self.now lines) where
  -- the client that makes the turn
  there : slice_get c.args.self.now.clients.items c.args.client.0 ≡ Some c.index_mut.result.now
  there = client_there c.args.self.now c.args.client.0 c.index_mut.result.now c.requires.client c.index_mut.ensures.value

  -- the turn has the number after those of the lines
  numbered : c.args.self.now.turns + 1 ≡ suc (turns lines)
  numbered = let e = played.counted.turned in omega (arith, e)

  -- how the client is at it
  stood : IsNextAction (client_view c.args.self.now.script.layout c.args.self.now.script.limits.tries c.args.self.now.script.calls.items lines c.args.client.0) (c.args.self.now.turns + 1) c.index_mut.result.now c.next_action.new.self c.next_action.result
  stood =
      let p = c.args.self.now in
      let i = c.args.client.0 in
      let client = is_client p lines i (p.turns + 1) c.index_mut.result.now c.next_action.new.self played there in
      c.next_action.ensures (client_view p.script.layout p.script.limits.tries p.script.calls.items lines i) (begin lines i) played.between.so_far.sound p.script.accepted.some_try played.between.so_far.of_mode c.deref.ensures.value client

  -- and the places, except for their room
  roomy : ArePlaces c.args.self.now.script.layout c.args.self.now.script.calls.items lines c.reserve.new.self
  roomy = places_roomy _ _ _ _ _ c.in_ok-reserve.ensures.same c.in_ok-reserve.ensures.keys played.places

pub make-requires-clause-asked : goal.make-requires-clause-asked
make-requires-clause-asked c =
    let here = (goal.at.make-requires-clause-asked c).After-next_action in
    let lines = c.requires.played.0 in
    let played = c.requires.played.1 in
    (lines, stood_asked c.args.self.now lines c.args.client.0 (c.args.self.now.turns + 1) c.index_mut.result.now c.next_action.new.self played (there here lines played) _ c.in-Asks.step refl refl refl refl refl refl refl refl (roomy here lines played) (numbered here lines played) (rw c.in-Asks.is at (stood here lines played)))

pub returns-in-Asks-clause-turn : goal.returns-in-Asks-clause-turn
returns-in-Asks-clause-turn c lines played =
    let here = (goal.at.returns-in-Asks-clause-turn c).After-next_action in
    let t = c.make.ensures.turn lines (stood_asked c.args.self.now lines c.args.client.0 (c.args.self.now.turns + 1) c.index_mut.result.now c.next_action.new.self played (there here lines played) _ c.in-Asks.step refl refl refl refl refl refl refl refl (roomy here lines played) (numbered here lines played) (rw c.in-Asks.is at (stood here lines played))) in
    record { script = t.script; row = t.row; entry = t.entry; reply = t.reply; leaves = t.leaves; between = t.between; turns = t.turns }

pub returns-in-Finished-clause-turn : goal.returns-in-Finished-clause-turn
returns-in-Finished-clause-turn c lines played =
    let here = (goal.at.returns-in-Finished-clause-turn c).After-next_action in
    let p = c.args.self.now in
    let number = p.turns + 1 in
    let idle = c.idle-in-Finished.ensures in
    let between = stood_finished p lines c.args.client.0 number c.index_mut.result.now c.next_action.new.self played (there here lines played) c.args.client refl (numbered here lines played) (rw c.in-Finished.is at (stood here lines played)) in
    rw idle.same
    record {
      script = refl;
      row = Idle number c.args.client;
      entry = None;
      reply = None;
      leaves = rw idle.row at c.begin-in-Finished.ensures.lines;
      between = record {
        between = between;
        wins = wins_idle p.script.layout lines number c.args.client p.wins.items played.wins;
        places = record { entries = (roomy here lines played).entries; keys = (roomy here lines played).keys };
        counted = record { turned = numbered here lines played; entered = played.counted.entered };
      };
      turns = refl;
    }

pub reply-requires-clause-begun : goal.reply-requires-clause-begun
reply-requires-clause-begun c d at =
    let here = (goal.at.reply-requires-clause-begun c).After-next_action in
    let lines = c.requires.played.0 in
    let played = c.requires.played.1 in
    let p = c.args.self.now in
    let new = c.next_action.new.self in
    let stands = rw c.in-Answers.is at (stood here lines played) in
    let idle = c.idle.ensures in
    let same : d ≡ new = some_client d new (sym at ∙ rw idle.same (get_own p.clients.items c.args.client.0 c.index_mut.result.now new (there here lines played))) in
    rw (same, stands.3) (omega arith)

pub returns-in-Answers-clause-turn : goal.returns-in-Answers-clause-turn
returns-in-Answers-clause-turn c lines played =
    let here = (goal.at.returns-in-Answers-clause-turn c).After-next_action in
    let p = c.args.self.now in
    let i = c.args.client.0 in
    let new = c.next_action.new.self in
    let number = p.turns + 1 in
    let answer = c.in-Answers.answer in
    let stands = rw c.in-Answers.is at (stood here lines played) in
    let pass : new.pass.0 ≡ i = ap (λ (k : PassNo). k.0) stands.0.pass ∙ (played.between.each i c.index_mut.result.now (there here lines played)).0 in
    let idle = c.idle.ensures in
    let r = rw idle.same at (c.reply.ensures.replied new (rw idle.same (get_own p.clients.items i c.index_mut.result.now new (there here lines played))) pass) in
    let same = rw idle.same at c.reply.ensures.same in
    let reply = c.reply.result in
    let told = Step (Idle number c.args.client) ∷ lines in
    let kept = roomy here lines played in
    let between = stood_refused p lines i number c.index_mut.result.now new played (there here lines played) c.args.client answer (changes c.reserve.new.self) r.won reply r.client refl (numbered here lines played) stands c.in_ok-reserve.ensures.same (r.end told) in
    record {
      script = same.script;
      row = Idle number c.args.client;
      entry = None;
      reply = Some reply;
      leaves = c.push.ensures.items ∙ ap (λ (l : List Line). l ++ Reply reply ∷ []) (rw idle.row at c.begin.ensures.lines);
      between = between_at c.reply.new.self (script_view p.script) _ _ _ _ _ same.script same.words r.clients same.wins same.places
          record { turned = same.turns ∙ numbered here lines played; entered = same.entries ∙ played.counted.entered } between
          (wins_reply p.script.layout told reply p.wins.items (wins_idle p.script.layout lines number c.args.client p.wins.items played.wins)) record { entries = kept.entries; keys = kept.keys };
      turns = refl;
    }
