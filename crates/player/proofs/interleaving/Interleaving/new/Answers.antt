use Rattle.std.proofs.Common.{refl}
use Rattle.script.proofs.Lemmas.{calls_are_of_mode}
use Rattle.player.proofs.Played.{opening_between, no_wins}
use Rattle.player.proofs.interleaving.Interleaving.new.Goals as goal

pub returns-clause-no_turns : goal.returns-clause-no_turns
returns-clause-no_turns c =
    let script = c.in_ok-script.script in
    record {
      between = opening_between script.layout script.limits.tries script.calls.items c.in_ok-words.words c.in_ok-clients.clients.items c.in_ok-words.ensures.layout c.in_ok-words.ensures.opening (calls_are_of_mode script) c.in_ok-clients.ensures.each;
      places = record { entries = λ map. rw c.in_ok-new.ensures.none tt; keys = rw c.deref.ensures.value at c.in_ok-new.ensures.keys };
      wins = no_wins script.layout c.in_ok-wins.wins.items;
      counted = record { turned = refl; entered = refl };
    }
