use Rattle.std.proofs.Common.{refl, inr, arith}
use Rattle.histories.specs.Common.{Layout, Start, empty, Lawful}
use Rattle.prims.proofs.Lemmas.{whole_untouched, none_taken}
use Rattle.player.proofs.Begins.{nothing_kept}
use Rattle.player.proofs.Ends.{among_none}
use Rattle.player.proofs.client.Client.new.Goals as goal

lawful : (lay : Layout) → Lawful lay (Start lay.mode)
unfolding Lawful
lawful lay = (refl, omega arith)

pub returns-clause-rests : goal.returns-clause-rests
returns-clause-rests c = record {
  stands = record {
    is_pass = c.requires;
    tries = refl;
    number = refl;
    place = c.next_call.ensures;
    kept = λ n found e. nothing_kept (c.new.ensures n) e;
    unkept = λ n i e. inr refl;
    dropped = λ n x. absurd (among_none n x);
    free = λ map n. c.new.ensures n;
    trie = c.is_trie.ensures;
  };
  holds = record {
    some = refl;
    share = rw c.of.ensures.whole (whole_untouched c.args.layout.now (empty c.args.layout.now.mode) c.args.pass.0 (lawful c.args.layout.now));
    upper = rw c.of.ensures.whole refl;
    over = λ s own d t. absurd (none_taken (empty c.args.layout.now.mode) s t);
  };
  none = refl;
}
