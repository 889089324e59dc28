use Rattle.std.proofs.Common.{◌∙◌, sym, ap, refl, Some}
use Rattle.arena.specs.Share.{Remaining}
use Rattle.dict.specs.Calls.{AsksForPairs}
use Rattle.ordered_map.specs.Requests.{map_request}
use Rattle.player.specs.RunKnown.{IsForNothing}
use Rattle.player.proofs.Begins.{map_begins, map_refuses, map_starts}
use Rattle.player.proofs.client.Client.begin_request.Goals as goal

pub returns-then-is_for_nothing : goal.returns-then-is_for_nothing
returns-then-is_for_nothing c v began sound some map r u is =
    let nothing : IsForNothing c.args.request = rw c.if-is_for_nothing.true at c.is_for_nothing.ensures in
    (record { pass = refl; number = refl; next = refl }, refl, map_refuses v began c.args.self.now c.args.request c.new.result r u is nothing c.new.ensures.items)

pub returns : goal.returns
returns c v began sound some map r u is =
    let new = c.new-run.ensures in
    let had = c.in_ok-share.ensures in
    let asks : AsksForPairs (map_request c.args.request) = rw c.if-is_for_nothing.false at c.is_for_nothing.ensures in
    map_begins v c.args.self.now c.run.new.self c.new-run.result c.take.new.self c.run.result had.after
    (map_starts v began c.args.self.now c.new-run.result c.args.request sound map r u c.requires asks
    record {
      called = new.call;
      typed = new.typed;
      share = ap (λ (s : Remaining). Some s) new.share ∙ had.value;
      tries = new.tries ∙ r.stands.tries;
      trie = new.trie;
      fresh = rw (sym r.stands.tries) (new.fresh (rw r.stands.tries some));
      steps = λ nodes. rw (sym r.stands.tries, new.trie) (new.steps nodes (rw r.stands.tries some));
    }
    is)
    (c.run.ensures.begins v sound)
