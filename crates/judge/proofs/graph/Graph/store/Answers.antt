use Rattle.std.proofs.Common.{◌≡◌, ◌<◌, ◌∷◌, [], ◌++◌, length, vec_len, Some, None, refl, sym, ◌∙◌, ap, arith, slice_set}
use Rattle.std.proofs.Math.ListN.{length-set}
use Rattle.std.proofs.lemmas.List.{get_or_read}
use Rattle.judge.specs.Graph.{IsGraph, links_of}
use Rattle.judge.proofs.Spreading.{spread_keep}
use Rattle.judge.proofs.graph.Graph.store.Goals as goal

pub returns-clause-more : goal.returns-clause-more
returns-clause-more c =
    let old = c.args.self.now in
    let new = c.remember.new.self in
    let g = c.requires.graph in
    let f = c.remember.ensures in
    let counted : vec_len old.links ≡ length old.links.items = omega (old.links.ok.0, arith) in
    let number : c.len.result ≡ length old.links.items = c.len.ensures ∙ counted in
    let reached : new.reached.items ≡ old.reached.items = rw f.reached refl in
    let newest : new.newest.items ≡ slice_set old.newest.items c.args.from (Some (length old.links.items)) = rw (f.newest, ← number) refl in
    let list : new.links.items ≡ old.links.items ++ record { to = c.args.to; before = c.index-before.result.now } ∷ [] = rw f.links c.push_reserved.ensures.items in
    let inside : c.args.from < length old.newest.items = omega (g.sizes, c.requires.inside, arith) in
    let before = get_or_read old.newest.items c.args.from c.index-before.result.now inside c.index-before.ensures None in
    let kept = spread_keep old.reached.items old.newest.items old.links.items (links_of old) c.args.from c.args.to g.spread (record { to = c.args.to; before = c.index-before.result.now }) refl before inside c.requires.from c.requires.inside c.requires.to in
    let graph : IsGraph new = record {
      sizes = ap length newest ∙ length-set old.newest.items c.args.from (Some (length old.links.items)) ∙ g.sizes ∙ sym (ap length reached);
      spread = rw (reached, newest, list, f.all) kept;
      none_fresh = rw f.fresh g.none_fresh;
      room = rw (f.fresh, f.reached) g.room;
    } in
    record { graph = graph; size = ap length reached; all = f.all }
