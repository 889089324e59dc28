use Rattle.std.proofs.Common.{◌≡◌, Some, None, length, vec_len, ◌∙◌, ap, arith, unwrap_or}
use Rattle.std.specs.Ordering.{nat_cmp}
use Rattle.std.specs.BTreeMap.{get}
use Rattle.linearization.proofs.Chains.{pushed_links, pushed_newest, compares_not}
use Rattle.linearization.proofs.places.Places.push.Goals as goal

pub invariant_of-self : goal.invariant_of-self
invariant_of-self c =
    let old = c.args.self.now in
    let e = c.in-Ok.ensures in
    let counted : vec_len old.list ≡ length old.list.items = omega (old.list.ok.0, arith) in
    record {
      linked = pushed_links old.list.items c.push_reserved.new.self.items _ c.push_reserved.ensures.items (c.unwrap_or.ensures ∙ ap (λ o. unwrap_or o None) e.old ∙ old.newest_are c.args.change.key) old.linked;
      newest_are = pushed_newest old.list.items c.push_reserved.new.self.items _ (get nat_cmp old.newest) (get nat_cmp c.insert.new.self) c.push_reserved.ensures.items old.newest_are (e.updates.1 ∙ ap (λ n. Some (Some n)) (c.len-at.ensures ∙ counted)) (λ key ne. e.updates.2 key (compares_not c.args.change.key key ne));
    }
