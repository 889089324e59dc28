use Rattle.std.proofs.Common.{◌≡◌, ◌<◌, replicate, length, rules, ◌∙◌, arith, get_or-set_other, get_or-set_same}
use Rattle.std.proofs.lemmas.List.{length-replicate}
use Rattle.std.proofs.Math.ListN.{length-set}
use Rattle.arena.specs.Layout.{all_nodes}
use Rattle.histories.proofs.Lemmas.{some_open}
use Rattle.judge.specs.declared.uses.Users.TheVariants.{Nobody, Several}
use Rattle.judge.proofs.Used.{uses_start, no_users}
use Rattle.judge.proofs.uses.Uses.new.Goals as goal

pub returns : goal.returns
returns c =
    let lay = c.args.layout.now in
    let some = some_open lay in
    let fits : 0 < all_nodes lay = omega (some, arith) in
    let fresh : c.in_ok-users.users.items ≡ replicate c.all_nodes-size.result Nobody = c.in_ok-users.ensures.items_if_clones_equal (λ y p. search (rules, p)) in
    let inside : 0 < length c.in_ok-users.users.items = rw (fresh, length-replicate) (omega (fits, c.all_nodes-size.ensures.nodes, arith)) in
    uses_start lay _
    (c.loop-node.invariant.size ∙ c.all_nodes-size.ensures.nodes)
    (length-set c.in_ok-users.users.items 0 Several ∙ (rw (fresh, length-replicate) c.all_nodes-size.ensures.nodes))
    (search rules)
    (get_or-set_same c.in_ok-users.users.items 0 Several Nobody inside)
    (λ n d. get_or-set_other c.in_ok-users.users.items 0 n Several Nobody d ∙ rw fresh (no_users c.all_nodes-size.result n))
