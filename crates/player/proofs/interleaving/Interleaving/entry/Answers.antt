use Rattle.std.proofs.Common.{arith, ◌≡◌, ◌+◌, Bool, true, false, not, sym, ◌∙◌, rules, refl}
use denote.Enum.Bare.{same_true}
use Rattle.arena.specs.contracts.step.Kind.{the_type}
use Rattle.histories.specs.Common.{Update, Child}
use Rattle.player.proofs.Middles.{made_few, made_info, made_winner, made_entry}
use Rattle.player.proofs.interleaving.Interleaving.entry.Goals as goal

is_so : (b : Bool) → not b ≡ false → b ≡ true
is_so true e = refl
is_so false e = sym e

pub get-requires : goal.get-requires
get-requires c = made_info c.args.self.now c.requires.0 c.args.number c.args.row.now c.in-Node-default-Child.node c.in-Node-default-Child.field-1 c.requires.1 c.in-Node-default-Child.is

pub returns-in_err-owner-clause-owed : goal.returns-in_err-owner-clause-owed
returns-in_err-owner-clause-owed c lines made =
    let kind : c.args.row.now.kind ≡ Update = same_true the_type (search rules) _ _ (is_so _ (sym c.ne.ensures ∙ c.if-ne.false)) in
    let field : c.in-Node-default-Child.field-1 ≡ Child c.in-Node-default-Child.field-1-0 = rw c.in-Node-default-Child.is at c.in-Node-default-Child.field-1-is in
    let w = made_winner c.args.self.now lines c.args.number c.args.row.now c.in-Node-default-Child.node c.in-Node-default-Child.field-1-0 made kind c.if-row.false (rw field at c.in-Node-default-Child.is) in
    absurd (let no : false ≡ true = c.in_err-owner.ensures.owned (rw c.get.ensures w.0) (rw c.get.ensures w.1) in cc)

pub returns-clause-owed : goal.returns-clause-owed
returns-clause-owed c lines made =
    let kind : c.args.row.now.kind ≡ Update = same_true the_type (search rules) _ _ (is_so _ (sym c.ne.ensures ∙ c.if-ne.false)) in
    let field : c.in-Node-default-Child.field-1 ≡ Child c.in-Node-default-Child.field-1-0 = rw c.in-Node-default-Child.is at c.in-Node-default-Child.field-1-is in
    made_entry c.args.self.now lines c.args.number c.args.row.now c.in-Node-default-Child.node c.in-Node-default-Child.field-1-0 (c.args.self.now.entries + 1) c.get.result c.get-2.result c.in_ok-owner.field-0 made kind c.if-row.false (rw field at c.in-Node-default-Child.is) (omega arith) c.get.ensures c.get-2.ensures c.in_ok-owner.ensures.from c.in_ok-owner.ensures.below

pub overflow_add-result : goal.overflow_add-result
overflow_add-result c =
    let few = made_few c.args.self.now c.requires.0 c.args.number c.args.row.now c.requires.1 in
    let bound = c.ranges.number in
    omega (arith, few, bound)
