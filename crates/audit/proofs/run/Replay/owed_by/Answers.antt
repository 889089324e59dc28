use Rattle.std.proofs.Common.{◌≡◌, suc, Bool, true, false, not, sym, ◌∙◌, rules, refl, arith}
use Rattle.std.proofs.lemmas.Grind.{common_steps}
use denote.Enum.Bare.{same_true}
use Rattle.arena.specs.contracts.step.Kind.{the_type}
use Rattle.histories.specs.Common.{Update, Child}
use Rattle.audit.proofs.Fitting.{entry_made}
use Rattle.audit.proofs.run.Replay.owed_by.Goals as goal

is_so : (b : Bool) → not b ≡ false → b ≡ true
is_so true e = refl
is_so false e = sym e

pub returns-in-Some-Some-clause-owed : goal.returns-in-Some-Some-clause-owed
returns-in-Some-Some-clause-owed c =
    let kind : c.args.row.now.kind ≡ Update = same_true the_type (search rules) _ _ (is_so _ (sym c.ne.ensures ∙ c.if-ne.false)) in
    let field : c.in-Node-default-Child.field-1 ≡ Child c.in-Node-default-Child.field-1-0 = rw c.in-Node-default-Child.is at c.in-Node-default-Child.field-1-is in
    let place : c.in-Some-Some.place ≡ suc c.args.self.now.entries = grind (arith, common_steps) in
    entry_made c.args.self.now c.args.number c.in-Some-Some.place c.args.row.now c.in-Node-default-Child.node c.in-Node-default-Child.field-1-0 _ c.in-Some-Some.client c.get-call.result c.requires kind c.if-row.false (rw field at c.in-Node-default-Child.is) c.get.ensures c.get-call.ensures c.in-Some-Some.ensures.from c.in-Some-Some.ensures.below place
