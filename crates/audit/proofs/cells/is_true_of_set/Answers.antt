use Rattle.std.proofs.Common.{◌≡◌, ℕ, true, false, [], ◌∷◌, sym, subst, ◌∙◌, eqb-true, rules}
use Rattle.histories.specs.Common.{Freeze, log, is_final}
use Rattle.record.specs.declared.record.Answer.{Answer}
use Rattle.record.specs.Common.{IsInTheWay, IsLastLook}
use Rattle.record.specs.Rules.Set.{SetIsRight}
use Rattle.judge.specs.Histories.{seen_history}
use Rattle.audit.proofs.cells.is_true_of_set.Goals as goal

pub returns-then-eq : goal.returns-then-eq
returns-then-eq c = λ start linked side v steps x t.
    let at : c.in-Fail.node.0 ≡ c.args.cell = eqb-true _ _ (sym c.if-eq.ensures) ∙ c.node-in-Fail.ensures.node in
    subst (λ (a : Answer). SetIsRight (c.args.cell, side) v c.args.steps.now.judge.layout c.args.pass.0 (seen_history c.args.steps.now.judge) start linked a) (sym c.in-Fail.is) (at, c.has_failed.ensures start linked steps x t)

pub returns-then-has_just_looked : goal.returns-then-has_just_looked
returns-then-has_just_looked c = λ start linked side v steps x t.
    let lay = c.args.steps.now.judge.layout in
    let h = seen_history c.args.steps.now.judge in
    let p = c.args.pass.0 in
    let look = subst (λ (k : ℕ). IsLastLook p h start h k) c.node-in-Full.ensures.node (c.has_just_looked.ensures.look p start linked steps x c.if-has_just_looked.true) in
    let not_final = subst (λ (k : ℕ). is_final (log lay h) k ≡ false) c.node-in-Full.ensures.node (c.has_just_looked.ensures.not_final c.if-has_just_looked.true) in
    subst (λ (a : Answer). SetIsRight (c.args.cell, side) v lay p h start linked a) (sym c.in-Full.is) (c.has_too_few.ensures t, not_final, look)

pub returns-then-eq-2 : goal.returns-then-eq-2
returns-then-eq-2 c = λ start linked side v steps x t.
    let lay = c.args.steps.now.judge.layout in
    let h = seen_history c.args.steps.now.judge in
    let p = c.args.pass.0 in
    let cell = c.args.cell in
    let roomy : c.had_room.result ≡ true = search rules in
    let room = c.had_room.ensures lay p h start linked x roomy in
    let at : c.in-Lost.node.0 ≡ cell = search rules in
    let lost = subst (λ (k : ℕ). IsInTheWay lay p h start Freeze (cell ∷ []) k c.in-Lost.scx.0 (λ moment. IsLastLook p h start moment cell × (is_final (log lay moment) cell ≡ false))) (sym at) (c.has_lost.ensures start linked steps x t) in
    subst (λ (a : Answer). SetIsRight (cell, side) v lay p h start linked a) (sym c.in-Lost.is) (room, lost)

pub returns-in-Done : goal.returns-in-Done
returns-in-Done c = λ start linked side v steps x t.
    let lay = c.args.steps.now.judge.layout in
    let h = seen_history c.args.steps.now.judge in
    subst (λ (a : Answer). SetIsRight (c.args.cell, side) v lay c.args.pass.0 h start linked a) (sym c.in-Done.is) (c.had_room-in-Done.ensures lay c.args.pass.0 h start linked x t)
