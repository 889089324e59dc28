use Rattle.std.proofs.Common.{None, ◌≡◌, ◌≢◌, ◌<◌, ◌⊎◌, inl, inr, sym, ◌∙◌, arith, subst}
use Rattle.template.specs.Common.{slot_behind, asked_key, WalkEnds}
use Rattle.template.proofs.WalkTurns.{asks_next, asks_value, ends_without}
use Rattle.template.proofs.walk.WalkRun.read_pair.Goals.{in_default-via-in-Some+else-key-asked, in_default-via-in_default}
use Rattle.template.proofs.walk.WalkRun.read_pair.Goals as goal

pub returns-then-asked-key-clause-turn : goal.returns-then-asked-key-clause-turn
returns-then-asked-key-clause-turn c d h k x many at e =
    let m = c.args.self.now in
    let same : asked_key m.goal c.args.key ≡ c.args.key = grind (arith, c.if-asked-key.true, c.asked_key-asked.ensures) in
    asks_value d h m c.load_settled.new.self c.load_settled.result c.args.head c.args.more c.args.slot c.args.key k x many at e same c.load_settled.ensures

pub returns-in-Some-clause-turn : goal.returns-in-Some-clause-turn
returns-in-Some-clause-turn c d h k x many at e =
    let m = c.args.self.now in
    let other : asked_key m.goal c.args.key ≢ c.args.key = λ z. grind (arith, z, c.if-asked-key.false, c.asked_key-asked.ensures) in
    asks_next d h m c.load_key.new.self c.load_key.result c.args.head c.args.more c.args.slot c.args.key k x many at e other c.in-Some.next (sym c.slot_behind.ensures ∙ c.in-Some.is) c.load_key.ensures

pub returns-in_default-clause-turn : goal.returns-in_default-clause-turn
returns-in_default-clause-turn c d h k x many at e =
    let m = c.args.self.now in
    let other : asked_key m.goal c.args.key ≢ c.args.key = λ z. grind (arith, z, c.if-asked-key.false, c.asked_key-asked.ensures) in
    let none : (slot_behind c.args.more c.args.slot ≡ None) ⊎ (asked_key m.goal c.args.key < c.args.key) = elim c.in_default.branch [
      | in_default-via-in-Some+else-key-asked w ↦ inr (omega (arith, other, c.asked_key-asked.ensures, w.if-key-asked.false))
      | in_default-via-in_default w ↦ inl (sym c.slot_behind.ensures ∙ w.in_default.is)
    ] in
    ends_without d h m c.end.new.self c.end.result c.args.head c.args.more c.args.slot c.args.key k x many at e other none (subst (λ key. WalkEnds m c.end.new.self c.end.result c.args.head c.args.more key None) c.asked_key-asked.ensures c.end.ensures)
