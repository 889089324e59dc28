use Rattle.std.proofs.Common.{◌≡◌, Some, refl, ◌∙◌, ap, arith, subst}
use Rattle.histories.specs.Common.{Layout, IsWord, History}
use Rattle.tables.specs.TableRule.{past_of, row}
use Rattle.tables.specs.Traces.{Trace, known_of, others, makes}
use Rattle.straight.proofs.Advances.{called_so, may, may_in_map, word_of, told, one_step}
use Rattle.straight.proofs.AfterCalls.{course_keeps}
use Rattle.straight.specs.Hands.{hand_slots, names}
use Rattle.slots.specs.Lasting.{table_place}
use Rattle.tables.proofs.Slotted.{begins_low, once_by, place_from_start, word_part}
use Rattle.straight.proofs.step.step_from.Given.{Over}
use Rattle.straight.proofs.step.step_from.Goals as goal

-- the step is on a word of a record that has a name
step_word : (g : Over) (c : goal.Start g) → IsWord (names c.args.hand) c.args.step.word
step_word g c = let w = c.requires.waits in let law = g.met.M.Machine in
    subst (λ (l : Layout). IsWord l c.args.step.word) w.3.0 (word_of g.S.Shape.allows w.0 record { call = c.args.hand.number; step = c.args.step } w.3.1 _ _ (λ h. law.lawful w.2 w.0 h c.args.step) (called_so w.4))

pub place_from-at-requires-clause-word : goal.place_from-at-requires-clause-word
place_from-at-requires-clause-word g c = word_part (names c.args.hand) c.args.step.word (step_word g c)

pub place_from-at-requires-clause-start : goal.place_from-at-requires-clause-start
place_from-at-requires-clause-start g c = rw c.requires.start (let low = begins_low (c.requires.table.1) c.args.step.word (step_word g c) in omega (arith, low))

pub make-requires-clause-place : goal.make-requires-clause-place
make-requires-clause-place g c =
    let w = c.requires.waits in let law = g.met.M.Machine in
    let word : IsWord (names c.args.hand) c.args.step.word = subst (λ (l : Layout). IsWord l c.args.step.word) w.3.0 (word_of g.S.Shape.allows w.0 record { call = c.args.hand.number; step = c.args.step } w.3.1 _ _ (λ h. law.lawful w.2 w.0 h c.args.step) (called_so w.4)) in
    let at : c.place_from-at.result ≡ table_place (hand_slots c.args.hand) c.args.step.word = c.place_from-at.ensures ∙ rw c.requires.start (place_from_start (hand_slots c.args.hand) c.args.step.word) in
    record { is_word = word; is_place = at; inside = rw at ((c.requires.table.1).inside c.args.step.word word) }

pub make-requires-clause-last : goal.make-requires-clause-last
make-requires-clause-last g c = let table = (c.requires.table.1) in
    g.met.S.TableShape.may_last c.args.hand.words.now.table.shared.key (ap (λ (l : Layout). l.mode) table.layout ∙ table.mode_is) (once_by table)

pub make-requires-clause-may : goal.make-requires-clause-may
make-requires-clause-may g c = let w = c.requires.waits in let law = g.met.M.Machine in
    may g.S.Shape.allows w.0 record { call = c.args.hand.number; step = c.args.step } w.3.1 _ _ (λ h r. law.keeps w.2 w.0 h c.args.step r) (λ h. law.lawful w.2 w.0 h c.args.step) (called_so w.4)

pub make-requires-clause-in_map : goal.make-requires-clause-in_map
make-requires-clause-in_map g c = λ map. let w = c.requires.waits in let law = g.met.M.Machine in let in_call = g.met.M.CallMachine in
    may_in_map g.S.Shape.allows w.0 record { call = c.args.hand.number; step = c.args.step } w.3.1 _ _ (λ h r. law.keeps w.2 w.0 h c.args.step r) (λ h. law.lawful w.2 w.0 h c.args.step) (λ h waits. in_call.of_call w.2 w.0 h c.args.step map waits) (called_so w.4)
    (in_call.dealt w.2 w.0 _ c.args.step w.4.is.memory map w.4.so.0 (course_keeps (λ (m : g.row.M.Denot). g.M.CallMachine.left_dealt m w.4.is.memory) w.4.is.left (λ old now same left. in_call.keeps_left old now w.4.is.memory same left) w.2 _ w.4.so.1))

pub returns-clause-told : goal.returns-clause-told
returns-clause-told g c = λ k first m fits x. let law = g.met.M.Machine in let step = c.args.step in let found = c.make.result in
    let allows = g.S.Shape.allows in
    let course : g.row.M.Denot → History → Type 0 = λ n h. Trace {M = g.row.M.Denot} allows g.M.Machine.waits g.M.Machine.same k first n h in
    told allows k record { call = c.args.hand.number; step = c.args.step } fits.1 c.args.seat.now.me.0.passes c.make.new.seat.me.0.passes found (λ h. g.M.Machine.waits m k h step × course m h) (λ h. g.M.Machine.ready m k h (Some found) × course m h)
    (λ h r run other p. (law.keeps m k h step r run other p.0, others step r h refl (law.keeps m k h step r run other p.0) other run p.1))
    (λ h run tells p. (law.made m k h step found run tells p.0, makes step h refl p.0 run p.1))
    c.make.ensures.made x

pub returns-clause-one : goal.returns-clause-one
returns-clause-one g c = one_step g.S.Shape.allows record { call = c.args.hand.number; step = c.args.step } _ _ _ c.make.ensures.made

pub returns-clause-row : goal.returns-clause-row
returns-clause-row g c = let m = c.make.ensures.made in (m.pass, m.was, record { others = m.others; row = row m.pass.number.0 record { call = c.args.hand.number; step = c.args.step } (past_of m.pass m.others); is = ap known_of m.is; by_others = m.by_others; of_pass = refl; of_call = refl; of_kind = refl })
