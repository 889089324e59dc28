use Rattle.std.proofs.Common.{arith, refl, rules}
use Rattle.straight.proofs.helps.freeze_all.Goals as goal

pub freeze-requires-2-clause-waits : goal.freeze-requires-2-clause-waits
freeze-requires-2-clause-waits g c = let r = c.requires.waits in
    (r.0, (c.freeze.ensures.leads.to r.0 r.1).next c.if-not-freeze.false c.in-Some.second c.in-Some.ensures.value (let v = (c.in-Some.ensures.valid.0 refl).1 in let e = c.in-Some.ensures.value in omega arith))

pub freeze-requires-3-clause-waits : goal.freeze-requires-3-clause-waits
freeze-requires-3-clause-waits g c = let r = c.requires.waits in
    let second = (c.freeze.ensures.leads.to r.0 r.1).next c.if-not-freeze.false c.in-Some.second c.in-Some.ensures.value (let v = (c.in-Some.ensures.valid.0 refl).1 in let e = c.in-Some.ensures.value in omega arith) in
    (r.0, (c.freeze-2.ensures.leads.to r.0 second).next c.if-not-freeze-2.false c.in-Some-member_behind.third c.in-Some-member_behind.ensures.value (rw c.freeze.ensures.same.1 (let v = (c.in-Some-member_behind.ensures.valid.0 refl).1 in let e = c.in-Some-member_behind.ensures.value in omega arith)))

pub freeze-requires-4-clause-waits : goal.freeze-requires-4-clause-waits
freeze-requires-4-clause-waits g c = let r = c.requires.waits in
    let second = (c.freeze.ensures.leads.to r.0 r.1).next c.if-not-freeze.false c.in-Some.second c.in-Some.ensures.value (let v = (c.in-Some.ensures.valid.0 refl).1 in let e = c.in-Some.ensures.value in omega arith) in
    let third = (c.freeze-2.ensures.leads.to r.0 second).next c.if-not-freeze-2.false c.in-Some-member_behind.third c.in-Some-member_behind.ensures.value (rw c.freeze.ensures.same.1 (let v = (c.in-Some-member_behind.ensures.valid.0 refl).1 in let e = c.in-Some-member_behind.ensures.value in omega arith)) in
    (r.0, (c.freeze-3.ensures.leads.to r.0 third).next c.if-not-freeze-3.false c.in-Some-member_behind-2.fourth c.in-Some-member_behind-2.ensures.value (rw (c.freeze-2.ensures.same.1, c.freeze.ensures.same.1) (let v = (c.in-Some-member_behind-2.ensures.valid.0 refl).1 in let e = c.in-Some-member_behind-2.ensures.value in omega arith)))

pub returns-then-not-freeze-clause-leads : goal.returns-then-not-freeze-clause-leads
returns-then-not-freeze-clause-leads g c = record {
  table = search rules;
  to = λ k x. record { frozen = λ yes. cc; blocked = λ no. (c.freeze.ensures.leads.to k x).blocked c.if-not-freeze.true };
  steps = (let a = c.freeze.ensures.leads.steps in omega (arith, a));
}

pub returns-in_default-clause-leads : goal.returns-in_default-clause-leads
returns-in_default-clause-leads g c = record {
  table = search rules;
  to = λ k x. record { frozen = λ yes. (c.freeze.ensures.leads.to k x).last c.if-not-freeze.false (λ y. let z = c.in_default.ensures.valid.1 y in cc); blocked = λ no. cc };
  steps = (let a = c.freeze.ensures.leads.steps in omega (arith, a));
}

pub returns-then-not-freeze-2-clause-leads : goal.returns-then-not-freeze-2-clause-leads
returns-then-not-freeze-2-clause-leads g c = record {
  table = search rules;
  to = λ k x.
      let second = (c.freeze.ensures.leads.to k x).next c.if-not-freeze.false c.in-Some.second c.in-Some.ensures.value (let v = (c.in-Some.ensures.valid.0 refl).1 in let e = c.in-Some.ensures.value in omega arith) in
      record { frozen = λ yes. cc; blocked = λ no. (c.freeze-2.ensures.leads.to k second).blocked c.if-not-freeze-2.true };
  steps = (let a = c.freeze.ensures.leads.steps in let b = c.freeze-2.ensures.leads.steps in omega (arith, a, b));
}

pub returns-in_default-member_behind-clause-leads : goal.returns-in_default-member_behind-clause-leads
returns-in_default-member_behind-clause-leads g c = record {
  table = search rules;
  to = λ k x.
      let second = (c.freeze.ensures.leads.to k x).next c.if-not-freeze.false c.in-Some.second c.in-Some.ensures.value (let v = (c.in-Some.ensures.valid.0 refl).1 in let e = c.in-Some.ensures.value in omega arith) in
      record { frozen = λ yes. (c.freeze-2.ensures.leads.to k second).last c.if-not-freeze-2.false (rw c.freeze.ensures.same.1 (λ y. let z = c.in_default-member_behind.ensures.valid.1 y in cc)); blocked = λ no. cc };
  steps = (let a = c.freeze.ensures.leads.steps in let b = c.freeze-2.ensures.leads.steps in omega (arith, a, b));
}

pub returns-then-not-freeze-3-clause-leads : goal.returns-then-not-freeze-3-clause-leads
returns-then-not-freeze-3-clause-leads g c = record {
  table = search rules;
  to = λ k x.
      let second = (c.freeze.ensures.leads.to k x).next c.if-not-freeze.false c.in-Some.second c.in-Some.ensures.value (let v = (c.in-Some.ensures.valid.0 refl).1 in let e = c.in-Some.ensures.value in omega arith) in
      let third = (c.freeze-2.ensures.leads.to k second).next c.if-not-freeze-2.false c.in-Some-member_behind.third c.in-Some-member_behind.ensures.value (rw c.freeze.ensures.same.1 (let v = (c.in-Some-member_behind.ensures.valid.0 refl).1 in let e = c.in-Some-member_behind.ensures.value in omega arith)) in
      record { frozen = λ yes. cc; blocked = λ no. (c.freeze-3.ensures.leads.to k third).blocked c.if-not-freeze-3.true };
  steps = (let a = c.freeze.ensures.leads.steps in let b = c.freeze-2.ensures.leads.steps in let d = c.freeze-3.ensures.leads.steps in omega (arith, a, b, d));
}

pub returns-in_default-member_behind-2-clause-leads : goal.returns-in_default-member_behind-2-clause-leads
returns-in_default-member_behind-2-clause-leads g c = record {
  table = search rules;
  to = λ k x.
      let second = (c.freeze.ensures.leads.to k x).next c.if-not-freeze.false c.in-Some.second c.in-Some.ensures.value (let v = (c.in-Some.ensures.valid.0 refl).1 in let e = c.in-Some.ensures.value in omega arith) in
      let third = (c.freeze-2.ensures.leads.to k second).next c.if-not-freeze-2.false c.in-Some-member_behind.third c.in-Some-member_behind.ensures.value (rw c.freeze.ensures.same.1 (let v = (c.in-Some-member_behind.ensures.valid.0 refl).1 in let e = c.in-Some-member_behind.ensures.value in omega arith)) in
      record { frozen = λ yes. (c.freeze-3.ensures.leads.to k third).last c.if-not-freeze-3.false (rw (c.freeze-2.ensures.same.1, c.freeze.ensures.same.1) (λ y. let z = c.in_default-member_behind-2.ensures.valid.1 y in cc)); blocked = λ no. cc };
  steps = (let a = c.freeze.ensures.leads.steps in let b = c.freeze-2.ensures.leads.steps in let d = c.freeze-3.ensures.leads.steps in omega (arith, a, b, d));
}

pub returns-clause-leads : goal.returns-clause-leads
returns-clause-leads g c = record {
  table = search rules;
  to = λ k x.
      let second = (c.freeze.ensures.leads.to k x).next c.if-not-freeze.false c.in-Some.second c.in-Some.ensures.value (let v = (c.in-Some.ensures.valid.0 refl).1 in let e = c.in-Some.ensures.value in omega arith) in
      let third = (c.freeze-2.ensures.leads.to k second).next c.if-not-freeze-2.false c.in-Some-member_behind.third c.in-Some-member_behind.ensures.value (rw c.freeze.ensures.same.1 (let v = (c.in-Some-member_behind.ensures.valid.0 refl).1 in let e = c.in-Some-member_behind.ensures.value in omega arith)) in
      let fourth = (c.freeze-3.ensures.leads.to k third).next c.if-not-freeze-3.false c.in-Some-member_behind-2.fourth c.in-Some-member_behind-2.ensures.value (rw (c.freeze-2.ensures.same.1, c.freeze.ensures.same.1) (let v = (c.in-Some-member_behind-2.ensures.valid.0 refl).1 in let e = c.in-Some-member_behind-2.ensures.value in omega arith)) in
      record { frozen = λ yes. (c.freeze-4.ensures.leads.to k fourth).last yes (λ y. let a = y.0 in let p = c.in-Some.ensures.value in let q = c.in-Some-member_behind.ensures.value in let s = c.in-Some-member_behind-2.ensures.value in omega arith); blocked = λ no. (c.freeze-4.ensures.leads.to k fourth).blocked no };
  steps = (let a = c.freeze.ensures.leads.steps in let b = c.freeze-2.ensures.leads.steps in let d = c.freeze-3.ensures.leads.steps in let e = c.freeze-4.ensures.leads.steps in omega (arith, a, b, d, e));
}
