use Rattle.std.proofs.Common.{◌≡◌, ℕ, [], take, refl, sym, ◌∙◌, ap, reverse}
use Rattle.std.specs.List.{filter}
use Rattle.record.specs.Common.{get, PopFirst, Command, Map, map_at}
use Rattle.linearization.specs.Ordered.{looks_for, pairs_read}
use Rattle.linearization.proofs.ReadPairs.{held, held_less, first_none, first_some, told_is}
use Rattle.linearization.proofs.places.Places.had_pair.Goals as goal

pub loop-key-init : goal.loop-key-init
loop-key-init c calls lines n a i l = refl

pub loop-key-preserved : goal.loop-key-preserved
loop-key-preserved c calls lines n a i l =
    let value = λ (j : ℕ). get j (map_at calls lines n) in
    c.loop-key.invariant calls lines n a i l ∙ ap (held value) c.in-Some.ensures.steps ∙ held_less value (c.in-Some.key.now, c.in-Some.field-0-1.now) c.next.new.self (λ v. c.had_some.ensures.none calls lines a c.if-had_some.false v n i l)

pub returns-then-had_some-clause-found : goal.returns-then-had_some-clause-found
returns-then-had_some-clause-found c calls lines a it =
    let x = c.had_some.ensures.found calls lines a c.if-had_some.true in
    let p = first_some c.in-Some.key.now x.0 (map_at calls lines x.1.0) x.1.3 in
    (p.0, (x.1.0, x.1.1, x.1.2, p.1))

pub returns-clause-none : goal.returns-clause-none
returns-clause-none c calls lines a it n i l =
    let pop : Command = Map PopFirst in
    let value = λ (j : ℕ). get j (map_at calls lines n) in
    let found : c.into_iter-key-iterator.result ≡ filter (λ e. looks_for pop [] e.0) c.args.self.now.newest.entries = c.into_iter-key-iterator.ensures.into_iter_gives ∙ c.range-key-items.ensures.between tt ∙ (λ i. filter (λ e. c.bounds.ensures.keys e.0 i) c.args.self.now.newest.entries) in
    let told : take 1 (held value c.into_iter-key-iterator.result) ≡ pairs_read pop [] (map_at calls lines n) = told_is pop [] c.args.self.now.newest.entries c.into_iter-key-iterator.result (reverse c.args.self.now.list.items) calls lines n a c.range-key-items.ensures.ordered c.args.self.now.newest_are found in
    let nothing : held value c.into_iter-key-iterator.result ≡ [] = c.loop-key.invariant calls lines n a i l ∙ ap (held value) c.in-None.ensures.steps.0 in
    first_none (map_at calls lines n) (sym (ap (take 1) nothing) ∙ told)
