use Rattle.std.proofs.Common.{◌≡◌, ℕ, suc, ◌-◌, length, List, take, Option, Some, All, sym, ◌∙◌, subst, reverse, rules, arith}
use Rattle.std.specs.List.{filter}
use Rattle.std.specs.Ordering.{nat_cmp}
use Rattle.std.specs.BTreeMap.{get as get_newest}
use Rattle.std.proofs.lemmas.List.Elements.{All-rest}
use Rattle.record.specs.Common.{get, Call, map_at, number_pairs}
use Rattle.record.specs.declared.record.Line.{Line}
use Rattle.linearization.specs.Entries.{AreEntries}
use Rattle.linearization.specs.Ordered.{looks_for, most_told, pairs_read}
use Rattle.linearization.specs.Places.{changes}
use Rattle.linearization.proofs.ReadPairs.{held, told_is, told_none, told_more, told_other, so_many, told_all, told_less, newest_next}
use Rattle.linearization.proofs.places.Places.tells.Goals.{After-into_iter-key-iterator}
use Rattle.linearization.proofs.places.Places.tells.Goals as goal

-- what is read is what is said of the keys that are visited
is_told : (c : After-into_iter-key-iterator) (calls : List Call) (lines : List Line) → AreEntries calls lines (changes c.args.self.now) → take (most_told c.args.command.now) (held (λ j. get j (map_at calls lines c.args.turn)) c.into_iter-key-iterator.result) ≡ pairs_read c.args.command.now (number_pairs c.args.pairs.now) (map_at calls lines c.args.turn)
is_told c calls lines a =
    let found : c.into_iter-key-iterator.result ≡ filter (λ e. looks_for c.args.command.now (number_pairs c.args.pairs.now) e.0) c.args.self.now.newest.entries = c.into_iter-key-iterator.ensures.into_iter_gives ∙ c.range-key-items.ensures.between tt ∙ (λ i. filter (λ e. c.bounds.ensures.keys e.0 i) c.args.self.now.newest.entries) in
    told_is c.args.command.now (number_pairs c.args.pairs.now) c.args.self.now.newest.entries c.into_iter-key-iterator.result (reverse c.args.self.now.list.items) calls lines c.args.turn a c.range-key-items.ensures.ordered c.args.self.now.newest_are found

pub returns-then-untold-eq0-clause-told : goal.returns-then-untold-eq0-clause-told
returns-then-untold-eq0-clause-told c calls lines a it =
    let value = λ (j : ℕ). get j (map_at calls lines c.args.turn) in
    let empty : length c.loop-key.rest.now ≡ 0 = search (rules, c.is_empty.ensures, it) in
    sym (is_told (goal.at.returns-then-untold-eq0-clause-told c).After-into_iter-key-iterator calls lines a) ∙ told_all value c.into_iter-key-iterator.result (most_told c.args.command.now) (number_pairs c.args.pairs.now) c.loop-key.untold c.loop-key.rest.now (so_many value c.into_iter-key-iterator.result (most_told c.args.command.now) (number_pairs c.args.pairs.now) c.loop-key.key-iterator c.loop-key.untold (number_pairs c.loop-key.rest.now) c.if-untold-eq0.true (c.loop-key.invariant.told calls lines a)) empty

pub returns-then-untold-eq0-clause-other : goal.returns-then-untold-eq0-clause-other
returns-then-untold-eq0-clause-other c calls lines a it told =
    let value = λ (j : ℕ). get j (map_at calls lines c.args.turn) in
    let some : length c.loop-key.rest.now ≡ 0 → ⊥ = search (rules, c.is_empty.ensures, it) in
    told_less value c.into_iter-key-iterator.result (most_told c.args.command.now) (number_pairs c.args.pairs.now) c.loop-key.untold c.loop-key.rest.now (so_many value c.into_iter-key-iterator.result (most_told c.args.command.now) (number_pairs c.args.pairs.now) c.loop-key.key-iterator c.loop-key.untold (number_pairs c.loop-key.rest.now) c.if-untold-eq0.true (c.loop-key.invariant.told calls lines a)) some (is_told (goal.at.returns-then-untold-eq0-clause-other c).After-into_iter-key-iterator calls lines a ∙ told)

pub returns-in_default-behind-clause-other : goal.returns-in_default-behind-clause-other
returns-in_default-behind-clause-other c calls lines a _ told =
    let value = λ (j : ℕ). get j (map_at calls lines c.args.turn) in
    let less : suc (c.loop-key.untold - 1) ≡ c.loop-key.untold = let n = c.if-untold-eq0.false in omega (n, arith) in
    told_other value c.into_iter-key-iterator.result (most_told c.args.command.now) (number_pairs c.args.pairs.now) (c.in-Some.key.now, c.in-Some.newest.now) c.next.new.self c.in-Some-value_from.value c.loop-key.untold (c.loop-key.untold - 1) (number_pairs c.loop-key.rest.now) (sym (c.value_from.ensures c.in-Some.key.now calls lines (newest_next (get_newest nat_cmp c.args.self.now.newest) (reverse c.args.self.now.list.items) (c.in-Some.key.now, c.in-Some.newest.now) c.next.new.self c.loop-key.key-iterator c.in-Some.ensures.steps c.loop-key.invariant.known c.args.self.now.newest_are) a) ∙ c.in-Some-value_from.is) c.in_default-behind.ensures.none less (rw c.in-Some.ensures.steps at (c.loop-key.invariant.told calls lines a)) (is_told (goal.at.returns-in_default-behind-clause-other c).After-into_iter-key-iterator calls lines a ∙ told)

pub loop-key-init : goal.loop-key-init
loop-key-init c = record {
  known =
      let found : All (λ (e : ℕ × Option ℕ). get_newest nat_cmp c.args.self.now.newest e.0 ≡ Some e.1) c.range-key-items.result = λ i d l. ((c.range-key-items.ensures.in_range tt).0 i d l).1 in
      subst (λ (es : List (ℕ × Option ℕ)). All (λ (e : ℕ × Option ℕ). get_newest nat_cmp c.args.self.now.newest e.0 ≡ Some e.1) es) (sym c.into_iter-key-iterator.ensures.into_iter_gives) found;
  told = λ calls lines a. rw c.most_told-untold.ensures (λ t. t, λ t. t);
}

pub loop-key-preserved : goal.loop-key-preserved
loop-key-preserved c = record {
  known = All-rest (λ (e : ℕ × Option ℕ). get_newest nat_cmp c.args.self.now.newest e.0 ≡ Some e.1) (c.in-Some.key.now, c.in-Some.newest.now) c.next.new.self c.loop-key.key-iterator c.in-Some.ensures.steps c.loop-key.invariant.known;
  told = λ calls lines a. told_none (λ (j : ℕ). get j (map_at calls lines c.args.turn)) c.into_iter-key-iterator.result (most_told c.args.command.now) (number_pairs c.args.pairs.now) (c.in-Some.key.now, c.in-Some.newest.now) c.next.new.self c.loop-key.untold (number_pairs c.loop-key.rest.now) (sym (c.value_from.ensures c.in-Some.key.now calls lines (newest_next (get_newest nat_cmp c.args.self.now.newest) (reverse c.args.self.now.list.items) (c.in-Some.key.now, c.in-Some.newest.now) c.next.new.self c.loop-key.key-iterator c.in-Some.ensures.steps c.loop-key.invariant.known c.args.self.now.newest_are) a) ∙ c.in_default.is) (rw c.in-Some.ensures.steps at (c.loop-key.invariant.told calls lines a));
}

pub loop-key-preserved-in-Some-value_from : goal.loop-key-preserved-in-Some-value_from
loop-key-preserved-in-Some-value_from c = record {
  known = All-rest (λ (e : ℕ × Option ℕ). get_newest nat_cmp c.args.self.now.newest e.0 ≡ Some e.1) (c.in-Some.key.now, c.in-Some.newest.now) c.next.new.self c.loop-key.key-iterator c.in-Some.ensures.steps c.loop-key.invariant.known;
  told = λ calls lines a.
      let value = λ (j : ℕ). get j (map_at calls lines c.args.turn) in
      let less : suc (c.loop-key.untold - 1) ≡ c.loop-key.untold = let n = c.if-untold-eq0.false in omega (n, arith) in
      told_more value c.into_iter-key-iterator.result (most_told c.args.command.now) (number_pairs c.args.pairs.now) (c.in-Some.key.now, c.in-Some.newest.now) c.next.new.self c.in-Some-value_from.value c.loop-key.untold (c.loop-key.untold - 1) (number_pairs c.loop-key.rest.now) (number_pairs c.in-Some-behind.others.now) (sym (c.value_from.ensures c.in-Some.key.now calls lines (newest_next (get_newest nat_cmp c.args.self.now.newest) (reverse c.args.self.now.list.items) (c.in-Some.key.now, c.in-Some.newest.now) c.next.new.self c.loop-key.key-iterator c.in-Some.ensures.steps c.loop-key.invariant.known c.args.self.now.newest_are) a) ∙ c.in-Some-value_from.is) c.in-Some-behind.ensures.some less (rw c.in-Some.ensures.steps at (c.loop-key.invariant.told calls lines a));
}

pub returns-clause-told : goal.returns-clause-told
returns-clause-told c calls lines a it =
    let value = λ (j : ℕ). get j (map_at calls lines c.args.turn) in
    let empty : length c.loop-key.rest.now ≡ 0 = search (rules, c.is_empty-2.ensures, it) in
    sym (is_told (goal.at.returns-clause-told c).After-into_iter-key-iterator calls lines a) ∙ told_all value c.into_iter-key-iterator.result (most_told c.args.command.now) (number_pairs c.args.pairs.now) c.loop-key.untold c.loop-key.rest.now (rw c.in-None.ensures.steps.0 at (c.loop-key.invariant.told calls lines a)) empty

pub returns-clause-other : goal.returns-clause-other
returns-clause-other c calls lines a it told =
    let value = λ (j : ℕ). get j (map_at calls lines c.args.turn) in
    let some : length c.loop-key.rest.now ≡ 0 → ⊥ = search (rules, c.is_empty-2.ensures, it) in
    told_less value c.into_iter-key-iterator.result (most_told c.args.command.now) (number_pairs c.args.pairs.now) c.loop-key.untold c.loop-key.rest.now (rw c.in-None.ensures.steps.0 at (c.loop-key.invariant.told calls lines a)) some (is_told (goal.at.returns-clause-other c).After-into_iter-key-iterator calls lines a ∙ told)
