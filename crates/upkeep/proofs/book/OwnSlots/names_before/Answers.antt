use Rattle.std.proofs.Common.{◌≡◌, ◌<◌, ◌+◌, ◌%◌, ℕ, sym, ◌∙◌, ap, arith}
use Rattle.std.proofs.lemmas.Nat.{mod_below}
use Rattle.std.proofs.Math.Nat.{add-mod_right, mod-add-mod, mod-eq_of_lt}
use Rattle.upkeep.proofs.book.OwnSlots.names_before.Goals.{then-at-slot, else-at-slot}
use Rattle.upkeep.proofs.book.OwnSlots.names_before.Goals as goal

-- so many on is the slot in the same turn, or in the next
in_turn : (n turn slot count : ℕ) → slot < turn → n % turn + count ≡ slot → (n + count) % turn ≡ slot
in_turn n turn slot count less e = sym (mod-add-mod n turn count) ∙ ap (λ k. k % turn) e ∙ mod-eq_of_lt less

in_next : (n turn slot count : ℕ) → slot < turn → n % turn + count ≡ slot + turn → (n + count) % turn ≡ slot
in_next n turn slot count less e = sym (mod-add-mod n turn count) ∙ ap (λ k. k % turn) e ∙ add-mod_right slot turn ∙ mod-eq_of_lt less

pub returns-then-self-count : goal.returns-then-self-count
returns-then-self-count c =
    let own = c.args.self.now in
    let slot = own.first + c.args.i in
    let less : slot < own.turn = omega (arith, c.if-slot-self.false) in
    record {
      slot_is = elim c.if-at-slot.branch [
        | then-at-slot w ↦ in_turn own.dealt own.turn slot c.if-at-slot.count less (let a = w.if-at-slot.true in let e = w.count-is in omega (arith, a, e))
        | else-at-slot w ↦ in_next own.dealt own.turn slot c.if-at-slot.count less (let e = w.count-is in let b = mod_below own.dealt own.turn own.turns.0 in omega (arith, e, b))
      ];
      inside = c.if-self-count.true;
    }
