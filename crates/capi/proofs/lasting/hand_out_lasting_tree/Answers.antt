use Rattle.std.proofs.Common.{◌≡◌, ◌+◌, ◌∷◌, [], ◌++◌, arith, length, length-append, subst}
use Rattle.tables.specs.Passes.{Ground}
use Rattle.capi.specs.Made.{IsHeldOf}
use Rattle.capi.proofs.Made.{all_held_of, next_held}
use Rattle.capi.proofs.lasting.hand_out_lasting_tree.Goals as goal

pub loop-pass-preserved : goal.loop-pass-preserved
loop-pass-preserved c =
    let inv = c.loop-pass.invariant in
    let old = c.loop-pass.places.items in
    let new = c.push.new.self.items in
    let items = c.in_ok-push.ensures.items in
    let handle = c.in_ok-hand_lasting_tree.field-0 in
    let told = c.in_ok-hand_lasting_tree.ensures in
    let of_arc : IsHeldOf c.args.forest handle.value = subst (λ (f : Ground). IsHeldOf f handle.value) c.in_ok-forest.ensures.ok told.of_forest in
    record {
      count = (
          let len = c.in_ok-push.ensures.len in
          let count = inv.count in
          let more : length (c.loop-pass.yielded ++ c.in-Some.pass ∷ []) ≡ length c.loop-pass.yielded + 1 = length-append c.loop-pass.yielded (c.in-Some.pass ∷ []) in
          omega (arith, len, count, more)
          );
      of_forest = all_held_of old new c.of.result items handle.value c.of.ensures c.args.forest of_arc inv.of_forest;
      held = next_held old new c.of.result items handle.value c.of.ensures c.loop-pass.yielded c.in-Some.pass told.held inv.held;
    }
