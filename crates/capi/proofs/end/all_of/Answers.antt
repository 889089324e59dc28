use Rattle.std.proofs.Common.{◌<◌, All, length, length-set, get_or, set, arith, ap, sym, ◌∙◌, subst}
use Rattle.std.specs.Option.{option_map}
use Rattle.std.proofs.lemmas.List.{length-map}
use Rattle.capi.specs.declared.handle.HandleSlot.{HandleSlot}
use Rattle.capi.specs.Handles.{pass_count}
use Rattle.capi.specs.Ends.{IsIn, IsThere}
use Rattle.capi.specs.Made.{IsHeldOf}
use Rattle.capi.specs.Presence.{here}
use Rattle.capi.proofs.Ends.{all_more, all_through, kept, none_told, one_of, some_so, told_held, told_of, value_of}
use Rattle.capi.proofs.end.all_of.Goals as goal

pub returns-in_default-clause-same : goal.returns-in_default-clause-same
returns-in_default-clause-same c = kept c.loop-place.passes c.loop-place.place-index c.place-item.result _ c.place-item.is (c.all.ensures.same ∙ ap value_of (sym c.place-item.is)) ∙ c.loop-place.invariant.same

pub returns-in_default-clause-none : goal.returns-in_default-clause-none
returns-in_default-clause-none c = λ held.
    let inside : c.loop-place.place-index < length c.loop-place.passes = omega (arith, c.loop-place.auto.passes, c.loop-place-test.true) in
    let there = subst (All IsThere) (sym c.loop-place.invariant.same) held.1 in
    none_told c.place-item.result.handle.value (c.in_default.ensures.all ∙ ap (λ (p : HandleSlot). option_map pass_count (here p.handle.value)) (sym c.place-item.is)) (one_of c.loop-place.passes c.loop-place.place-index c.place-item.result c.place-item.result c.place-item.is IsThere inside there)

pub loop-place-preserved : goal.loop-place-preserved
loop-place-preserved c =
    let xs = c.loop-place.passes in
    let i = c.loop-place.place-index in
    let old = c.place-item.result in
    let new : HandleSlot = record { handle = c.all.new.self; unused = (get_or xs i old).unused } in
    let inside : i < length xs = omega (arith, c.loop-place.auto.passes, c.loop-place-test.true) in
    let same = c.all.ensures.same ∙ ap value_of (sym c.place-item.is) in
    let told = c.in-Some.ensures.all ∙ ap (λ (p : HandleSlot). option_map pass_count (here p.handle.value)) (sym c.place-item.is) in
    let inv = c.loop-place.invariant in
    let longer : 0 < length (set xs i new) = omega (arith, inside, length-set xs i new) in
    let stays = kept xs i old new c.place-item.is same in
    record {
      same = stays ∙ inv.same;
      held = all_more IsThere xs i new inside inv.held (subst IsThere (sym same) (told_held old.handle.value c.in-Some.told told));
      of = λ f all.
          let before = subst (All (IsIn f)) stays all in
          all_more (IsHeldOf f) xs i new inside (inv.of f before)
          (subst (IsHeldOf f) (sym same) (told_of f old.handle.value c.in-Some.told told (one_of xs i old new c.place-item.is (IsIn f) inside before)).0);
      all = (longer, λ f all. (told_of f old.handle.value c.in-Some.told told (one_of xs i old new c.place-item.is (IsIn f) inside (subst (All (IsIn f)) stays all))).1);
    }

pub returns-clause-some : goal.returns-clause-some
returns-clause-some c = λ f all.
    let inv = c.loop-place.invariant in
    let now = subst (All (IsIn f)) (sym inv.same) all in
    let through = all_through (IsHeldOf f) c.loop-place.passes c.loop-place.place-index (omega (arith, c.loop-place.auto.passes, c.loop-place-test.false)) (inv.of f now) in
    some_so c.loop-place.all _ _ _ (λ n count. (count.1 f now, subst (All (IsHeldOf f)) inv.same through)) inv.all

pub returns-clause-held : goal.returns-clause-held
returns-clause-held c =
    let inv = c.loop-place.invariant in
    let through = all_through IsThere c.loop-place.passes c.loop-place.place-index (omega (arith, c.loop-place.auto.passes, c.loop-place-test.false)) inv.held in
    some_so c.loop-place.all _ _ _ (λ n known. (omega (arith, known.0, c.loop-place.auto.passes, length-map c.args.passes.now value_of), subst (All IsThere) inv.same through)) inv.all
