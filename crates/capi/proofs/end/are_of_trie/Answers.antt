use Rattle.std.proofs.Common.{◌<◌, All, length, arith, ap, sym, refl, ◌∙◌, subst}
use Rattle.std.proofs.lemmas.Bool.{false≢true}
use Rattle.capi.specs.declared.handle.HandleSlot.{HandleSlot}
use Rattle.capi.specs.Handles.{holds_trie}
use Rattle.capi.specs.Ends.{IsOfTrie}
use Rattle.capi.proofs.Ends.{all_more, all_through, kept, one_of, value_of}
use Rattle.capi.proofs.end.are_of_trie.Goals as goal

pub returns-then-not-trie-clause-same : goal.returns-then-not-trie-clause-same
returns-then-not-trie-clause-same c = kept c.loop-place.passes c.loop-place.place-index c.place-item.result _ c.place-item.is (c.is_trie-trie.ensures.same ∙ ap value_of (sym c.place-item.is)) ∙ c.loop-place.invariant.same

pub returns-then-not-trie-clause-told : goal.returns-then-not-trie-clause-told
returns-then-not-trie-clause-told c = (
  λ yes. absurd (false≢true yes),
  λ all.
      let inside : c.loop-place.place-index < length c.loop-place.passes = omega (arith, c.loop-place.auto.passes, c.loop-place-test.true) in
      let here = subst (All IsOfTrie) (sym c.loop-place.invariant.same) all in
      let one = one_of c.loop-place.passes c.loop-place.place-index c.place-item.result c.place-item.result c.place-item.is IsOfTrie inside here in
      absurd (false≢true (sym c.if-not-trie.true ∙ c.is_trie-trie.ensures.told ∙ ap (λ (p : HandleSlot). holds_trie p.handle.value) (sym c.place-item.is) ∙ one)),
)

pub loop-place-preserved : goal.loop-place-preserved
loop-place-preserved c =
    let inside : c.loop-place.place-index < length c.loop-place.passes = omega (arith, c.loop-place.auto.passes, c.loop-place-test.true) in
    record {
      same = kept c.loop-place.passes c.loop-place.place-index c.place-item.result _ c.place-item.is (c.is_trie-trie.ensures.same ∙ ap value_of (sym c.place-item.is)) ∙ c.loop-place.invariant.same;
      told =
          all_more IsOfTrie c.loop-place.passes c.loop-place.place-index _ inside c.loop-place.invariant.told
          (ap holds_trie c.is_trie-trie.ensures.same ∙ sym c.is_trie-trie.ensures.told ∙ c.if-not-trie.false);
    }

pub returns-clause-told : goal.returns-clause-told
returns-clause-told c =
    let inv = c.loop-place.invariant in
    let through = all_through IsOfTrie c.loop-place.passes c.loop-place.place-index (omega (arith, c.loop-place.auto.passes, c.loop-place-test.false)) inv.told in
    (λ yes. subst (All IsOfTrie) inv.same through, λ all. refl)
