use Rattle.std.proofs.Common.{◌≡◌, ◌<◌, ◌==◌, vec_len, false, sym, ◌∙◌, ap, subst, arith}
use Rattle.std.proofs.lemmas.Bool.Decides.{nat_tests}
use Rattle.arena.specs.Layout.{IsWord}
use Rattle.arena.specs.PlainWords.{Contents, word_at}
use Rattle.arena.specs.Openings.{opening}
use Rattle.arena.specs.declared.layout.Layout.{Layout}
use Rattle.arena.specs.declared.limits.Mode.{Mode}
use Rattle.planting.specs.Plantings.{PlantingView, all_pieces, opening_for, planted_words}
use Rattle.planting.specs.Seedlings.{pieces_of}
use Rattle.planting.proofs.Planted.{words_of_cells, words_of_none, words_of_some}
use Rattle.planting.proofs.Seedlings.{pieces_count}
use Rattle.planting.proofs.planting.Planting.words.Goals as goal
use Rattle.planting.proofs.planting.Planting.words.Goals.{then-not-is_empty+then-is_map, else-not-is_empty, else-not-is_empty-via-then-not-is_empty+else-is_map, else-not-is_empty-via-else-not-is_empty}

pub returns-clause-words : goal.returns-clause-words
returns-clause-words c = λ w i.
    let mode = c.self.inside.mode in
    let pairs = c.self.inside.pairs.items in
    let nodes = c.self.inside.nodes.items in
    let count = pieces_count pairs nodes in
    let items = c.self.inside.nodes.ok.0 in
    let inside : IsWord c.in_ok-words.words.layout w = subst (λ (l : Layout). IsWord l w) (sym c.in_ok-words.ensures.layout) i in
    let first : word_at c.in_ok-words.words w ≡ opening mode w = c.in_ok-words.ensures.opening w inside ∙ ap (λ (m : Mode). opening m w) (ap (λ (l : Layout). l.mode) c.in_ok-words.ensures.layout ∙ c.requires.mode ∙ ap (λ (p : PlantingView). p.mode) (sym c.self.view_is)) in
    subst (λ (p : PlantingView). word_at c.if-not-is_empty.words w ≡ (opening_for p).words w) c.self.view_is (elim c.if-not-is_empty.branch [
      | then-not-is_empty+then-is_map x ↦ ap (λ (k : Contents). word_at k w) x.words-is
          ∙ x.plant.ensures.words w inside
          ∙ (λ j. planted_words (all_pieces (pieces_of (x.deref-then-is_map.ensures.value j) (x.deref.ensures.value j))) w)
          ∙ sym (words_of_some mode (sym x.is_map.ensures ∙ x.if-is_map.true) pairs (pieces_of pairs nodes) (let e : (vec_len c.self.inside.nodes == 0) ≡ false = sym c.is_empty.ensures ∙ x.if-not-is_empty.true in let some : 0 < vec_len c.self.inside.nodes = grind (arith, nat_tests) in omega (arith, some, items, count)) w)
      | else-not-is_empty x ↦ ap (λ (k : Contents). word_at k w) x.words-is ∙ first ∙ sym (elim x.else-not-is_empty.branch [
        | else-not-is_empty-via-then-not-is_empty+else-is_map y ↦ words_of_cells mode (sym y.is_map.ensures ∙ y.if-is_map.false) pairs (pieces_of pairs nodes) w
        | else-not-is_empty-via-else-not-is_empty y ↦ words_of_none mode pairs (pieces_of pairs nodes) (let none : vec_len c.self.inside.nodes ≡ 0 = grind (arith, nat_tests) in omega (arith, none, items, count)) w
      ])
    ])
