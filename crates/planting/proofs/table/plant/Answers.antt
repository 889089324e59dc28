use Rattle.std.proofs.Common.{◌≡◌, ℕ, ◌+◌, ◌<◌, ◌≤◌, length, slice_get, slice_index_or, Some, refl, sym, ◌∙◌, ap, subst, arith}
use Rattle.std.proofs.lemmas.Option.{slice_get-get_or}
use Rattle.arena.specs.declared.word.NodeWord.{NodeWord}
use Rattle.arena.specs.declared.word.Word.TheVariants.{Node, Scx}
use Rattle.arena.specs.Layout.{all_nodes, IsWord}
use Rattle.arena.specs.declared.limits.Mode.TheVariants.{Tree}
use Rattle.arena.specs.Openings.{alike_records, none_beyond}
use Rattle.arena.specs.PlainWords.{word_at}
use Rattle.planting.specs.Laid.{is_laid}
use Rattle.planting.specs.Plantings.{all_pieces, end_piece, numbered, planted_words, root_piece}
use Rattle.planting.specs.declared.seedling.Seedling.TheVariants.{Leaf}
use Rattle.planting.specs.Seedlings.{piece_of, pieces_of}
use Rattle.planting.proofs.Seedlings.{piece_at, pieces_count}
use Rattle.planting.proofs.Laid.{end_blank, laid_at, of_other, of_three, piece_there, planted_all, root_blank, up_to}
use Rattle.planting.proofs.table.plant.Goals as goal

pub lay-requires-clause-blank : goal.lay-requires-clause-blank
lay-requires-clause-blank c = λ q none.
    c.requires.empty (Node (numbered 0) q) (let r = c.requires.room in omega (arith, r))
    ∙ root_blank (2 + length c.args.nodes.now) (numbered 0) refl q (ap (λ p. is_laid p q) (sym c.root_piece.ensures) ∙ none)

pub lay-requires-2-clause-blank : goal.lay-requires-2-clause-blank
lay-requires-2-clause-blank c = λ q none.
    let inside : 1 < all_nodes c.args.words.now.layout = let r = c.requires.room in omega (arith, r) in
    c.lay.ensures.others.others (Node (numbered 1) q) inside refl
    ∙ c.requires.empty (Node (numbered 1) q) inside
    ∙ end_blank 2 1 (numbered 1) (omega arith) q (ap (λ p. is_laid p q) (sym c.end_piece.ensures) ∙ none)

pub lay-requires-3-clause-blank : goal.lay-requires-3-clause-blank
lay-requires-3-clause-blank c = λ q none.
    let inside : 2 < all_nodes c.args.words.now.layout = let r = c.requires.room in omega (arith, r) in
    let first = c.lay.ensures.others in
    let after : 2 < all_nodes c.lay.new.words.layout = subst (λ l. 2 < all_nodes l) (sym first.layout) inside in
    c.lay-2.ensures.others.others (Node (numbered 2) q) after refl
    ∙ first.others (Node (numbered 2) q) inside refl
    ∙ c.requires.empty (Node (numbered 2) q) inside
    ∙ end_blank 1 2 (numbered 2) (omega arith) q (ap (λ p. is_laid p q) (sym c.end_piece-2.ensures) ∙ none)

pub loop-at-init : goal.loop-at-init
loop-at-init c =
    let nodes = pieces_of c.args.pairs.now c.args.nodes.now in
    let count = pieces_count c.args.pairs.now c.args.nodes.now in
    let lay = c.args.words.now.layout in
    let first = c.lay.ensures.others in
    let second = c.lay-2.ensures.others in
    let third = c.lay-3.ensures.others in
    let room = c.requires.room in
    let in_second : (k : ℕ) → k < all_nodes lay → k < all_nodes c.lay.new.words.layout = λ k i. subst (λ l. k < all_nodes l) (sym first.layout) i in
    let in_third : (k : ℕ) → k < all_nodes lay → k < all_nodes c.lay-2.new.words.layout = λ k i. subst (λ l. k < all_nodes l) (sym (second.layout ∙ first.layout)) i in
    let same : c.lay-3.new.words.layout ≡ lay = third.layout ∙ second.layout ∙ first.layout in
    record {
      layout = same;
      done = λ n part l. of_three (λ k. word_at c.lay-3.new.words (Node (numbered k) part) ≡ planted_words (all_pieces nodes) (Node (numbered k) part))
          (third.others (Node (numbered 0) part) (in_third 0 (omega (arith, room))) refl
          ∙ second.others (Node (numbered 0) part) (in_second 0 (omega (arith, room))) refl
          ∙ laid_at c.lay.new.words (all_pieces nodes) (numbered 0) c.root_piece.result (root_piece (2 + length nodes)) (3 + length c.args.nodes.now) (omega (arith, count)) (c.root_piece.ensures ∙ ap root_piece (omega (arith, count))) c.lay.ensures.laid (λ k. refl) part)
          (third.others (Node (numbered 1) part) (in_third 1 (omega (arith, room))) refl
          ∙ laid_at c.lay-2.new.words (all_pieces nodes) (numbered 1) c.end_piece.result (end_piece 2 1) (3 + length c.args.nodes.now) (omega (arith, count)) c.end_piece.ensures c.lay-2.ensures.laid (λ k. refl) part)
          (laid_at c.lay-3.new.words (all_pieces nodes) (numbered 2) c.end_piece-2.result (end_piece 1 2) (3 + length c.args.nodes.now) (omega (arith, count)) c.end_piece-2.ensures c.lay-3.ensures.laid (λ k. refl) part)
          n.0 l;
      blank = λ n part l i.
          let inside : n.0 < all_nodes lay = subst (λ k. n.0 < all_nodes k) same i in
          third.others (Node n part) (in_third n.0 inside) (of_other (numbered 2) n part (λ e. omega (arith, l, e)))
          ∙ second.others (Node n part) (in_second n.0 inside) (of_other (numbered 1) n part (λ e. omega (arith, l, e)))
          ∙ first.others (Node n part) inside (of_other (numbered 0) n part (λ e. omega (arith, l, e)))
          ∙ c.requires.empty (Node n part) inside
          ∙ none_beyond Tree n.0 part l;
      records = λ s part i.
          let inside : IsWord lay (Scx s part) = subst (λ k. IsWord k (Scx s part)) same i in
          third.others (Scx s part) (subst (λ k. IsWord k (Scx s part)) (sym (second.layout ∙ first.layout)) inside) refl
          ∙ second.others (Scx s part) (subst (λ k. IsWord k (Scx s part)) (sym first.layout) inside) refl
          ∙ first.others (Scx s part) inside refl
          ∙ c.requires.empty (Scx s part) inside
          ∙ alike_records Tree s.0 part;
    }

pub lay-requires-in-loop-at-clause-blank : goal.lay-requires-in-loop-at-clause-blank
lay-requires-in-loop-at-clause-blank c = λ q none.
    let same = c.loop-at.invariant.layout in
    let room = c.requires.room in
    let more = c.loop-at-test.true in
    c.loop-at.invariant.blank (numbered (3 + c.loop-at.at)) q (omega arith) (subst (λ l. 3 + c.loop-at.at < all_nodes l) (sym same) (omega (arith, room, more)))

pub loop-at-preserved : goal.loop-at-preserved
loop-at-preserved c =
    let nodes = pieces_of c.args.pairs.now c.args.nodes.now in
    let count = pieces_count c.args.pairs.now c.args.nodes.now in
    let at = c.loop-at.at in
    let n = numbered (3 + at) in
    let before = c.loop-at.invariant in
    let others = c.lay-in-loop-at.ensures.others in
    let inside : (k : ℕ) → k < all_nodes c.lay-in-loop-at.new.words.layout → k < all_nodes c.loop-at.words.layout = λ k i. subst (λ l. k < all_nodes l) others.layout i in
    let room = c.requires.room in
    let more = c.loop-at-test.true in
    let pairs = c.args.pairs.now in
    let rows = c.args.nodes.now in
    let node = slice_index_or rows at (Leaf 0 0 0) in
    let there : slice_get rows at ≡ Some node = slice_get-get_or rows at (Leaf 0 0 0) more in
    let here : (part : NodeWord) → word_at c.lay-in-loop-at.new.words (Node n part) ≡ planted_words (all_pieces nodes) (Node n part) = laid_at c.lay-in-loop-at.new.words (all_pieces nodes) n c.piece-piece.result (piece_of pairs node) (3 + length rows) (omega (arith, count)) c.piece-piece.ensures c.lay-in-loop-at.ensures.laid (piece_there nodes at (piece_of pairs node) (piece_at pairs rows at node there)) in
    record {
      layout = others.layout ∙ before.layout;
      done = λ m part l. up_to (3 + at) (λ k. word_at c.lay-in-loop-at.new.words (Node (numbered k) part) ≡ planted_words (all_pieces nodes) (Node (numbered k) part))
          (λ k less. others.others (Node (numbered k) part) (subst (λ l. k < all_nodes l) (sym before.layout) (omega (arith, room, more, less))) (of_other n (numbered k) part (λ e. omega (arith, less, e))) ∙ before.done (numbered k) part less)
          (here part) m.0 (omega (arith, l));
      blank = λ m part l i.
          others.others (Node m part) (inside m.0 i) (of_other n m part (λ e. omega (arith, l, e)))
          ∙ before.blank m part (omega (arith, l)) (inside m.0 i);
      records = λ s part i.
          let there : IsWord c.loop-at.words.layout (Scx s part) = subst (λ l. IsWord l (Scx s part)) others.layout i in
          others.others (Scx s part) there refl ∙ before.records s part there;
    }

pub returns-clause-words : goal.returns-clause-words
returns-clause-words c =
    let nodes = pieces_of c.args.pairs.now c.args.nodes.now in
    let same = c.loop-at.invariant.layout in
    let end : length nodes ≤ c.loop-at.at = let e = c.loop-at-test.false in let count = pieces_count c.args.pairs.now c.args.nodes.now in omega (arith, e, count) in
    λ w i. planted_all c.loop-at.words nodes c.loop-at.at end c.loop-at.invariant.done c.loop-at.invariant.blank c.loop-at.invariant.records w (subst (λ l. IsWord l w) (sym same) i)
