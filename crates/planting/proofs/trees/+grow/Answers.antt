use Rattle.std.proofs.Common.{◌≡◌, ◌+◌, ◌^◌, ◌≤◌, ◌++◌, [], ◌∷◌, length, take, drop, List, sym, ◌∙◌, ap, subst, arith}
use Rattle.std.proofs.lemmas.List.{length-append}
use Rattle.std.proofs.lemmas.Result.{IfOk-at_ok, IfOk-weaker}
use Rattle.ordered_map.specs.declared.pair.Pair.{Pair}
use Rattle.ordered_map.specs.OrderedMap.{AllBelow, IsRising}
use Rattle.edits.specs.declared.piece.Piece.{Piece}
use Rattle.planting.specs.Groves.{HasGrown}
use Rattle.planting.specs.Seedlings.{piece_of, pieces_of}
use Rattle.planting.proofs.Parts.{below_take, below_drop, rising_take, rising_drop}
use Rattle.planting.proofs.Rows.{leaf_grown, leaf_level, fork_grown, grown_as}
use Rattle.planting.proofs.Seedlings.{back_there, front_there, leaf_piece, one_more_piece, pieces_count}
use Rattle.planting.proofs.trees.+grow.Goals as goal

pub returns-then-pairs-le4-clause-few : goal.returns-then-pairs-le4-clause-few
returns-then-pairs-le4-clause-few t c =
    let some = c.requires.some in
    IfOk-weaker c.push.result _ _ (λ top w. let e = ap length w.1 ∙ length-append c.args.row.now.items (c.leaf.result ∷ []) in omega (arith, e, some)) c.push.ensures

pub returns-then-pairs-le4-clause-grown : goal.returns-then-pairs-le4-clause-grown
returns-then-pairs-le4-clause-grown t c = λ all is.
    let row = c.args.row.now.items in
    let old = pieces_of all row in
    let ps = c.args.pairs.now in
    let level = c.requires.level in
    let four = c.if-pairs-le4.true in
    IfOk-weaker c.push.result _ _
    (λ top w. grown_as c.args.trie ps c.args.level old _ (pieces_of all c.push.new.row.items) _ top
    (leaf_grown c.args.trie ps c.args.level old c.requires.some four c.requires.rising c.requires.keys (omega (arith, level)))
    (ap (pieces_of all) w.1 ∙ one_more_piece all row c.leaf.result ∙ ap (λ (x : Piece). old ++ x ∷ []) (ap (piece_of all) c.leaf.ensures ∙ leaf_piece all ps (leaf_level c.args.trie c.args.level) c.args.first is four))
    (w.0 ∙ ap (λ n. 3 + n) (sym (pieces_count all row))))
    c.push.ensures

pub grow-requires : goal.grow-requires
grow-requires t c =
    let p = c.part-parting.ensures in
    let n = c.split_at.ensures.front_len in
    let some = p.some in
    let less = p.less in
    let fits = p.fits in
    let level = c.requires.level in
    let places = c.requires.places in
    let room = c.requires.room in (
      omega (arith, n, less),
      (
        omega (arith, n, some),
        (
          subst IsRising (sym c.split_at.ensures.front) (rising_take c.part-parting.result.middle c.args.pairs.now c.requires.rising),
          (
            subst (AllBelow (2 ^ 64)) (sym c.split_at.ensures.front) (below_take (2 ^ 64) c.part-parting.result.middle c.args.pairs.now c.requires.keys),
            (
              omega (arith, n, less, fits, level),
              omega (arith, n, less, room),
            ),
          ),
        ),
      ),
    )

pub grow-requires-2 : goal.grow-requires-2
grow-requires-2 t c =
    let p = c.part-parting.ensures in
    let n = c.split_at.ensures.back_len in
    let m = c.split_at.ensures.front_len in
    let some = p.some in
    let less = p.less in
    let fits = p.fits in
    let level = c.requires.level in
    let room = c.requires.room in
    let few = IfOk-at_ok _ c.in_ok-left.was c.grow.ensures.few in (
      omega (arith, n, some),
      (
        omega (arith, n, less),
        (
          subst IsRising (sym c.split_at.ensures.back) (rising_drop c.part-parting.result.middle c.args.pairs.now c.requires.rising),
          (
            subst (AllBelow (2 ^ 64)) (sym c.split_at.ensures.back) (below_drop (2 ^ 64) c.part-parting.result.middle c.args.pairs.now c.requires.keys),
            (
              omega (arith, n, some, fits, level),
              omega (arith, n, m, room, few),
            ),
          ),
        ),
      ),
    )

pub returns-clause-few : goal.returns-clause-few
returns-clause-few t c =
    let left = IfOk-at_ok _ c.in_ok-left.was c.grow.ensures.few in
    let right = IfOk-at_ok _ c.in_ok-right.was c.grow-2.ensures.few in
    let m = c.split_at.ensures.front_len in
    let n = c.split_at.ensures.back_len in
    let less = c.part-parting.ensures.less in
    IfOk-weaker c.push-2.result _ _ (λ top w. let e = ap length w.1 ∙ length-append c.grow-2.new.row.items _ in omega (arith, e, left, right, m, n, less)) c.push-2.ensures

pub returns-clause-grown : goal.returns-clause-grown
returns-clause-grown t c = λ all is.
    let ps = c.args.pairs.now in
    let middle = c.part-parting.result.middle in
    let here = c.part-parting.result.level in
    let key = c.part-parting.result.key in
    let p = c.part-parting.ensures in
    let level = c.requires.level in
    let fits = p.fits in
    let within : middle ≤ length ps = let less = p.less in omega (arith, less) in
    let old = pieces_of all c.args.row.now.items in
    let row = pieces_of all c.grow.new.row.items in
    let row' = pieces_of all c.grow-2.new.row.items in
    let low : take (length c.split_at.result.0.now) (drop c.args.first all) ≡ c.split_at.result.0.now = subst (λ (qs : List Pair). take (length qs) (drop c.args.first all) ≡ qs) (sym c.split_at.ensures.front) (front_there all ps c.args.first middle within is) in
    let high : take (length c.split_at.result.1.now) (drop (c.args.first + middle) all) ≡ c.split_at.result.1.now = subst (λ (qs : List Pair). take (length qs) (drop (c.args.first + middle) all) ≡ qs) (sym c.split_at.ensures.back) (back_there all ps c.args.first middle within is) in
    let left : HasGrown c.args.trie (take middle ps) (here + 1) old row c.in_ok-left.left = subst (λ (qs : List Pair). HasGrown c.args.trie qs (here + 1) old row c.in_ok-left.left) c.split_at.ensures.front (IfOk-at_ok _ c.in_ok-left.was (c.grow.ensures.grown all low)) in
    let right : HasGrown c.args.trie (drop middle ps) (here + 1) row row' c.in_ok-right.right = subst (λ (qs : List Pair). HasGrown c.args.trie qs (here + 1) row row' c.in_ok-right.right) c.split_at.ensures.back (IfOk-at_ok _ c.in_ok-right.was (c.grow-2.ensures.grown all high)) in
    IfOk-weaker c.push-2.result _ _
    (λ top w. grown_as c.args.trie ps c.args.level old _ (pieces_of all c.push-2.new.row.items) _ top
    (fork_grown c.args.trie ps c.args.level middle key here old row row' c.in_ok-left.left c.in_ok-right.right p left right (let many = c.if-pairs-le4.false in omega (arith, many)) (omega (arith, level, fits)))
    (ap (pieces_of all) w.1 ∙ one_more_piece all c.grow-2.new.row.items _)
    (w.0 ∙ ap (λ n. 3 + n) (sym (pieces_count all c.grow-2.new.row.items))))
    c.push-2.ensures
