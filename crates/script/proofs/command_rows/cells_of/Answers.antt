use Rattle.std.proofs.Common.{◌≡◌, ◌≢◌, ℕ, ◌<◌, List, [], ◌∷◌, ◌++◌, length, length-take, take, get_or, map, Option, Some, None, MatchOption, Bor, true, All, Contains, arith, sym, ap, ◌∙◌, decimal, lit<}
use Rattle.std.specs.Str.Iter.{split_steps, split_text, split_has_more, split_pattern}
use Rattle.std.specs.Str.Pattern.{FindsChar}
use Rattle.std.specs.declared.str.Split.{Split}
use Rattle.std.proofs.lemmas.Bool.{false≢true}
use Rattle.std.proofs.lemmas.Fmt.{decimal_injective}
use Rattle.std.proofs.lemmas.Grind.{get_or_default_zero}
use Rattle.std.proofs.lemmas.Iterator.{YieldsList}
use Rattle.std.proofs.lemmas.Iterator.Consumers.{YieldsList-at, YieldsList-turn, YieldsList-so_far, YieldsList-end}
use Rattle.std.proofs.lemmas.Iterator.Splits.{YieldsList-from_str_split}
use Rattle.std.proofs.lemmas.List.{map-append, take-map, get_or-take}
use Rattle.std.proofs.lemmas.List.Elements.{All-push, All-take}
use Rattle.script.specs.declared.cells.CellList.{CellList}
use Rattle.script.specs.Cells.{cells_of, maybe_cells_of}
use Rattle.script.specs.Commands.{numbers_text, texts, IsCell, AreCells}
use Rattle.script.proofs.Spaced.{parts_of, parts_are, part_at, from_parts, same_cells, small}
use Rattle.script.proofs.command_rows.cells_of.Goals as goal

-- the cells read so far are the first of those that the text has
first_cells : (ns text found : List ℕ) (k : ℕ) (read : List (List ℕ)) → AreCells ns → All IsCell found → text ≡ numbers_text ns → read ≡ take k (parts_of text) → read ≡ map decimal found → found ≡ take k ns
first_cells ns text found k read cells all is first so_far =
    same_cells found (take k ns) all (All-take IsCell k ns cells.1)
    (sym so_far ∙ first ∙ ap (λ t. take k (parts_of t)) is ∙ ap (take k) (parts_are ns cells) ∙ take-map decimal k ns)

-- so one more cell of the text has room, and is none of them
has_room : (cells : CellList) (found : List ℕ) (cell k : ℕ) → k < length (cells_of cells) → found ≡ take k (cells_of cells) → cell ≡ get_or (cells_of cells) k 0 → (length found < 4) × ¬ (Contains found cell)
has_room cells found cell k within first next =
    let short = length-take k (cells_of cells) in
    let few = length-take cells.count cells.list in
    let long : length found ≡ length (take k (cells_of cells)) = ap length first in (
      omega (arith, cells.few),
      λ has.
          let before : has.0 < k = omega (arith, has.1) in
          cells.differ has.0 k cell before within
          (sym (get_or-take k (cells_of cells) has.0 cell before) ∙ ap (λ xs. get_or xs has.0 cell) (sym first) ∙ has.2 ∙ next ∙ sym (get_or_default_zero (cells_of cells) k cell within)),
    )

-- one cell more, and its text
one_more_text : (found more : List ℕ) (cell : ℕ) (xs : List (Bor (List ℕ))) (x : Bor (List ℕ)) → texts xs ≡ map decimal found → x.now ≡ decimal cell → more ≡ found ++ cell ∷ [] → texts (xs ++ x ∷ []) ≡ map decimal more
one_more_text found more cell xs x so_far here grown =
    map-append (λ t. t.now) xs (x ∷ []) ∙ ap (λ front. front ++ x.now ∷ []) so_far ∙ ap (λ text. map decimal found ++ text ∷ []) here ∙
    sym (map-append decimal found (cell ∷ [])) ∙ ap (map decimal) (sym grown)

all_read : (cells : Option CellList) (text : List ℕ) → parts_of text ≡ map decimal (maybe_cells_of cells) → All IsCell (maybe_cells_of cells) → MatchOption cells ((others : CellList) → AreCells (cells_of others) → text ≢ numbers_text (cells_of others)) (λ cells. AreCells (cells_of cells) × (text ≡ numbers_text (cells_of cells)))
all_read None text parts all = absurd (omega (arith, (from_parts [] text parts).0))
all_read (Some cells) text parts all =
    let back = from_parts (cells_of cells) text parts in ((back.0, all), back.1)

-- the loop gets the parts, one after another
parts_come : (text : List ℕ) (items iterator : Split ℕ) → iterator ≡ items → split_text items ≡ text → split_has_more items ≡ true → split_pattern items ≡ 32 → YieldsList (split_steps FindsChar (λ a b. b ≡ a)) (λ part. part.now) iterator (parts_of text)
parts_come text items iterator same is more space = YieldsList-at same (YieldsList-from_str_split 32 text (lit< tt) is more space)

pub returns-in_err-cell_of : goal.returns-in_err-cell_of
returns-in_err-cell_of c = rw c.from_residual.ensures (λ cells are is.
    let road = parts_come c.args.text.now _ _ c.into_iter-part-iterator.ensures.into_iter_gives c.split-part-items.ensures.text c.split-part-items.ensures.has_more c.split-part-items.ensures.pattern in
    let turn = YieldsList-turn road c.loop-part.yielded _ c.loop-part.yielded_by _ _ c.in-Some.part c.in-Some.is c.next.ensures.steps in
    let k = length c.loop-part.yielded in
    let here = part_at (cells_of cells) c.args.text.now c.in-Some.part.now k are is turn in
    c.in_err-cell_of.ensures (get_or (cells_of cells) k 0) (are.1 k 0 here.0) here.1)

pub returns-in_err-one_more : goal.returns-in_err-one_more
returns-in_err-one_more c = rw c.from_residual-in_err-one_more.ensures (λ cells are is.
    let road = parts_come c.args.text.now _ _ c.into_iter-part-iterator.ensures.into_iter_gives c.split-part-items.ensures.text c.split-part-items.ensures.has_more c.split-part-items.ensures.pattern in
    let turn = YieldsList-turn road c.loop-part.yielded _ c.loop-part.yielded_by _ _ c.in-Some.part c.in-Some.is c.next.ensures.steps in
    let so_far = YieldsList-so_far road c.loop-part.yielded _ c.loop-part.yielded_by in
    let k = length c.loop-part.yielded in
    let found = maybe_cells_of c.loop-part.cells in
    let cell = c.in_ok-cell_of.field-0 in
    let here = part_at (cells_of cells) c.args.text.now c.in-Some.part.now k are is turn in
    let first = first_cells (cells_of cells) c.args.text.now found k (texts c.loop-part.yielded) are c.loop-part.invariant.1 is so_far c.loop-part.invariant.0 in
    let next = decimal_injective cell (get_or (cells_of cells) k 0) (small cell c.in_ok-cell_of.ensures.0) (small _ (are.1 k 0 here.0)) (sym c.in_ok-cell_of.ensures.1 ∙ here.1) in
    false≢true (c.in_err-one_more.ensures.fits.1 (has_room cells found cell k here.0 first next)))

pub loop-part-preserved : goal.loop-part-preserved
loop-part-preserved c =
    let cell = c.in_ok-cell_of.field-0 in
    let found = maybe_cells_of c.loop-part.cells in
    let grown = c.in_ok-one_more.ensures.cells in
    let all : All IsCell (found ++ cell ∷ []) = All-push IsCell found cell c.loop-part.invariant.1 c.in_ok-cell_of.ensures.0 in
    (one_more_text found _ cell c.loop-part.yielded c.in-Some.part c.loop-part.invariant.0 c.in_ok-cell_of.ensures.1 grown, rw grown all)

pub returns : goal.returns
returns c =
    let road = parts_come c.args.text.now _ _ c.into_iter-part-iterator.ensures.into_iter_gives c.split-part-items.ensures.text c.split-part-items.ensures.has_more c.split-part-items.ensures.pattern in
    let end = YieldsList-end road c.loop-part.yielded _ c.loop-part.yielded_by _ _ c.in-None.is c.next.ensures.steps in
    all_read c.loop-part.cells c.args.text.now (sym end.0 ∙ c.loop-part.invariant.0) c.loop-part.invariant.1
