-- Nodes that were planted for a list of pairs, among all pairs.
use Rattle.std.proofs.Common.{◌≡◌, ℕ, ◌+◌, ◌-◌, ◌≤◌, List, [], ◌∷◌, ◌++◌, length, take, drop, slice_get, Some, sym, ◌∙◌, ap, arith}
use Rattle.std.proofs.lemmas.List.{length-drop, length-map, length-take-le, drop-drop, drop-take, take-take, map-append}
use Rattle.std.specs.Option.{option_map}
use Rattle.std.proofs.lemmas.Option.{slice_get-map}
use Rattle.ordered_map.specs.declared.pair.Pair.{Pair}
use Rattle.edits.specs.declared.piece.Piece.TheVariants.{Leaf as LeafPiece}
use Rattle.planting.specs.declared.seedling.Seedling.{Seedling}
use Rattle.planting.specs.declared.seedling.Seedling.TheVariants.{Leaf}
use Rattle.planting.specs.Seedlings.{piece_of, pieces_of}

pub pieces_count : (ps : List Pair) (nodes : List Seedling) → length (pieces_of ps nodes) ≡ length nodes
pieces_count ps nodes = length-map nodes (piece_of ps)

-- one more node
pub one_more_piece : (ps : List Pair) (row : List Seedling) (s : Seedling) → pieces_of ps (row ++ s ∷ []) ≡ pieces_of ps row ++ piece_of ps s ∷ []
one_more_piece ps row s = map-append (piece_of ps) row (s ∷ [])

pub piece_at : (ps : List Pair) (nodes : List Seedling) (at : ℕ) (s : Seedling) → slice_get nodes at ≡ Some s → slice_get (pieces_of ps nodes) at ≡ Some (piece_of ps s)
piece_at ps nodes at s e = slice_get-map (piece_of ps) nodes at ∙ ap (option_map (piece_of ps)) e

-- a leaf of all these pairs
pub leaf_piece : (all ps : List Pair) (level first : ℕ) → take (length ps) (drop first all) ≡ ps → length ps ≤ 4 → piece_of all (Leaf level first (length ps)) ≡ LeafPiece level 0 ps
leaf_piece all ps level first is four = ap (LeafPiece level 0) (ap (λ n. take n (drop first all)) (omega (arith, four)) ∙ is)

-- the first of them are there too, and so are the others
pub front_there : (all ps : List Pair) (first m : ℕ) → m ≤ length ps → take (length ps) (drop first all) ≡ ps → take (length (take m ps)) (drop first all) ≡ take m ps
front_there all ps first m l is = ap (λ n. take n (drop first all)) (length-take-le m ps l) ∙ shorter ∙ ap (take m) is
  where
    shorter : take m (drop first all) ≡ take m (take (length ps) (drop first all))
    shorter = sym (take-take m (length ps) (drop first all) l)

pub back_there : (all ps : List Pair) (first m : ℕ) → m ≤ length ps → take (length ps) (drop first all) ≡ ps → take (length (drop m ps)) (drop (first + m) all) ≡ drop m ps
back_there all ps first m l is =
    ap (λ n. take n (drop (first + m) all)) (length-drop m ps)
    ∙ ap (take (length ps - m)) (sym (drop-drop m first all))
    ∙ sym (drop-take m (length ps - m) (drop first all))
    ∙ ap (drop m) (ap (λ n. take n (drop first all)) (omega (arith, l)) ∙ is)
