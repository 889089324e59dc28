-- What the nodes stand for that are planted.
use Rattle.std.specs.Prelude.{List, drop, map, min, take}
use Rattle.ordered_map.specs.declared.pair.Pair.{Pair}
use Rattle.edits.specs.declared.piece.Piece.{Piece}
use Rattle.edits.specs.declared.piece.Piece.TheVariants.{Leaf as LeafPiece, Fork as ForkPiece}
use Rattle.planting.specs.declared.seedling.Seedling.{Seedling}
use Rattle.planting.specs.declared.seedling.Seedling.TheVariants.{Leaf, Fork}

-- a node where these are all pairs: a leaf has up to four of them, from its first place on
abbrev pub piece_of : List Pair → Seedling → Piece
piece_of ps (Leaf level first count) = LeafPiece level 0 (take (min count 4) (drop first ps))
piece_of ps (Fork level class key left right) = ForkPiece level class key record { 0 = left } record { 0 = right }

-- each of these nodes
abbrev pub pieces_of : List Pair → List Seedling → List Piece
pieces_of ps nodes = map (piece_of ps) nodes
