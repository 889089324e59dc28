-- How a map's table begins that is planted with its first pairs.
use Rattle.std.proofs.Common.{◌≡◌, ℕ, zero, suc, ◌+◌, ◌*◌, ◌/◌, ◌<◌, ◌≤◌, ◌⊎◌, min, nat_lt, Bool, true, false, if◌then◌else◌, List, [], ◌∷◌, ◌++◌, length, refl, sym, ◌∙◌, ap, arith, lt-ltb, le-ltb}
use Rattle.std.proofs.Math.Decide.{dec_lt}
use Rattle.arena.specs.declared.limits.Mode.{Mode}
use Rattle.arena.specs.declared.limits.Mode.TheVariants.{Tree, Trie, Records}
use Rattle.arena.specs.declared.number.NodeNo.{NodeNo}
use Rattle.arena.specs.declared.word.NodeWord.{NodeWord}
use Rattle.arena.specs.declared.word.NodeWord.TheVariants.{Settled, Child, Info, Marked}
use Rattle.arena.specs.declared.word.Word.{Word}
use Rattle.arena.specs.declared.word.Word.TheVariants.{Node, Scx}
use Rattle.arena.specs.History.{Opened}
use Rattle.arena.specs.Layout.{is_map, IsMap}
use Rattle.arena.specs.Openings.{Opening, empty, records_opening}
use Rattle.arena.specs.Words.{node}
use Rattle.arena.specs.declared.layout.Layout.{Layout}
use Rattle.ordered_map.specs.declared.pair.Pair.{Pair}
use Rattle.ordered_map.specs.OrderedMap.{pair}
use Rattle.ordered_map.specs.Planted.{IsPlanted, first_pairs}
use Rattle.edits.specs.declared.piece.Piece.{Piece}
use Rattle.edits.specs.declared.piece.Piece.TheVariants.{Leaf, Fork}
use Rattle.edits.specs.Pieces.{word_of}
use Rattle.planting.specs.Groves.{HasGrown}

-- what clauses see of a planting: the mode and the first pairs of a map, and its nodes from node 3
-- on, the last of which is a fork above all keys; or none at all
pub record PlantingView : Type 0 where
  pub mode : Mode
  pub pairs : List Pair
  pub nodes : List Piece

-- the node of this number
abbrev pub numbered : ℕ → NodeNo
numbered n = record { 0 = n }

-- the root, over this node and node 2
abbrev pub root_piece : ℕ → Piece
root_piece top = Fork 0 2 0 (numbered top) (numbered 2)

-- a leaf above all keys
abbrev pub end_piece : ℕ → ℕ → Piece
end_piece level class = Leaf level class (pair 0 0 ∷ [])

-- all nodes, from node 0 on
abbrev pub all_pieces : List Piece → List Piece
all_pieces nodes = root_piece (2 + length nodes) ∷ end_piece 2 1 ∷ end_piece 1 2 ∷ nodes

-- what a word of the node n among these is to hold
abbrev pub piece_word : List Piece → ℕ → NodeWord → ℕ
piece_word [] n part = 0
piece_word (p ∷ ps) zero part = word_of p part
piece_word (p ∷ ps) (suc n) part = piece_word ps n part

-- a number below `most`: another one is taken for 0
abbrev pub capped : ℕ → ℕ → ℕ
capped most n = if nat_lt n most then n else 0

-- what a word holds where these are the nodes
abbrev pub planted_words : List Piece → Word → ℕ
planted_words ps (Node n (Settled part)) = piece_word ps n.0 (Settled part)
planted_words ps (Node n (Child side)) = capped (length ps) (piece_word ps n.0 (Child side))
planted_words ps (Node n Info) = 0
planted_words ps (Node n Marked) = 0
planted_words ps (Scx s part) = records_opening (Scx s part)

-- such a number is below `most`
pub within_less : (most n : ℕ) → 0 < most → capped most n < most
within_less most n some = go (dec_lt n most)
  where
    go : Dec (n < most) → capped most n < most
    go (yes l) = rw (lt-ltb n most l) l
    go (no d) = rw (le-ltb n most (omega (arith, d))) some

-- there is no word beyond the last node
pub none_there : (ps : List Piece) (n : ℕ) (part : NodeWord) → length ps ≤ n → piece_word ps n part ≡ 0
none_there [] n part l = refl
none_there (p ∷ ps) zero part l = absurd (omega (arith, l))
none_there (p ∷ ps) (suc n) part l = none_there ps n part (omega (arith, l))

pub within_none : (most : ℕ) → capped most 0 ≡ 0
within_none zero = refl
within_none (suc most) = rw (lt-ltb 0 (suc most) (omega arith)) refl

pub zero_beyond : (ps : List Piece) (n : ℕ) (part : NodeWord) → length ps ≤ n → planted_words ps (node n part) ≡ 0
zero_beyond ps n (Settled part) l = none_there ps n (Settled part) l
zero_beyond ps n (Child side) l = ap (capped (length ps)) (none_there ps n (Child side) l) ∙ within_none (length ps)
zero_beyond ps n Info l = refl
zero_beyond ps n Marked l = refl

-- how often `room` is to be doubled until it is n or more; `most` times at most
abbrev pub doublings : ℕ → ℕ → ℕ → ℕ
doublings zero room n = 0
doublings (suc most) room n = if nat_lt room n then suc (doublings most (2 * room) n) else 0

-- on how many levels a tree of n pairs has forks, where each leaf has four and each fork parts them
-- evenly
abbrev pub fork_levels : ℕ → ℕ
fork_levels n = doublings n 4 n

-- a map's mode is not that of cells
pub no_cells : (mode : Mode) → IsMap mode → is_map mode ≡ false → ⊥
no_cells mode is none = let z : true ≡ false = sym is ∙ none in cc

-- key and value of each pair
abbrev pub couples : List Pair → List (ℕ × ℕ)
couples [] = []
couples (p ∷ ps) = (p.key, p.value) ∷ couples ps

-- A table of this mode that begins with these pairs and nodes: as many nodes count as taken as its
-- tree may have levels more than an empty one.
abbrev pub planted_opening : (mode : Mode) → IsMap mode → List Pair → List Piece → Opening
planted_opening mode is pairs nodes = record {
  mode = mode;
  pairs = couples pairs;
  planted = length nodes;
  deep = min (suc (fork_levels (length pairs))) (length nodes);
  words = planted_words (all_pieces nodes);
  few = rw is (omega arith);
  at_rest = λ n. refl;
  unmarked = λ n. refl;
  records = λ s part. refl;
  fields = λ n side. rw is (let i = within_less (length (all_pieces nodes)) (piece_word (all_pieces nodes) n (Child side)) (omega arith) in omega (arith, i));
  beyond = λ n part l. zero_beyond (all_pieces nodes) n part (let i : 3 + length nodes ≤ n = rw is at l in omega (arith, i));
  cells = λ none. absurd (no_cells mode is none);
}

-- cells begin empty
abbrev pub planted_in : Mode → List Pair → List Piece → Opening
planted_in Tree pairs nodes = planted_opening Tree refl pairs nodes
planted_in Trie pairs nodes = planted_opening Trie refl pairs nodes
planted_in Records pairs nodes = empty Records

-- so does a map, where there are no nodes
abbrev pub planted_as : Mode → List Pair → List Piece → Opening
planted_as mode pairs [] = empty mode
planted_as mode pairs (p ∷ ps) = planted_in mode pairs (p ∷ ps)

-- how a table begins that has this planting
abbrev pub opening_for : PlantingView → Opening
opening_for p = planted_as p.mode p.pairs p.nodes

-- nothing is planted
abbrev pub nothing_planted : Mode → PlantingView
nothing_planted mode = record { mode = mode; pairs = []; nodes = [] }

-- the fork above all keys, over the top of the nodes
abbrev pub crown_piece : ℕ → Piece
crown_piece top = Fork 1 1 0 (numbered top) (numbered 1)

-- the nodes of a tree over these pairs, or of a trie, and the fork above all keys
pub record IsGrownOver (trie : Bool) (pairs : List Pair) (nodes : List Piece) : Type 0 where
  pub row : List Piece
  pub top : ℕ
  pub grown : HasGrown trie pairs 2 [] row top
  pub is : nodes ≡ row ++ crown_piece top ∷ []

-- These pairs are planted in a table of this mode. It begins empty or as a map may begin, and its
-- pairs are these. A tree has a node for each leaf and for each fork, one of which is above all
-- keys: it has as few leaves as hold its pairs, and none is deeper than where each fork parts them
-- evenly.
pub record IsPlantingOf (mode : Mode) (pairs : List Pair) (p : PlantingView) : Type 0 where
  pub mode_is : (opening_for p).mode ≡ mode
  pub view_mode : p.mode ≡ mode
  pub pairs_are : first_pairs (Opened (opening_for p)) ≡ pairs
  pub few : length p.nodes ≤ 2 * length pairs
  pub enough : length pairs ≤ 4 * length p.nodes
  pub full : mode ≡ Tree → length p.nodes ≡ 2 * ((length pairs + 3) / 4)
  pub balanced : mode ≡ Tree → (opening_for p).deep ≤ suc (fork_levels (length pairs))
  pub planted : (opening_for p).planted ≡ length p.nodes
  pub opens : (opening_for p ≡ empty mode) ⊎ ((lay : Layout) → lay.mode ≡ mode → IsPlanted lay (Opened (opening_for p)) 0)
