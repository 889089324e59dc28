-- Nodes that were grown, with the crown above them, are a map's to begin with.
use Rattle.std.proofs.Common.{◌≡◌, ℕ, zero, suc, ◌+◌, ◌*◌, ◌^◌, ◌<◌, ◌≤◌, inl, inr, min, Bool, true, false, List, [], ◌∷◌, ◌++◌, length, refl, sym, ◌∙◌, ap, subst, arith, lt-ltb, le-ltb, pow-suc, mul_comm, mul_assoc}
use native.Mathlib.Decide.{dec_lt}
use Rattle.std.proofs.lemmas.List.{length-append}
use Rattle.arena.specs.declared.limits.Mode.TheVariants.{Trie as TrieMode, Records as RecordsMode}
use Rattle.arena.specs.declared.word.Word.{Word}
use Rattle.arena.specs.Layout.{IsMap, is_map}
use Rattle.arena.specs.Openings.{Opening, first_planted, opening}
use Rattle.histories.specs.Common.{Tree as TreeMode, Mode, Layout, Left, Right, Settled, Child, Head, Info, Marked, NodeWord, node, child, History, Opened, value, taken_nodes, nodes_at_start}
use Rattle.template.specs.Balance.{map_mode}
use Rattle.ordered_map.specs.declared.pair.Pair.{Pair}
use Rattle.ordered_map.specs.OrderedMap.{pair, AllBelow}
use Rattle.ordered_map.specs.Planted.{IsPlanted, first_pairs, pairs_of}
use Rattle.edits.specs.declared.piece.Piece.{Piece}
use Rattle.edits.specs.Laws.PieceFills.{HoldsWords}
use Rattle.edits.specs.Pieces.{word_of}
use Rattle.edits.proofs.Lemmas.{IsLeafWith, IsForkWith, leaf_with, fork_with}
use Rattle.planting.specs.Groves.{IsGrove, HoldsRow, NamesBelow, HasGrown}
use Rattle.planting.specs.Plantings.{numbered, all_pieces, piece_word, capped, planted_words, couples, planted_opening, planted_as, nothing_planted, doublings, fork_levels, crown_piece, IsGrownOver, IsPlantingOf}
use Rattle.planting.proofs.Rows.{row_front, row_back, names_more, names_both}
use Rattle.planting.proofs.Crowns.{crowned, crown_items, crown_low, crown_whole, crown_there, crown_blank, crown_deep, crown_forks, whole_tree}

pub pairs_back : (ps : List Pair) → pairs_of (couples ps) ≡ ps
pairs_back [] = refl
pairs_back (p ∷ ps) = ap (λ qs. p ∷ qs) (pairs_back ps)

taken_length : (first k : ℕ) → length (first_planted first k) ≡ k
taken_length first zero = refl
taken_length first (suc k) = ap suc (taken_length first k)

within_same : (most n : ℕ) → n < most → capped most n ≡ n
within_same most n l = rw (lt-ltb n most l) refl

-- the words that are planted hold the pieces
holds_from : (o : Opening) (all : List Piece) (at : ℕ) (ps : List Piece) → o.words ≡ planted_words all → ((k : ℕ) (part : NodeWord) → piece_word all (at + k) part ≡ piece_word ps k part) → NamesBelow (length all) ps → HoldsRow (Opened o) at ps
unfolding value
holds_from o all at [] e same names = tt
holds_from o all at (p ∷ ps) e same names = (words, holds_from o all (suc at) ps e (λ k part. ap (λ n. piece_word all n part) (omega arith) ∙ same (suc k) part) names.2)
  where
    here : (part : NodeWord) → piece_word all at part ≡ word_of p part
    here part = ap (λ n. piece_word all n part) (omega arith) ∙ same 0 part

    words : HoldsWords (Opened o) at p
    words (Settled part) i = ap (λ f. f (node at (Settled part))) e ∙ here (Settled part)
    words (Child Left) i = ap (λ f. f (child at Left)) e ∙ ap (capped (length all)) (here (Child Left)) ∙ within_same (length all) _ names.0
    words (Child Right) i = ap (λ f. f (child at Right)) e ∙ ap (capped (length all)) (here (Child Right)) ∙ within_same (length all) _ names.1
    words Info i = absurd i
    words Marked i = absurd i

twice : (room k : ℕ) → (2 * room) * 2 ^ k ≡ room * 2 ^ suc k
twice room k = ap (λ m. m * 2 ^ k) (mul_comm 2 room) ∙ mul_assoc room 2 (2 ^ k) ∙ ap (λ m. room * m) (mul_comm 2 (2 ^ k) ∙ sym (pow-suc 2 k))

twice_least : (k : ℕ) → 2 * k ≤ 2 ^ k
twice_least zero = omega arith
twice_least (suc zero) = omega arith
twice_least (suc (suc k)) = let e = pow-suc 2 (suc k) in let l = twice_least (suc k) in omega (arith, e, l)

-- the room of the doublings is enough, and not more than twice that
doubled : (most room n : ℕ) → 0 < room → n ≤ room + most → room ≤ 2 * n + 2 → (n ≤ room * 2 ^ doublings most room n) × (room * 2 ^ doublings most room n ≤ 2 * n + 2)
doubled zero room n some fits least = (omega (arith, fits), omega (arith, least))
doubled (suc most) room n some fits least = go (dec_lt room n) (λ l. doubled most (2 * room) n (omega (arith, some)) (omega (arith, fits, some)) (omega (arith, l)))
  where
    go : Dec (room < n) → (room < n → (n ≤ 2 * room * 2 ^ doublings most (2 * room) n) × (2 * room * 2 ^ doublings most (2 * room) n ≤ 2 * n + 2)) → (n ≤ room * 2 ^ doublings (suc most) room n) × (room * 2 ^ doublings (suc most) room n ≤ 2 * n + 2)
    go (yes l) rest =
        let more = rest l in
        let same = twice room (doublings most (2 * room) n) in
        let first : n ≤ room * 2 ^ suc (doublings most (2 * room) n) = subst (λ k. n ≤ k) same more.0 in
        let second : room * 2 ^ suc (doublings most (2 * room) n) ≤ 2 * n + 2 = subst (λ k. k ≤ 2 * n + 2) same more.1 in
        rw (lt-ltb room n l) (first, second)
    go (no d) rest = rw (le-ltb room n (omega (arith, d))) (omega (arith, d), omega (arith, least))

tall_enough : (n : ℕ) → 0 < n → (n ≤ 4 * 2 ^ fork_levels n) × (4 * 2 ^ fork_levels n ≤ 2 * n + 2)
tall_enough n some = doubled n 4 n (omega arith) (omega arith) (omega (arith, some))

module _ (mode : Mode) (is : IsMap mode) (b : Bool) (is_trie : mode ≡ TrieMode → b ≡ true) (is_tree : mode ≡ TreeMode → b ≡ false) (ps : List Pair) (row : List Piece) (x : ℕ)
    (g : HasGrown b ps 2 [] row x) (small : AllBelow (2 ^ 64) ps) (some : 0 < length ps) where
  abbrev tall : ℕ
  tall = fork_levels (length ps)

  abbrev many : ℕ
  many = length g.more

  abbrev pub nodes : List Piece
  nodes = row ++ crown_piece x ∷ []

  abbrev all : List Piece
  all = all_pieces nodes

  abbrev pub o : Opening
  o = planted_opening mode is ps nodes

  abbrev h : History
  h = Opened o

  row_is : row ≡ g.more
  row_is = g.is

  pub nodes_count : length nodes ≡ many + 1
  nodes_count = length-append row (crown_piece x ∷ []) ∙ ap (λ r. length r + 1) row_is

  top_is : x ≡ 2 + many
  top_is = let e = g.last in let r : length row ≡ many = ap length row_is in omega (arith, e, r)

  names : NamesBelow (length all) all
  names = let n = nodes_count in let e = top_is in let r : length row ≡ many = ap length row_is in (
    omega arith,
    omega (arith, n),
    (
      omega arith,
      omega arith,
      (
        omega arith,
        omega arith,
        names_both (length all) row (crown_piece x ∷ []) (names_more (3 + length row) (length all) row (omega (arith, n, r)) (subst (λ r. NamesBelow (3 + length row) r) (sym row_is) g.names)) (omega (arith, e, n), omega (arith, n), tt),
      ),
    ),
  )

  rows : HoldsRow h 0 all
  rows = holds_from o all 0 all refl (λ k part. ap (λ n. piece_word all n part) (omega arith)) names

  inner : HoldsRow h 3 nodes
  inner = rows.1.1.1

  root_is : IsForkWith (value h) 0 0 2 0 (3 + many) 2
  root_is = subst (λ n. IsForkWith (value h) 0 0 2 0 n 2) (let n = nodes_count in omega (arith, n)) (fork_with h 0 0 2 0 (numbered (2 + length nodes)) (numbered 2) (omega arith) (omega arith) rows.0)

  first_is : IsLeafWith (value h) 1 2 1 (pair 0 0 ∷ [])
  first_is = leaf_with h 1 2 2 1 (pair 0 0 ∷ []) refl (omega arith) (omega arith) rows.1.0 (omega arith) (omega arith)

  last_is : IsLeafWith (value h) 2 1 2 (pair 0 0 ∷ [])
  last_is = leaf_with h 2 1 1 2 (pair 0 0 ∷ []) refl (omega arith) (omega arith) rows.1.1.0 (omega arith) (omega arith)

  crown_is : IsForkWith (value h) (3 + many) 1 1 0 x 1
  crown_is = fork_with h (3 + many) 1 1 0 (numbered x) (numbered 1) (omega arith) (omega arith)
      (subst (λ n. HoldsWords h n (crown_piece x)) (let r : length row ≡ many = ap length row_is in omega (arith, r)) (row_back h 3 row (crown_piece x ∷ []) inner).0)

  grove : IsGrove b (value h) ps 2 tall 3 many x
  grove = g.grove h tall (subst (λ r. HoldsRow h 3 r) row_is (row_front h 3 row (crown_piece x ∷ []) inner)) (λ _. (tall_enough (length ps) some).0)

  enough : suc tall ≤ length nodes
  enough = let n = nodes_count in let e = g.enough in let t = twice_least tall in let least = (tall_enough (length ps) some).1 in omega (arith, n, e, t, least)

  -- as many count as taken as the tree may be deeper
  taken_is : length (taken_nodes h) ≡ min (suc tall) (length nodes)
  unfolding taken_nodes
  taken_is = taken_length (nodes_at_start mode 0) (min (suc tall) (length nodes))

  count_is : (lay : Layout) → lay.mode ≡ mode → nodes_at_start lay.mode (length nodes) ≡ 3 + (many + 1)
  count_is lay m = rw (m, is) (let n = nodes_count in omega (arith, n))

  pub planted : (lay : Layout) → lay.mode ≡ mode → IsPlanted lay h 0
  planted lay m = record {
    dummy = refl;
    tree = whole_tree b (value h) ps tall many x grove small root_is first_is last_is crown_is;
    is_tree = crowned b (value h) ps tall many x grove small root_is first_is last_is crown_is;
    items = crown_items b (value h) ps tall many x grove small root_is first_is last_is crown_is ∙ ap (λ qs. qs ++ Rattle.ordered_map.specs.Planted.ends) (sym (pairs_back ps));
    ends_low = crown_low b (value h) ps tall many x grove small root_is first_is last_is crown_is;
    whole = λ n i. crown_whole b (value h) ps tall many x grove small root_is first_is last_is crown_is n (let e = count_is lay m in omega (arith, e, i));
    there = λ n p. let i = crown_there b (value h) ps tall many x grove small root_is first_is last_is crown_is n p in let e = count_is lay m in omega (arith, e, i);
    root = rows.0 (Settled Head) tt;
    last = rows.1.1.0 (Settled Head) tt;
    right = root_is.right;
    blank = crown_blank b (value h) ps tall many x grove small root_is first_is last_is crown_is;
    deep = λ tree n p. let l = crown_deep b (value h) ps tall many x grove small root_is first_is last_is crown_is (is_tree (sym m ∙ tree)) n p in let t = taken_is in let e = enough in omega (arith, l, t, e);
    forks = λ trie. crown_forks b (value h) ps tall many x grove small root_is first_is last_is crown_is (is_trie (sym m ∙ trie));
  }

min_first : (a b : ℕ) → min a b ≤ a
min_first a b = omega arith

-- where there are nodes, it begins so
abbrev BeginsSo : (mode : Mode) → IsMap mode → List Pair → Type 0
BeginsSo mode is ps = (row : List Piece) (p : Piece) → planted_as mode ps (row ++ p ∷ []) ≡ planted_opening mode is ps (row ++ p ∷ [])

tree_begins : (ps : List Pair) → BeginsSo TreeMode refl ps
tree_begins ps [] p = refl
tree_begins ps (r ∷ rs) p = refl

trie_begins : (ps : List Pair) → BeginsSo TrieMode refl ps
trie_begins ps [] p = refl
trie_begins ps (r ∷ rs) p = refl

-- a map that begins with these nodes begins with these pairs
planting : (mode : Mode) (is : IsMap mode) (b : Bool) → (mode ≡ TrieMode → b ≡ true) → (mode ≡ TreeMode → b ≡ false) → (ps : List Pair) (nodes : List Piece) → BeginsSo mode is ps → IsGrownOver b ps nodes → AllBelow (2 ^ 64) ps → IsPlantingOf mode ps record { mode = mode; pairs = ps; nodes = nodes }
planting mode is b trie tree ps nodes begins g small = subst (λ ns. IsPlantingOf mode ps record { mode = mode; pairs = ps; nodes = ns }) (sym g.is) record {
  mode_is = ap (λ (o : Opening). o.mode) same;
  view_mode = refl;
  pairs_are = ap (λ (o : Opening). pairs_of o.pairs) same ∙ pairs_back ps;
  few = let n = nodes_count mode is b trie tree ps g.row g.top g.grown small some in let e = g.grown.few in omega (arith, n, e);
  enough = let n = nodes_count mode is b trie tree ps g.row g.top g.grown small some in let e = g.grown.enough in omega (arith, n, e);
  full = λ m. let n = nodes_count mode is b trie tree ps g.row g.top g.grown small some in n ∙ g.grown.full (tree m);
  balanced = λ _. subst (λ (o : Opening). o.deep ≤ suc (fork_levels (length ps))) (sym same) (min_first (suc (fork_levels (length ps))) (length (g.row ++ crown_piece g.top ∷ [])));
  planted = ap (λ (o : Opening). o.planted) same;
  opens = inr (λ lay m. subst (λ (o : Opening). IsPlanted lay (Opened o) 0) (sym same) (planted mode is b trie tree ps g.row g.top g.grown small some lay m));
}
  where
    same : planted_as mode ps (g.row ++ crown_piece g.top ∷ []) ≡ planted_opening mode is ps (g.row ++ crown_piece g.top ∷ [])
    same = begins g.row (crown_piece g.top)

    some : 0 < length ps
    some = let e = g.grown.few in omega (arith, e)

no_trie : TrieMode ≡ TreeMode → ⊥
no_trie e = absurd (cc)

no_tree : TreeMode ≡ TrieMode → ⊥
no_tree e = absurd (cc)

pub planting_of : (b : Bool) (ps : List Pair) (nodes : List Piece) → IsGrownOver b ps nodes → AllBelow (2 ^ 64) ps → IsPlantingOf (map_mode b) ps record { mode = map_mode b; pairs = ps; nodes = nodes }
planting_of true ps nodes g small = planting TrieMode refl true (λ _. refl) (λ e. absurd (no_trie e)) ps nodes (trie_begins ps) g small
planting_of false ps nodes g small = planting TreeMode refl false (λ e. absurd (no_tree e)) (λ _. refl) ps nodes (tree_begins ps) g small

-- what the words hold that a planting begins with: those of its nodes in a map, if there are any
pub words_of_some : (mode : Mode) → IsMap mode → (ps : List Pair) (nodes : List Piece) → 0 < length nodes → (w : Word) → (planted_as mode ps nodes).words w ≡ planted_words (all_pieces nodes) w
words_of_some mode is ps [] some w = absurd (omega (arith, some))
words_of_some TreeMode is ps (p ∷ rest) some w = refl
words_of_some TrieMode is ps (p ∷ rest) some w = refl
words_of_some RecordsMode is ps (p ∷ rest) some w = absurd (let z : false ≡ true = is in cc)

pub words_of_none : (mode : Mode) (ps : List Pair) (nodes : List Piece) → length nodes ≡ 0 → (w : Word) → (planted_as mode ps nodes).words w ≡ opening mode w
words_of_none mode ps [] none w = refl
words_of_none mode ps (p ∷ rest) none w = absurd (omega (arith, none))

pub words_of_cells : (mode : Mode) → is_map mode ≡ false → (ps : List Pair) (nodes : List Piece) (w : Word) → (planted_as mode ps nodes).words w ≡ opening mode w
words_of_cells mode none ps [] w = refl
words_of_cells TreeMode none ps (p ∷ rest) w = absurd (let z : true ≡ false = none in cc)
words_of_cells TrieMode none ps (p ∷ rest) w = absurd (let z : true ≡ false = none in cc)
words_of_cells RecordsMode none ps (p ∷ rest) w = refl

-- no pairs are those of an empty map
pub bare_planting : (mode : Mode) (ps : List Pair) → length ps ≡ 0 → IsPlantingOf mode ps (nothing_planted mode)
bare_planting mode [] e = record { mode_is = refl; view_mode = refl; pairs_are = refl; few = omega arith; enough = omega (arith, e); full = λ _. refl; balanced = λ _. omega arith; planted = refl; opens = inl refl }
bare_planting mode (p ∷ ps) e = absurd (omega (arith, e))
