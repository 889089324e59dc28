-- What words hold before the first row: in an empty table, and in one that begins with pairs.
use Rattle.std.proofs.Common.{◌≡◌, ℕ, ◌≤◌, ◌<◌, ◌==◌, Bool, true, false, cond, if◌then◌else◌, eqb, ne_eqb, refl, arith, List, [], ◌∷◌, ◌+◌, zero, suc}
use Rattle.arena.specs.declared.limits.Mode.{Mode}
use Rattle.arena.specs.declared.word.Side.{Side}
use Rattle.arena.specs.declared.word.Side.TheVariants.{Left, Right}
use Rattle.arena.specs.declared.word.NodeWord.{NodeWord}
use Rattle.arena.specs.declared.word.NodeWord.TheVariants.{Settled, Child, Info, Marked}
use Rattle.arena.specs.declared.word.SettledPart.TheVariants.{Head}
use Rattle.arena.specs.declared.word.ScxWord.{ScxWord}
use Rattle.arena.specs.declared.word.ScxWord.TheVariants.{State, AllFrozen, Plan, New, Old, Member, Seen, Call}
use Rattle.arena.specs.declared.word.Word.{Word}
use Rattle.arena.specs.declared.word.Word.TheVariants.{Node, Scx}
use Rattle.arena.specs.Opening.{is_map, nodes_at_start}
use Rattle.arena.specs.Words.{node, scx, info, marked, child}

-- what a word holds at the start in an empty map: node 0 is a root of class 2, over a leaf of class
-- 1 on its left and a leaf of class 2 on its right; the dummy is aborted; all else is 0
abbrev pub tree_opening : Word → ℕ
tree_opening (Node n (Settled Head)) =
    if n.0 == 0 then 2
    else (if n.0 == 1 then 13 else (if n.0 == 2 then 14 else 0))
tree_opening (Node n (Child Left)) = if n.0 == 0 then 1 else 0
tree_opening (Node n (Child Right)) = if n.0 == 0 then 2 else 0
tree_opening (Scx s State) = if s.0 == 0 then 2 else 0
tree_opening _ = 0

-- what a word holds at the start in cells: 0, but that the dummy is aborted
abbrev pub records_opening : Word → ℕ
records_opening (Scx s State) = if s.0 == 0 then 2 else 0
records_opening _ = 0

-- what a word holds before the first row, in an empty table of this mode
abbrev pub opening : Mode → Word → ℕ
opening mode w = if is_map mode then tree_opening w else records_opening w

-- How a table begins: its mode, the pairs of the map, by key and value, how many nodes were planted
-- with them, and what each word holds. No node has been frozen or marked, no SCX-record filled, and
-- what fields name is there.
pub record Opening : Type 0 where
  pub mode : Mode
  pub pairs : List (ℕ × ℕ)
  pub planted : ℕ
  -- how many of the planted nodes count as taken: as many as the tree has levels more than an empty
  -- one
  pub deep : ℕ
  pub words : Word → ℕ
  pub few : nodes_at_start mode 0 + deep ≤ nodes_at_start mode planted
  pub at_rest : (n : ℕ) → words (info n) ≡ 0
  pub unmarked : (n : ℕ) → words (marked n) ≡ 0
  pub records : (s : ℕ) (part : ScxWord) → words (scx s part) ≡ records_opening (scx s part)
  pub fields : (n : ℕ) (side : Side) → words (child n side) < nodes_at_start mode planted
  pub beyond : (n : ℕ) (part : NodeWord) → nodes_at_start mode planted ≤ n → words (node n part) ≡ 0
  pub cells : is_map mode ≡ false → (w : Word) → words w ≡ records_opening w

-- the k nodes from `first` on, the last in front: of the planted ones these count as taken
abbrev pub first_planted : ℕ → ℕ → List ℕ
first_planted first zero = []
first_planted first (suc k) = (first + k) ∷ first_planted first k

-- what a map and cells open with alike
pub alike : (mode : Mode) (w : Word) (v : ℕ) → tree_opening w ≡ v → records_opening w ≡ v → opening mode w ≡ v
alike mode w v map cells = elim (is_map mode) as (λ is. cond is (tree_opening w) (records_opening w) ≡ v) [ true ↦ map | false ↦ cells ]

pub alike_records : (mode : Mode) (s : ℕ) (part : ScxWord) → opening mode (scx s part) ≡ records_opening (scx s part)
alike_records mode s State = alike mode (scx s State) _ refl refl
alike_records mode s AllFrozen = alike mode (scx s AllFrozen) _ refl refl
alike_records mode s Plan = alike mode (scx s Plan) _ refl refl
alike_records mode s New = alike mode (scx s New) _ refl refl
alike_records mode s Old = alike mode (scx s Old) _ refl refl
alike_records mode s (Member j) = alike mode (scx s (Member j)) _ refl refl
alike_records mode s (Seen j) = alike mode (scx s (Seen j)) _ refl refl
alike_records mode s Call = alike mode (scx s Call) _ refl refl

pub small_fields : (mode : Mode) (n : ℕ) (side : Side) → opening mode (child n side) < nodes_at_start mode 0
small_fields mode n side = of (is_map mode) side
  where
    one : (root : Bool) → cond root 1 0 < 3 + 0
    one true = omega arith
    one false = omega arith

    two : (root : Bool) → cond root 2 0 < 3 + 0
    two true = omega arith
    two false = omega arith

    of : (map : Bool) (side : Side) → cond map (tree_opening (child n side)) (records_opening (child n side)) < cond map (3 + 0) 9
    of true Left = one (eqb n 0)
    of true Right = two (eqb n 0)
    of false side = omega arith

pub none_beyond : (mode : Mode) (n : ℕ) (part : NodeWord) → nodes_at_start mode 0 ≤ n → opening mode (node n part) ≡ 0
none_beyond mode n part i = of (is_map mode) part i
  where
    late : (map : Bool) → cond map (3 + 0) 9 ≤ n → 3 ≤ n
    late true l = omega (l, arith)
    late false l = omega (l, arith)

    in_tree : (part : NodeWord) → 3 ≤ n → tree_opening (node n part) ≡ 0
    in_tree (Settled Head) l = rw (ne_eqb n 0 (λ e. omega (arith, l, e)), ne_eqb n 1 (λ e. omega (arith, l, e)), ne_eqb n 2 (λ e. omega (arith, l, e))) refl
    in_tree (Child Left) l = rw (ne_eqb n 0 (λ e. omega (arith, l, e))) refl
    in_tree (Child Right) l = rw (ne_eqb n 0 (λ e. omega (arith, l, e))) refl
    in_tree (Settled _) l = refl
    in_tree Info l = refl
    in_tree Marked l = refl

    of : (map : Bool) (part : NodeWord) → cond map (3 + 0) 9 ≤ n → cond map (tree_opening (node n part)) (records_opening (node n part)) ≡ 0
    of true part l = in_tree part (late true l)
    of false part l = refl

pub cells_open : (mode : Mode) → is_map mode ≡ false → (w : Word) → opening mode w ≡ records_opening w
cells_open mode e w = rw e refl

-- an empty table of this mode
abbrev pub empty : Mode → Opening
empty mode = record {
  mode = mode;
  pairs = [];
  planted = 0;
  deep = 0;
  words = opening mode;
  few = omega arith;
  at_rest = λ n. alike mode (info n) 0 refl refl;
  unmarked = λ n. alike mode (marked n) 0 refl refl;
  records = alike_records mode;
  fields = small_fields mode;
  beyond = none_beyond mode;
  cells = cells_open mode;
}
