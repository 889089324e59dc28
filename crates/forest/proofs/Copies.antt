-- Words some of which are copied: what map they spell.
use Rattle.std.proofs.Common.{◌≡◌, ℕ, ◌+◌, ◌<◌, ◌≤◌, Bool, true, false, ⊎_elim, inl, inr, List, [], ◌∷◌, ◌++◌, refl, sym, ◌∙◌, subst, arith}
use Rattle.std.proofs.Math.Nat.{eq-or-lt_of_le}
use Rattle.std.specs.List.{All}
use Rattle.std.proofs.lemmas.List.Elements.{All-nil, All-cons, All-head, All-tail, All-append}
use Rattle.histories.specs.Common.{Layout, NodeWord, Settled, Child, Info, Marked, Head, More, Key, Value, High, Left, Right, First, Second}
use Rattle.histories.specs.Common.{Third, Fourth, Word, all_nodes, IsWord, Contents, IsChanged, word_at, node, same_word, first_key}
use Rattle.arena.proofs.Lemmas.{word_same, word_apart}
use Rattle.template.specs.Common.{Pair, class, rank, Tree, root, Shows, Spells}
use Rattle.ordered_map.specs.TreeWords.{IsForkOver, Leaf, Fork, Has, pairs, leaf_nodes}
use Rattle.ordered_map.proofs.Lemmas.{SameSettled, same_leaf, same_pairs}
use Rattle.forest.specs.Copies.{IsMapWord, map_word}

-- One word

-- the word has what it is to have
abbrev Same : (Word → ℕ) → Contents → Word → Type 0
Same v to x = word_at to x ≡ v x

-- a copy of any word leaves those that have it
still_same : (v : Word → ℕ) (old new : Contents) (u x : Word) → IsChanged old new u (v u) → IsWord old.layout x → Same v old x → Same v new x
still_same v old new u x c i e = go (same_word u x) refl
  where
    go : (b : Bool) → same_word u x ≡ b → Same v new x
    go true s = subst (Same v new) (word_same u x s) c.changed
    go false s = c.others x i (word_apart u x s) ∙ e

-- A node

-- the number of a word that a map is read from
abbrev number_of : NodeWord → ℕ
number_of (Settled Head) = 0
number_of (Settled More) = 1
number_of (Settled (Key First)) = 2
number_of (Settled (Key Second)) = 3
number_of (Settled (Key Third)) = 4
number_of (Settled (Key Fourth)) = 5
number_of (Settled (Value First)) = 6
number_of (Settled (Value Second)) = 7
number_of (Settled (Value Third)) = 8
number_of (Settled (Value Fourth)) = 9
number_of (Settled (High First)) = 10
number_of (Settled (High Second)) = 11
number_of (Settled (High Third)) = 12
number_of (Settled (High Fourth)) = 13
number_of (Child Left) = 14
number_of _ = 15

numbered : (part : NodeWord) → IsMapWord part → (number_of part < 16) × (map_word (number_of part) ≡ part)
numbered (Settled Head) i = (omega arith, refl)
numbered (Settled More) i = (omega arith, refl)
numbered (Settled (Key First)) i = (omega arith, refl)
numbered (Settled (Key Second)) i = (omega arith, refl)
numbered (Settled (Key Third)) i = (omega arith, refl)
numbered (Settled (Key Fourth)) i = (omega arith, refl)
numbered (Settled (Value First)) i = (omega arith, refl)
numbered (Settled (Value Second)) i = (omega arith, refl)
numbered (Settled (Value Third)) i = (omega arith, refl)
numbered (Settled (Value Fourth)) i = (omega arith, refl)
numbered (Settled (High First)) i = (omega arith, refl)
numbered (Settled (High Second)) i = (omega arith, refl)
numbered (Settled (High Third)) i = (omega arith, refl)
numbered (Settled (High Fourth)) i = (omega arith, refl)
numbered (Child Left) i = (omega arith, refl)
numbered (Child Right) i = (omega arith, refl)
numbered Info i = absurd i
numbered Marked i = absurd i

-- the words that a map is read from have what they are to have, of the first n nodes
abbrev pub AreCopiedAs : (Word → ℕ) → Contents → ℕ → Type 0
AreCopiedAs v to n = (m : ℕ) (part : NodeWord) → m < n → IsMapWord part → Same v to (node m part)

-- so it is of the nodes before node n, and of the first k of its words
pub record AreCopiedTo (v : Word → ℕ) (lay : Layout) (to : Contents) (n k : ℕ) : Type 0 where
  pub layout : to.layout ≡ lay
  pub before : AreCopiedAs v to n
  pub here : (number : ℕ) → number < k → Same v to (node n (map_word number))

-- one word more
pub copied_word : (v : Word → ℕ) (lay : Layout) (old new : Contents) (n k : ℕ) → n < all_nodes lay → AreCopiedTo v lay old n k → IsChanged old new (node n (map_word k)) (v (node n (map_word k))) → AreCopiedTo v lay new n (k + 1)
copied_word v lay old new n k inside x c = record {
  layout = c.layout ∙ x.layout;
  before = λ m part less i. still_same v old new (node n (map_word k)) (node m part) c (table m (omega (arith, less, inside))) (x.before m part less i);
  here = here;
}
  where
    table : (m : ℕ) → m < all_nodes lay → m < all_nodes old.layout
    table m i = rw x.layout i

    here : (number : ℕ) → number < k + 1 → Same v new (node n (map_word number))
    here number less = ⊎_elim
        (λ (e : number ≡ k). subst (λ (j : ℕ). Same v new (node n (map_word j))) (sym e) c.changed)
        (λ (l : number < k). still_same v old new (node n (map_word k)) (node n (map_word number)) c (table n inside) (x.here number l))
        (eq-or-lt_of_le (omega (arith, less)))

-- all of them
pub copied_more : (v : Word → ℕ) (lay : Layout) (to : Contents) (n k : ℕ) → 16 ≤ k → AreCopiedTo v lay to n k → AreCopiedAs v to (n + 1)
copied_more v lay to n k all x m part less i = ⊎_elim
    (λ (e : m ≡ n). subst (λ (j : ℕ). Same v to (node j part)) (sym e) here)
    (λ (l : m < n). x.before m part l i)
    (eq-or-lt_of_le (omega arith))
  where
    here : Same v to (node n part)
    here = let p = numbered part i in subst (λ (q : NodeWord). Same v to (node n q)) p.1 (x.here (number_of part) (let few = p.0 in omega (arith, few, all)))

-- What they spell

module _ (f g : Word → ℕ) (size : ℕ) (same : (n : ℕ) (part : NodeWord) → n < size → IsMapWord part → g (node n part) ≡ f (node n part)) where
  root_has : (t : Tree) → Has t (root t)
  root_has (Leaf n) = refl
  root_has (Fork n a b) = inl refl

  same_settled : (n : ℕ) → n < size → SameSettled f g n
  same_settled n i (Settled part) s = same n (Settled part) i tt
  same_settled n i _ s = absurd s

  shows_same : (t : Tree) (low high : ℕ) → ((n : ℕ) → Has t n → n < size) → Shows f low high t → Shows g low high t
  shows_same (Leaf n) low high inside x = same_leaf f g n low high (same_settled n (inside n refl)) x
  shows_same (Fork n a b) low high inside x =
      let h : g (node n (Settled Head)) ≡ f (node n (Settled Head)) = same n (Settled Head) (inside n (inl refl)) tt in
      let k : g (node n first_key) ≡ f (node n first_key) = same n first_key (inside n (inl refl)) tt in
      let ha : g (node (root a) (Settled Head)) ≡ f (node (root a) (Settled Head)) = same (root a) (Settled Head) (inside (root a) (inr (inl (root_has a)))) tt in
      let hb : g (node (root b) (Settled Head)) ≡ f (node (root b) (Settled Head)) = same (root b) (Settled Head) (inside (root b) (inr (inr (root_has b)))) tt in
      let r : rank g n ≡ rank f n = rw (h, k) refl in
      let over : IsForkOver g n a b = record {
        fork = rw h x.0.fork;
        left = same n (Child Left) (inside n (inl refl)) tt ∙ x.0.left;
        right = same n (Child Right) (inside n (inl refl)) tt ∙ x.0.right;
        low = rw (h, ha) x.0.low;
        high = rw (h, hb) x.0.high;
      } in (
        over,
        subst (λ v. Shows g low v a) (sym r) (shows_same a low (rank f n) (λ m i. inside m (inr (inl i))) x.1),
        subst (λ v. Shows g v high b) (sym r) (shows_same b (rank f n) high (λ m i. inside m (inr (inr i))) x.2),
      )

  pairs_same : (t : Tree) → ((n : ℕ) → Has t n → n < size) → pairs g t ≡ pairs f t
  pairs_same (Leaf n) inside = same_pairs f g n (same_settled n (inside n refl))
  pairs_same (Fork n a b) inside = λ j. pairs_same a (λ m i. inside m (inr (inl i))) j ++ pairs_same b (λ m i. inside m (inr (inr i))) j

  class_same : (n v : ℕ) → n < size → class f n ≡ v → class g n ≡ v
  class_same n v i e = rw (same n (Settled Head) i tt) e

-- its leaves are in it
pub leaves_in : (P : ℕ → Type 0) (t : Tree) → ((n : ℕ) → Has t n → P n) → All P (leaf_nodes t)
leaves_in P (Leaf n) has = All-cons P n [] (has n refl) (All-nil P)
leaves_in P (Fork n a b) has = All-append P (leaf_nodes a) (leaf_nodes b) (leaves_in P a (λ m i. has m (inr (inl i)))) (leaves_in P b (λ m i. has m (inr (inr i))))

all_left : (P : ℕ → Type 0) (xs ys : List ℕ) → All P (xs ++ ys) → All P xs
all_left P [] ys a = All-nil P
all_left P (x ∷ xs) ys a = All-cons P x xs (All-head P x (xs ++ ys) a) (all_left P xs ys (All-tail P x (xs ++ ys) a))

pub all_right : (P : ℕ → Type 0) (xs ys : List ℕ) → All P (xs ++ ys) → All P ys
all_right P [] ys a = a
all_right P (x ∷ xs) ys a = all_right P xs ys (All-tail P x (xs ++ ys) a)

both_so : (P Q R : ℕ → Type 0) → ((n : ℕ) → P n → Q n → R n) → (xs : List ℕ) → All P xs → All Q xs → All R xs
both_so P Q R more [] a b = All-nil R
both_so P Q R more (x ∷ xs) a b = All-cons R x xs (more x (All-head P x xs a) (All-head Q x xs b)) (both_so P Q R more xs (All-tail P x xs a) (All-tail Q x xs b))

-- where words spell a map, a copy of those of all nodes spells it too
pub copy_spells : (lay : Layout) (f g : Word → ℕ) (m : List Pair) → ((n : ℕ) (part : NodeWord) → n < all_nodes lay → IsMapWord part → g (node n part) ≡ f (node n part)) → Spells lay f m → Spells lay g m
copy_spells lay f g m same x = record {
  tree = x.tree;
  is_tree = record { shows = shows_same f g size same x.tree _ _ x.inside x.is_tree.shows; is = x.is_tree.is };
  inside = x.inside;
  pairs = pairs_same f g size same x.tree x.inside ∙ x.pairs;
  rising = x.rising;
  others = x.others;
  one = x.one;
  last = x.last;
  low = both_so In (λ n. class f n ≡ 0) (λ n. class g n ≡ 0) (λ n i e. class_same f g size same n 0 i e) x.others (all_left In x.others (x.one ∷ 2 ∷ []) leaves) x.low;
  class_one = class_same f g size same x.one 1 (All-head In x.one (2 ∷ []) ends) x.class_one;
  class_two = class_same f g size same 2 2 (All-head In 2 [] (All-tail In x.one (2 ∷ []) ends)) x.class_two;
}
  where
    size : ℕ
    size = all_nodes lay

    In : ℕ → Type 0
    In n = n < size

    leaves : All In (x.others ++ x.one ∷ 2 ∷ [])
    leaves = subst (All In) x.last (leaves_in In x.tree x.inside)

    ends : All In (x.one ∷ 2 ∷ [])
    ends = all_right In x.others (x.one ∷ 2 ∷ []) leaves
