-- Where a walk has last turned.
use Rattle.std.proofs.Common.{◌≡◌, ℕ, ◌<◌, Bool, true, false, ◌⊎◌, inl, inr, refl, sym, ◌∙◌, ap, subst, arith}
use Rattle.arena.specs.declared.limits.Mode.TheVariants.{Trie as TrieMode}
use Rattle.histories.specs.Common.{Tree as TreeMode, Side, node, first_key, History, value, Call}
use Rattle.arena.specs.declared.word.Side.TheVariants as sides
use Rattle.ordered_map.specs.Bits.{IsForkKey, IsInSpan, IsParted}
use Rattle.ordered_map.specs.TrieShape.{Stays}
use Rattle.ordered_map.proofs.Lemmas.{shares_span}
use Rattle.ordered_map.proofs.MapLemmas.{stood_parted, walked_stood}
use Rattle.template.specs.Balance.{map_mode}
use Rattle.template.specs.Common.{IsMapRun, WasPassed, is_leaf, level, path_key, WalkIsTold, WalkKnows, Key as ToKey}
use Rattle.template.specs.Walk.Known.{LoadsChild, here, walk_part}
use Rattle.template.specs.declared.walk.WalkAt.{WalkAt}
use Rattle.template.specs.declared.walk.WalkAt.TheVariants.{Start, Root, Head, Key, Child, More, Pair, Value, High}
use Rattle.template.specs.declared.walk.WalkRun.{WalkRun}
use Rattle.template.proofs.Lemmas.{either_mode, surely_on}
use Rattle.order.specs.Known.{AreLastTurns, IsLastTurn, LastTurned}
use Rattle.order.specs.LastTurns.{Counts, CountsNot, IfTurns, LoadsKey, TurnsSo, last_turns, turn_to, with_last_turn}
use Rattle.order.specs.declared.last_turns.LastTurns.{LastTurns}

-- What a turn leaves

-- one that counts is the last now
pub turn_counts : (trie : Bool) (before : WalkRun) (found : ℕ) (after : WalkRun) (turns : LastTurns) (low : ℕ) (side : Side) → after.at ≡ Child low side → (trie ≡ true → Counts before found low after.trail.node) → TurnsSo trie before found after turns (with_last_turn side after.trail.node turns)
turn_counts false before found after turns low side at counts = rw at refl
turn_counts true before found after turns low side at counts = inl (rw at refl, rw at (counts refl))

-- another leaves the last as they were
pub turn_kept : (trie : Bool) (before : WalkRun) (found : ℕ) (after : WalkRun) (turns : LastTurns) (low : ℕ) (side : Side) → after.at ≡ Child low side → (trie ≡ true) × CountsNot before found low after.trail.node → TurnsSo trie before found after turns turns
turn_kept false before found after turns low side at not = absurd (let x : false ≡ true = not.0 in cc)
turn_kept true before found after turns low side at not = inr (refl, rw at not.1)

-- Where it stays on the path

module _ (c : Call) (h : History) (k n : ℕ) (g : IsMapRun c.layout h) (x : WasPassed c h k n) (fork : is_leaf (value h) n ≡ false) where
  parted : c.layout.mode ≡ TrieMode → IsParted (value h) n
  parted trie = (stood_parted c.layout h n trie g (walked_stood c.layout h x.first k n x.passed) fork).0

  -- a fork on the first two levels is above all keys
  pub stays_high : level (value h) n < 2 → Stays c.layout (value h) k n
  stays_high high = go (either_mode c.layout.mode g.0)
    where
      go : (c.layout.mode ≡ TreeMode) ⊎ (c.layout.mode ≡ TrieMode) → Stays c.layout (value h) k n
      go (inl tree) = inl tree
      go (inr trie) = inr (fork, λ low. absurd (let deep = ((parted trie).key low).high in omega (arith, deep, high)))

  -- the key shares that of the fork
  pub stays_shared : (v : ℕ) → value h (node n first_key) ≡ v → ((low : ℕ) → IsForkKey v low → IsInSpan v low k) → Stays c.layout (value h) k n
  stays_shared v is spans = go (either_mode c.layout.mode g.0)
    where
      go : (c.layout.mode ≡ TreeMode) ⊎ (c.layout.mode ≡ TrieMode) → Stays c.layout (value h) k n
      go (inl tree) = inl tree
      go (inr trie) = inr (fork, λ low. (shares_span (value h) n k low).1 (subst (λ y. IsInSpan y (level (value h) n) k) (sym is) (spans (level (value h) n) (subst (λ y. IsForkKey y (level (value h) n)) is ((parted trie).key low)))))

-- The turns after a step

module _ (c : Call) (h : History) (k : ℕ) (after : WalkRun) (turns : LastTurns) (goal : path_key after.goal ≡ k) (last : AreLastTurns c h k turns) where
  turned_here : (low : ℕ) (turn : Side) → WalkKnows c h after (Child low turn) → Stays c.layout (value h) k after.trail.node.0 → LastTurned c h k turn after.trail.node.0
  turned_here low turn x stays = record { sure = surely_on c h k after.trail.node.0 (rw goal at x.0.node) x.2 stays; fork = x.2; turn = rw goal at x.3 }

  turned_child : (low : ℕ) (turn s : Side) → WalkKnows c h after (Child low turn) → Stays c.layout (value h) k after.trail.node.0 → IsLastTurn c h k s (turn_to s (with_last_turn turn after.trail.node turns)).0
  turned_child low sides.Left sides.Left x stays = inr (turned_here low sides.Left x stays)
  turned_child low sides.Right sides.Right x stays = inr (turned_here low sides.Right x stays)
  turned_child low sides.Left sides.Right x stays = last sides.Right
  turned_child low sides.Right sides.Left x stays = last sides.Left

  -- with a turn that counts, if it has turned
  pub turned : (at : WalkAt) → WalkKnows c h after at → (LoadsChild at → Stays c.layout (value h) k after.trail.node.0) → AreLastTurns c h k (last_turns at after.trail.node turns)
  turned (Child low turn) x stays = λ s. turned_child low turn s x (stays tt)
  turned Start x stays = last
  turned Root x stays = last
  turned (Head above) x stays = last
  turned (Key head) x stays = last
  turned (More head) x stays = last
  turned (Pair head more slot) x stays = last
  turned (Value head more slot found) x stays = last
  turned (High head more slot found low) x stays = last

  module _ (trie : Bool) (mode : c.layout.mode ≡ map_mode trie) (g : IsMapRun c.layout h) (before : WalkRun) (v : ℕ) (before_goal : before.goal ≡ ToKey k) (told : WalkIsTold before c h v) where
    key_told : (at : WalkAt) → before.at ≡ at → LoadsKey at → value h (node before.trail.node.0 first_key) ≡ v
    key_told (Key head) e x = subst (λ p. here h before (walk_part p) ≡ v) e told.told
    key_told Start e x = absurd x
    key_told Root e x = absurd x
    key_told (Head above) e x = absurd x
    key_told (Child low turn) e x = absurd x
    key_told (More head) e x = absurd x
    key_told (Pair head more slot) e x = absurd x
    key_told (Value head more slot found) e x = absurd x
    key_told (High head more slot found low) e x = absurd x

    stays_if : (low : ℕ) (turn : Side) → WalkKnows c h after (Child low turn) → Counts before v low after.trail.node → Stays c.layout (value h) k after.trail.node.0
    stays_if low turn x (inl high) = stays_high c h k after.trail.node.0 g (rw goal at x.0.node) x.2 (rw x.1 high)
    stays_if low turn x (inr y) = stays_shared c h k after.trail.node.0 g (rw goal at x.0.node) x.2 v (subst (λ n. value h (node n first_key) ≡ v) y.0 (key_told before.at refl y.1)) (λ l is. subst (IsInSpan v l) (ap path_key (sym y.2.1 ∙ before_goal)) (y.2.2 l is))

    -- in a tree each fork stays, in a trie one that counts
    stays_so : (at : WalkAt) → WalkKnows c h after at → IfTurns at (λ low. Counts before v low after.trail.node) → LoadsChild at → Stays c.layout (value h) k after.trail.node.0
    stays_so (Child low turn) x counts child = stays_if low turn x counts
    stays_so Start x counts child = absurd child
    stays_so Root x counts child = absurd child
    stays_so (Head above) x counts child = absurd child
    stays_so (Key head) x counts child = absurd child
    stays_so (More head) x counts child = absurd child
    stays_so (Pair head more slot) x counts child = absurd child
    stays_so (Value head more slot found) x counts child = absurd child
    stays_so (High head more slot found low) x counts child = absurd child

    -- so they are after a step that has found v
    pub turned_so : (now : LastTurns) → WalkKnows c h after after.at → TurnsSo trie before v after turns now → AreLastTurns c h k now
    turned_so now x so = go trie refl so
      where
        go : (t : Bool) → trie ≡ t → TurnsSo t before v after turns now → AreLastTurns c h k now
        go false e is = subst (AreLastTurns c h k) (sym is) (turned after.at x (λ child. inl (mode ∙ ap map_mode e)))
        go true e (inl y) = subst (AreLastTurns c h k) (sym y.0) (turned after.at x (stays_so after.at x y.1))
        go true e (inr y) = subst (AreLastTurns c h k) (sym y.0) last
