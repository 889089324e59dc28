-- The forks at which a walk has turned.
use Rattle.std.specs.Prelude.{◌≡◌, ◌⊎◌, ℕ, ◌<◌, ◌≤◌, Bool, true, false, if◌then◌else◌, ◌==◌}
use Rattle.histories.specs.Common.{NodeNo, Side}
use Rattle.arena.specs.declared.word.Side.TheVariants as sides
use Rattle.template.specs.declared.walk.WalkAt.{WalkAt}
use Rattle.template.specs.declared.walk.WalkAt.TheVariants.{Child, Key}
use Rattle.template.specs.declared.walk.WalkRun.{WalkRun}
use Rattle.ordered_map.specs.Bits.{IsForkKey, IsInSpan}
use Rattle.ordered_map.specs.declared.rule.Goal.{Goal}
use Rattle.ordered_map.specs.declared.rule.Goal.TheVariants.{Key as ToKey}
use Rattle.order.specs.declared.read.Children.{Children}
use Rattle.order.specs.declared.read.Children.TheVariants.{Left, Both}
use Rattle.order.specs.declared.last_turns.LastTurns.{LastTurns}

-- of a walk that has not turned
abbrev pub no_turns : LastTurns
no_turns = record { left = record { 0 = 0 }; right = record { 0 = 0 } }

-- with a turn to this side at the node n
abbrev pub with_last_turn : Side → NodeNo → LastTurns → LastTurns
with_last_turn sides.Left n turns = record turns { left = n }
with_last_turn sides.Right n turns = record turns { right = n }

-- the last to this side
abbrev pub turn_to : Side → LastTurns → NodeNo
turn_to sides.Left turns = turns.left
turn_to sides.Right turns = turns.right

-- of a walk that stands here at the node, where it had these before, and where it turns now counts
abbrev pub last_turns : WalkAt → NodeNo → LastTurns → LastTurns
last_turns (Child level side) node turns = with_last_turn side node turns
last_turns _ node turns = turns

-- the place is that of the load of a fork's key
abbrev pub LoadsKey : WalkAt → Type 0
LoadsKey (Key head) = Unit {0}
LoadsKey _ = ⊥

-- the goal of a walk is a key that shares this key of a fork, whichever level that is on
abbrev pub SharesKey : Goal → ℕ → Type 0
SharesKey goal found = (k : ℕ) × (goal ≡ ToKey k) × ((level : ℕ) → IsForkKey found level → IsInSpan found level k)

-- a key that is the goal shares it on no level
abbrev pub SharesNoKey : Goal → ℕ → Type 0
SharesNoKey goal found = (k level : ℕ) → goal ≡ ToKey k → IsForkKey found level → ¬ IsInSpan found level k

-- In a trie the fork n of this level counts, where a walk turns that was here before it has found
-- this: it is above all keys, or the walk has found the fork's key, and its own shares that.
abbrev pub Counts : WalkRun → ℕ → ℕ → NodeNo → Type 0
Counts before found low n = (low < 2) ⊎ ((before.trail.node.0 ≡ n.0) × LoadsKey before.at × SharesKey before.goal found)

-- it does not count: it is below those, and if the walk has found its key, its own does not share
-- that
abbrev pub CountsNot : WalkRun → ℕ → ℕ → NodeNo → Type 0
CountsNot before found low n = (2 ≤ low) × (before.trail.node.0 ≡ n.0 → LoadsKey before.at → SharesNoKey before.goal found)

-- so it is with the fork where the walk turns, if it does
abbrev pub IfTurns : WalkAt → (ℕ → Type 0) → Type 0
IfTurns (Child low side) P = P low
IfTurns _ P = Unit {0}

-- The last turns of a walk that was here, has found this, and is there now: in a tree each fork
-- counts where it turns, and in a trie those that do.
abbrev pub TurnsSo : Bool → WalkRun → ℕ → WalkRun → LastTurns → LastTurns → Type 0
TurnsSo false before found after turns now = now ≡ last_turns after.at after.trail.node turns
TurnsSo true before found after turns now =
    ((now ≡ last_turns after.at after.trail.node turns) × IfTurns after.at (λ low. Counts before found low after.trail.node))
    ⊎ ((now ≡ turns) × IfTurns after.at (λ low. CountsNot before found low after.trail.node))

-- to which side a walk has turned at its last turn to this side, or at the root if it had none:
-- there it turns to the left
abbrev pub turned_at : Side → ℕ → Side
turned_at sides.Left n = sides.Left
turned_at sides.Right n = if n == 0 then sides.Left else sides.Right

-- which children of that fork are to be visited
abbrev pub first_children : Side → ℕ → Children
first_children sides.Left n = Both
first_children sides.Right n = if n == 0 then Left else Both
