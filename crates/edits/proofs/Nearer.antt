-- That each turn of an update leaves fewer steps, and takes no more of the share than it may.
use Rattle.std.proofs.Common.{◌≡◌, ◌≢◌, ◌∙◌, ℕ, zero, suc, ◌+◌, ◌*◌, ◌-◌, ◌<◌, ◌≤◌, ◌⊎◌, Bool, true, false, refl, sym, arith, inl, inr, ap, subst, Some, Result, Ok, Err, OnOk, OnErr}
use Rattle.std.proofs.Math.Nat.{suc-mul}
use Rattle.histories.specs.Common.{Turn, Ask, Done, MatchTurn, NodeWord}
use Rattle.edits.specs.declared.piece.Piece.{Piece}
use Rattle.edits.specs.Laws.PieceFills.{next_word}
use Rattle.edits.specs.Pieces.{all_fills, part_behind, fills_behind}
use Rattle.edits.specs.declared.edit.Work.{Work}
use Rattle.edits.specs.declared.update.UpdateRun.{UpdateRun}
use Rattle.edits.specs.declared.update.Updated.{Updated}
use Rattle.template.specs.declared.walk.Found.{Found}
use Rattle.template.specs.Common.{walk_left}
use Rattle.template.specs.Walk.Steps.{room, steps_left}
use Rattle.template.specs.declared.walk.WalkRun.{WalkRun}
use Rattle.template.specs.declared.walk.WalkAt.{WalkAt}
use Rattle.template.specs.declared.walk.WalkAt.TheVariants.{Start, Root, Head, Key, Child, More, Pair, Value, High}
use Rattle.edits.specs.Edits.{EditBounds, EditMeaning, all_looks}
use Rattle.edits.specs.Steps.{HasAsked, is_for_guard, looks_from, looks_on, pieces_now}

-- what is below a number is below a greater one
pub below : (turn : Turn Updated) (x a b : ℕ) → MatchTurn turn (λ _. x < a) (λ _. Unit {0}) → a ≤ b → MatchTurn turn (λ _. x < b) (λ _. Unit {0})
below (Ask s) x a b i j = omega (arith, i, j)
below (Done u) x a b i j = tt

pub less_than : (x a b : ℕ) → x < a → a ≤ b → x < b
less_than x a b i j = omega (arith, i, j)

pub no_more : (n : ℕ) → n ≤ n
no_more n = omega arith

-- a try less
pub try_less : (tries each : ℕ) → tries ≢ 0 → (tries - 1) * each + each ≤ tries * each
try_less zero each d = absurd (d refl)
try_less (suc tries) each d = let e : suc tries - 1 ≡ tries = omega arith in rw (e, suc-mul tries each) (no_more (tries * each + each))

-- a try that is given up was one of those left
pub one_back : (tries : ℕ) → tries ≢ 0 → tries - 1 + 1 ≡ tries
one_back zero d = absurd (d refl)
one_back (suc tries) d = omega arith

-- the bounds of the places, where t is what the later tries may take
pub from_share : (t looks seen works : ℕ) → t + (64 * (looks - seen) + works + 39) ≤ t + (64 * looks + works + 39)
from_share t looks seen works = omega arith

pub to_look : (t looks seen works : ℕ) → seen < looks → t + (53 + 64 * (looks - 1 - seen) + works + 39) < t + (64 * (looks - seen) + works + 39)
to_look t looks seen works i = omega (arith, i)

pub to_works : (t looks works : ℕ) → t + (works + 39) ≤ t + (looks + works + 39)
to_works t looks works = omega arith

pub to_tries : (t rest : ℕ) → t ≤ t + rest
to_tries t rest = omega arith

pub looked_on : (t left now seen works : ℕ) → now < left → t + (now + seen + works + 39) < t + (left + seen + works + 39)
looked_on t left now seen works i = omega (arith, i)

pub from_look : (t left rest works : ℕ) → t + (rest + works + 39) ≤ t + (left + rest + works + 39)
from_look t left rest works = omega arith

-- a snapshot more, or no room for one
pub one_more : (t looks seen now works : ℕ) → looks ≤ 4 → (now ≡ suc seen) ⊎ (4 ≤ now) → t + (64 * (looks - now) + works + 39) ≤ t + (64 * (looks - 1 - seen) + works + 39)
one_more t looks seen now works few (inl e) = omega (arith, few, e)
one_more t looks seen now works few (inr i) = omega (arith, few, i)

-- at its guard, and behind it
pub guard_nearer : (t left now steps rest : ℕ) → now < left → t + (now + steps + rest) < t + (left + steps + rest)
guard_nearer t left now steps rest i = omega (arith, i)

pub behind_root : (b : Bool) (at : WalkAt) → at ≡ Root → (t left steps looks works : ℕ) → t + (steps + (64 * looks_on b at looks + works + 39)) ≤ t + (left + steps + (64 * looks + works + 39))
behind_root true at is t left steps looks works = rw is (omega arith)
behind_root false at is t left steps looks works = omega arith

pub to_guard_from : (b : Bool) (at : WalkAt) → at ≡ Root → b ≡ true → (t steps looks works : ℕ) → t + (53 + steps + (64 * looks + works + 39)) < t + (steps + (64 * looks_from b at looks + works + 39))
to_guard_from true at is guard t steps looks works = rw is (omega arith)
to_guard_from false at is guard t steps looks works = absurd (let z : false ≡ true = guard in cc)

-- it continues with its guard behind the root's head alone
pub begins_here : (b : Bool) (at : WalkAt) → (is_for_guard b at ≡ true → (at ≡ Root) × (b ≡ true)) × (is_for_guard b at ≡ false → at ≡ Root → b ≡ false)
begins_here b at = (λ e. yes at e, λ e is. sym (ap (is_for_guard b) is) ∙ e)
  where
    yes : (at : WalkAt) → is_for_guard b at ≡ true → (at ≡ Root) × (b ≡ true)
    yes Start e = absurd (let z : false ≡ true = e in cc)
    yes Root e = (refl, e)
    yes (Head above) e = absurd (let z : false ≡ true = e in cc)
    yes (Key head) e = absurd (let z : false ≡ true = e in cc)
    yes (Child level side) e = absurd (let z : false ≡ true = e in cc)
    yes (More head) e = absurd (let z : false ≡ true = e in cc)
    yes (Pair head more slot) e = absurd (let z : false ≡ true = e in cc)
    yes (Value head more slot key) e = absurd (let z : false ≡ true = e in cc)
    yes (High head more slot key low) e = absurd (let z : false ≡ true = e in cc)

-- without its guard it looks at no more
pub few_alone : {E : Type 0} (e : EditMeaning E) → EditBounds e → (ed : E) → e.most_looks ed ≤ 4
few_alone e bounds ed = go (e.guard ed) (bounds.small ed)
  where
    go : (b : Bool) → all_looks b (e.most_looks ed) ≤ 4 → e.most_looks ed ≤ 4
    go true few = omega (arith, few)
    go false few = few

-- no fewer than are looked at behind the walk, and no more than are left at that place
pub looks_ahead : (b : Bool) (at : WalkAt) (n : ℕ) → (n ≤ looks_on b at n) × (looks_on b at n ≤ looks_from b at n)
looks_ahead false at n = (omega arith, omega arith)
looks_ahead true Start n = (omega arith, omega arith)
looks_ahead true Root n = (omega arith, omega arith)
looks_ahead true (Head above) n = (omega arith, omega arith)
looks_ahead true (Key head) n = (omega arith, omega arith)
looks_ahead true (Child level side) n = (omega arith, omega arith)
looks_ahead true (More head) n = (omega arith, omega arith)
looks_ahead true (Pair head more slot) n = (omega arith, omega arith)
looks_ahead true (Value head more slot key) n = (omega arith, omega arith)
looks_ahead true (High head more slot key low) n = (omega arith, omega arith)

-- past the root's head fewer steps are left than there
from_there : (at : WalkAt) (nodes n : ℕ) → walk_left at nodes < 3 * (2 + nodes) + 4 → looks_from true at n ≤ n
from_there Start nodes n few = absurd (omega (arith, few))
from_there Root nodes n few = absurd (omega (arith, few))
from_there (Head above) nodes n few = omega arith
from_there (Key head) nodes n few = omega arith
from_there (Child level side) nodes n few = omega arith
from_there (More head) nodes n few = omega arith
from_there (Pair head more slot) nodes n few = omega arith
from_there (Value head more slot key) nodes n few = omega arith
from_there (High head more slot key low) nodes n few = omega arith

any_more : (at : WalkAt) (n : ℕ) → looks_from true at n ≤ suc n
any_more Start n = omega arith
any_more Root n = omega arith
any_more (Head above) n = omega arith
any_more (Key head) n = omega arith
any_more (Child level side) n = omega arith
any_more (More head) n = omega arith
any_more (Pair head more slot) n = omega arith
any_more (Value head more slot key) n = omega arith
any_more (High head more slot key low) n = omega arith

fewer_looks : (b : Bool) (at now : WalkAt) (nodes n : ℕ) → walk_left now nodes < walk_left at nodes → looks_from b now n ≤ looks_on b at n
fewer_looks false at now nodes n less = omega arith
fewer_looks true Start now nodes n less = any_more now n
fewer_looks true Root now nodes n less = from_there now nodes n less
fewer_looks true (Head above) now nodes n less = from_there now nodes n (omega (arith, less))
fewer_looks true (Key head) now nodes n less = from_there now nodes n (omega (arith, less))
fewer_looks true (Child level side) now nodes n less = from_there now nodes n (omega (arith, less))
fewer_looks true (More head) now nodes n less = from_there now nodes n (omega (arith, less))
fewer_looks true (Pair head more slot) now nodes n less = from_there now nodes n (omega (arith, less))
fewer_looks true (Value head more slot key) now nodes n less = from_there now nodes n (omega (arith, less))
fewer_looks true (High head more slot key low) now nodes n less = from_there now nodes n (omega (arith, less))

-- a walk that goes on has less to do
pub walked_on : (b : Bool) (walk now : WalkRun) (t nodes looks works : ℕ) → now.way ≡ walk.way → steps_left now nodes < steps_left walk nodes → t + (steps_left now nodes + (64 * looks_from b now.at looks + works + 39)) < t + (steps_left walk nodes + (64 * looks_on b walk.at looks + works + 39))
walked_on b walk now t nodes looks works same less =
    let few = fewer_looks b walk.at now.at (room walk.way nodes) looks (subst (λ way. walk_left now.at (room way nodes) < walk_left walk.at (room walk.way nodes)) same less) in
    omega (arith, few, less)

-- and one that ends leaves what comes behind it
pub walked : (b : Bool) (at : WalkAt) (t left looks works : ℕ) → t + (64 * looks + works + 39) ≤ t + (left + (64 * looks_on b at looks + works + 39))
walked b at t left looks works = let few = (looks_ahead b at looks).0 in omega (arith, few)

-- it began with no less
pub walk_from : (b : Bool) (at : WalkAt) (t left looks works : ℕ) → t + (left + (64 * looks_on b at looks + works + 39)) ≤ t + (left + (64 * looks_from b at looks + works + 39))
walk_from b at t left looks works = let few = (looks_ahead b at looks).1 in omega (arith, few)

-- what is read first, or the first fill
pub from_reads : (t reads most_reads fills : ℕ) → reads ≤ most_reads → t + (reads + fills + 39) ≤ t + (most_reads + fills + 39)
from_reads t reads most_reads fills i = omega (arith, i)

pub to_read : (t reads fills : ℕ) → 0 < reads → t + (reads - 1 + fills + 39) < t + (reads + fills + 39)
to_read t reads fills i = omega (arith, i)

pub to_next_read : (t now reads fills : ℕ) → 0 < now → now < reads → t + (now - 1 + fills + 39) < t + (reads - 1 + fills + 39)
to_next_read t now reads fills some i = omega (arith, some, i)

pub to_first_fill : (t fills after most reads : ℕ) → suc fills + after ≤ most → t + (fills + after + 39) < t + (reads + most + 39)
to_first_fill t fills after most reads i = omega (arith, i)

pub from_read : (t now reads fills : ℕ) → now < reads → t + (now + fills + 39) ≤ t + (reads - 1 + fills + 39)
from_read t now reads fills i = omega (arith, i)

pub to_next_fill : (t now fills rest : ℕ) → now < fills → t + (now + rest + 39) < t + (fills + rest + 39)
to_next_fill t now fills rest i = omega (arith, i)

pub to_next_node : (t fills after : ℕ) → t + (fills + after + 39) < t + (suc fills + after + 39)
to_next_node t fills after = omega arith

pub to_scx : (t rest : ℕ) → t + 39 ≤ t + (rest + 39)
to_scx t rest = omega arith

pub past_fills : (t fills rest : ℕ) → t + (rest + 39) ≤ t + (fills + rest + 39)
past_fills t fills rest = omega arith

pub scx_left_now : (t : ℕ) → t + 33 < t + 39
scx_left_now t = omega arith

pub less_scx : (t left now : ℕ) → now < left → t + now < t + left
less_scx t left now i = omega (arith, i)

-- a try that takes its SCX-record has one for the nodes that it has taken
pub scx_for_nodes : (most nodes scx tries : ℕ) → 0 < scx → nodes + most * (scx - 1 + (tries + 1) + tries) ≤ nodes + most * (scx + tries + tries)
scx_for_nodes most nodes scx tries some = let same : scx - 1 + (tries + 1) + tries ≡ scx + tries + tries = omega (arith, some) in rw same (omega arith)

-- one that reads on takes nothing
pub as_many : (most nodes scx tries : ℕ) → nodes + most * (scx + (tries + 1) + tries) ≤ nodes + most * (scx + tries + (tries + 1))
as_many most nodes scx tries = let same : scx + (tries + 1) + tries ≡ scx + tries + (tries + 1) = omega arith in rw same (no_more (nodes + most * (scx + tries + (tries + 1))))

-- what is below something is not 0
pub some_left : (now left : ℕ) → now < left → 0 < left
some_left now left i = omega (arith, i)

-- fewer words are filled after the next
pub fewer_fills : (p : Piece) (part next : NodeWord) → part_behind p part ≡ Some next → fills_behind p next < fills_behind p part
fewer_fills p part next e = (next_word p part next e).fewer

-- a snapshot more, or no room for one
pub one_or_full : {T E V : Type 0} (r : Result T E) (size : V → ℕ) (old now : V) → OnOk r (size now ≡ size old + 1) → OnErr r (now ≡ old) → OnErr r (size old ≡ 4) → (size now ≡ suc (size old)) ⊎ (4 ≤ size now)
one_or_full (Ok v) size old now more same full = inl (omega (arith, more))
one_or_full (Err e) size old now more same full = inr (let x : size now ≡ size old = ap size same in omega (arith, x, full))

-- the fills of its fresh nodes are few enough
pub few_then : {E : Type 0} (e : EditMeaning E) {A : Type 0} → EditBounds e → (m : UpdateRun E A) (f : Found) → HasAsked e m f → all_fills m.work.need (pieces_now e m f) ≤ e.most_fills m.edit
few_then e bounds m f asked = subst (λ (w : Work). all_fills w.need (pieces_now e m f) ≤ e.most_fills m.edit) (sym asked) (bounds.few_fills m.edit f m.snaps.items m.nodes m.read)
