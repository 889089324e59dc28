-- Once an update has begun what it does next, it is at the place for that (`placed`).
use Rattle.std.proofs.Common.{◌≡◌, ℕ, ◌+◌, ◌*◌, ◌<◌, ◌≤◌, refl, arith, Result, Ok, Err}
use Rattle.histories.specs.Common.{Turn, Ask, Done, NodeWord, History, Call, begun_at, Remaining}
use Rattle.template.specs.declared.walk.Found.{Found}
use Rattle.edits.specs.Edits.{EditMeaning}
use Rattle.edits.specs.Known.{CanFill, UpdateTurn}
use Rattle.edits.specs.Next.{IsSameUpdate, placed, standing, next_step, fills, UpdateGoesOn, ComesNearer, HasSpentForNext, left_then}
use Rattle.edits.specs.Steps.{IsNearer, IsSpending, Spends, fills_left, node_tries, scx_tries, try_left}
use Rattle.edits.specs.Tries.{IsTry}
use Rattle.edits.specs.declared.edit.Nth.{Nth}
use Rattle.edits.specs.declared.update.Next.{Next}
use Rattle.edits.specs.declared.update.Next.TheVariants.{Look, Wait, Read, Fill as FillNext, Change}
use Rattle.edits.specs.declared.update.Stop.{Stop}
use Rattle.edits.specs.declared.update.UpdateAt.{UpdateAt}
use Rattle.edits.specs.declared.update.UpdateAt.TheVariants.{Fill}
use Rattle.edits.specs.declared.update.UpdateRun.{UpdateRun}
use Rattle.edits.specs.declared.update.Updated.{Updated}
use Rattle.edits.proofs.Turns.{fills_word}

module _ {E : Type 0} (e : EditMeaning E) {A : Type 0} (m : UpdateRun E A) (now : UpdateRun E UpdateAt) (f : Found) where
  module _ (next : Next) (turn : Turn Updated) (place : now ≡ placed e m f next) (is : turn ≡ Ask (next_step e m f next)) where
    pub goes_on : (c : Call) (h : History) → UpdateGoesOn e c h m f (Ok next) → UpdateTurn e c h now turn
    goes_on c h x = rw (place, is) x

    pub comes_nearer : (nodes n : ℕ) → ComesNearer e m f (Ok next) nodes n → IsNearer e now nodes turn n
    comes_nearer nodes n x = rw (place, is) x

    pub has_spent : (old : Remaining) (nodes scx : ℕ) → HasSpentForNext e old m f (Ok next) nodes scx → IsSpending e turn old now nodes scx
    has_spent old nodes scx x = rw (place, is) x

  -- so it does where it fills a word
  module _ (nth : Nth) (part : NodeWord) (turn : Turn Updated) (place : now ≡ standing m (Fill f nth part)) (is : turn ≡ Ask (fills e m f nth part)) where
    pub fill_goes_on : (c : Call) (b h : History) → IsTry c b h m.limit m.tries → CanFill e m (begun_at c b) h f nth part → UpdateTurn e c h now turn
    fill_goes_on c b h try x = rw (place, is) (b, try, tt, fills_word e m f nth part _ _ _ (begun_at c b) h x refl refl refl)

    pub fill_nearer : (nodes bound : ℕ) → m.tries * try_left e m.edit nodes + (fills_left e m f nth part + 39) < bound → IsNearer e now nodes turn bound
    fill_nearer nodes bound i = rw (place, is) i

    pub fill_spends : IsSpending e turn m.share now m.tries (m.tries + 1)
    fill_spends = rw (place, is) (omega arith, omega arith, omega arith)

-- at its place once that has begun, it makes the same update
pub placed_same : {E : Type 0} (e : EditMeaning E) {A : Type 0} (m : UpdateRun E A) (f : Found) (next : Next) → IsSameUpdate m (placed e m f next)
placed_same e m f (Look n) = (refl, refl, refl, refl)
placed_same e m f (Wait n b scx) = (refl, refl, refl, refl)
placed_same e m f (Read n part) = (refl, refl, refl, refl)
placed_same e m f (FillNext nth) = (refl, refl, refl, refl)
placed_same e m f (Change scx) = (refl, refl, refl, refl)

-- so much is left, where less is
pub weighs_next : {E : Type 0} (e : EditMeaning E) {A : Type 0} (m : UpdateRun E A) (f : Found) (next : Result Next Stop) (nodes n : ℕ) → ComesNearer e m f next nodes n → left_then e m f next nodes ≤ n
weighs_next e m f (Ok next) nodes n x = omega (arith, x)
weighs_next e m f (Err stop) nodes n x = x

-- what is below a number is below a greater one
pub still_nearer : {E : Type 0} (e : EditMeaning E) {A : Type 0} (m : UpdateRun E A) (f : Found) (next : Result Next Stop) (nodes a b : ℕ) → ComesNearer e m f next nodes a → a ≤ b → ComesNearer e m f next nodes b
still_nearer e m f (Ok next) nodes a b x i = omega (arith, x, i)
still_nearer e m f (Err stop) nodes a b x i = omega (arith, x, i)

-- what is taken up to the end of a try, and after it
pub joined_spends : (most : ℕ) (old mid now : Remaining) (nodes nodes_then scx scx_then tries : ℕ) → Spends most old mid nodes tries scx tries → Spends most mid now tries nodes_then tries scx_then → Spends most old now nodes nodes_then scx scx_then
joined_spends most old mid now nodes nodes_then scx scx_then tries x y = (let a = x.0 in let b = y.0 in omega (arith, a, b), let a = x.1 in let b = y.1 in omega (arith, a, b), let a = x.2 in let b = y.2 in omega (arith, a, b))

-- what is taken before counts for one try more
more_before : (most : ℕ) (old mid now : Remaining) (nodes nodes_then scx scx_then : ℕ) → old.nodes ≤ mid.nodes + most → mid.scx ≡ old.scx → Spends most mid now nodes nodes_then scx scx_then → Spends most old now (nodes + 1) nodes_then scx scx_then
more_before most old mid now nodes nodes_then scx scx_then i same x = (let a = x.0 in omega (arith, i, a), let a = x.1 in omega (arith, same, a), let y = rw same at x.2 in omega (arith, i, y))

pub taken_before : {E : Type 0} (e : EditMeaning E) (old mid : Remaining) {A : Type 0} (m : UpdateRun E A) (f : Found) (next : Next) (nodes scx : ℕ) → old.nodes ≤ mid.nodes + e.most_nodes m.edit → mid.scx ≡ old.scx → HasSpentForNext e mid m f (Ok next) nodes scx → HasSpentForNext e old m f (Ok next) (nodes + 1) scx
taken_before e old mid m f (Look n) nodes scx i same x = more_before (e.most_nodes m.edit) old mid m.share nodes _ scx _ i same x
taken_before e old mid m f (Wait n b s) nodes scx i same x = more_before (e.most_nodes m.edit) old mid m.share nodes _ scx _ i same x
taken_before e old mid m f (Read n part) nodes scx i same x = more_before (e.most_nodes m.edit) old mid m.share nodes _ scx _ i same x
taken_before e old mid m f (FillNext nth) nodes scx i same x = more_before (e.most_nodes m.edit) old mid m.share nodes _ scx _ i same x
taken_before e old mid m f (Change s) nodes scx i same x = more_before (e.most_nodes m.edit) old mid m.share nodes _ scx _ i same x

-- what is spent up to the end of a try, and after it
pub spends_on : {E : Type 0} (e : EditMeaning E) (turn : Turn Updated) (old mid : Remaining) (m : UpdateRun E UpdateAt) (nodes scx tries : ℕ) → Spends (e.most_nodes m.edit) old mid nodes tries scx tries → IsSpending e turn mid m tries tries → IsSpending e turn old m nodes scx
spends_on e (Ask s) old mid m nodes scx tries x y = joined_spends (e.most_nodes m.edit) old mid m.share nodes (node_tries m m.at) scx (scx_tries m m.at) tries x y
spends_on e (Done u) old mid m nodes scx tries x y = joined_spends (e.most_nodes m.edit) old mid m.share nodes m.tries scx m.tries tries x y
