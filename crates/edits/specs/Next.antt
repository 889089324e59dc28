-- What a try of an update does next, before the update is at the place for it.
use Rattle.std.specs.Prelude.{◌≡◌, ℕ, suc, ◌*◌, ◌<◌, ◌≤◌, Result, Ok, Err}
use Rattle.histories.specs.Common.{Ask, Load as LoadAccess, Store, LoadMarked, LoadState, LoadSettled, Fill as FillKind, Step, NodeWord, Settled, Marked as MarkedWord}
use Rattle.histories.specs.Common.{SettledPart, Head, Key, Value, Slot, Plan as PlanWord, State as StateWord, Node as NodeOf, Scx as ScxOf, History, Call, Remaining}
use Rattle.prims.specs.Shares.{share_end}
use Rattle.prims.specs.declared.llx.LlxAt.TheVariants.{Marked, StateAgain}
use Rattle.prims.specs.declared.llx.LlxRun.{LlxRun}
use Rattle.prims.specs.declared.scx.ScxAt.TheVariants.{Plan as AtPlan}
use Rattle.prims.specs.declared.update.Update.{Update}
use Rattle.template.specs.declared.walk.Found.{Found}
use Rattle.edits.specs.Edits.{EditMeaning}
use Rattle.edits.specs.Known.{MayBeginTry, HasLostTry, UpdateAnswers, UpdateWaits, done_at}
use Rattle.edits.specs.Pieces.{nth_node, update_for, word_of}
use Rattle.edits.specs.Readings.{read_with}
use Rattle.edits.specs.Steps.{IsSpending, Spends, try_left, update_left}
use Rattle.edits.specs.declared.edit.Nth.{Nth}
use Rattle.edits.specs.declared.update.Next.{Next}
use Rattle.edits.specs.declared.update.Next.TheVariants.{Look as LookNext, Wait, Read as ReadNext, Fill as FillNext, Change}
use Rattle.edits.specs.declared.update.UpdateAt.{UpdateAt}
use Rattle.edits.specs.declared.update.UpdateAt.TheVariants.{Look, Read, Fill, Scx}
use Rattle.edits.specs.declared.update.UpdateRun.{UpdateRun}
use Rattle.edits.specs.declared.update.Stop.{Stop}
use Rattle.edits.specs.declared.update.Stop.TheVariants.{Nothing, Lost, Full as FullStop}
use Rattle.edits.specs.declared.update.Updated.TheVariants.{Full as FullAnswer}

-- the update at this place, or at none
abbrev pub standing : {E A B : Type 0} → UpdateRun E A → B → UpdateRun E B
standing m at = record { edit = m.edit; share = m.share; work = m.work; guard = m.guard; snaps = m.snaps; nodes = m.nodes; read = m.read; tries = m.tries; limit = m.limit; call = m.call; at = at }

-- it makes the same edit, in the same call, which may try as often, and what is left of its share
-- ends where it did
abbrev pub IsSameUpdate : {E A B : Type 0} → UpdateRun E A → UpdateRun E B → Type 0
IsSameUpdate old now = (now.edit ≡ old.edit) × (now.call ≡ old.call) × (now.limit ≡ old.limit) × (share_end now.share ≡ share_end old.share)

-- the update once this word of the node that it reads was found to hold v
abbrev pub told : {E A : Type 0} → UpdateRun E A → SettledPart → ℕ → UpdateRun E A
told m part v = record m { read = read_with m.read part v }

-- and once key and value of the pair in this slot were found to be these
abbrev pub half_told : {E A : Type 0} → UpdateRun E A → Slot → ℕ → ℕ → UpdateRun E A
half_told m slot key low = told (told m (Key slot) key) (Value slot) low

-- what its SCX is to do
abbrev pub update_of : {E A : Type 0} → UpdateRun E A → Update
update_of m = update_for m.work m.snaps.items m.nodes

-- the LLX of its guard, node 2, which has asked for its first step
abbrev pub guard_begun : LlxRun
guard_begun = record { node = record { 0 = 2 }; at = Marked }

abbrev pub guard_step : Step
guard_step = record { kind = LoadMarked; word = NodeOf (record { 0 = 2 }) MarkedWord; access = LoadAccess }

module _ {E : Type 0} (e : EditMeaning E) where
  -- the fill of a word of the fresh node of this place
  abbrev pub fills : {A : Type 0} → UpdateRun E A → Found → Nth → NodeWord → Step
  fills m f nth part = record { kind = FillKind; word = NodeOf (nth_node m.nodes nth) part; access = Store (word_of (e.pieces m.edit f m.snaps.items m.nodes m.read nth) part) }

  -- the update at its place once this has begun
  abbrev pub placed : {A : Type 0} → UpdateRun E A → Found → Next → UpdateRun E UpdateAt
  placed m f (LookNext n) = standing m (Look f record { node = n; at = Marked })
  placed m f (Wait n b scx) = standing m (Look f record { node = n; at = StateAgain b scx })
  placed m f (ReadNext n part) = standing m (Read f n part)
  placed m f (FillNext nth) = standing m (Fill f nth (Settled Head))
  placed m f (Change scx) = standing m (Scx f record { scx = scx; call = m.call; update = update_of m; at = AtPlan })

  -- the step with which it begins
  abbrev pub next_step : {A : Type 0} → UpdateRun E A → Found → Next → Step
  next_step m f (LookNext n) = record { kind = LoadMarked; word = NodeOf n MarkedWord; access = LoadAccess }
  next_step m f (Wait n b scx) = record { kind = LoadState; word = ScxOf scx StateWord; access = LoadAccess }
  next_step m f (ReadNext n part) = record { kind = LoadSettled; word = NodeOf n (Settled part); access = LoadAccess }
  next_step m f (FillNext nth) = fills m f nth (Settled Head)
  next_step m f (Change scx) = record { kind = FillKind; word = ScxOf scx PlanWord; access = Store m.work.plan.0 }

  -- a try may end so: with what its update answers, or lost to another pass
  abbrev pub MayStop : {A : Type 0} → Call → History → UpdateRun E A → Found → Stop → Type 0
  MayStop c h m f Nothing = UpdateAnswers e m c h (done_at f)
  MayStop c h m f (Lost node scx) = MayBeginTry e m c h × HasLostTry e m.edit c h m.limit m.tries node.0 scx.0
  MayStop c h m f (FullStop full) = UpdateAnswers e m c h (FullAnswer full)

  -- once it has begun what it does next, it waits for that step; or it may end so
  abbrev pub UpdateGoesOn : {A : Type 0} → Call → History → UpdateRun E A → Found → Result Next Stop → Type 0
  UpdateGoesOn c h m f (Ok next) = UpdateWaits e (placed m f next) c h (next_step m f next)
  UpdateGoesOn c h m f (Err stop) = MayStop c h m f stop

  -- fewer than n steps are left then; if it ends, at most that many in the tries after it
  abbrev pub ComesNearer : {A : Type 0} → UpdateRun E A → Found → Result Next Stop → ℕ → ℕ → Type 0
  ComesNearer m f (Ok next) nodes n = update_left e (placed m f next) nodes < n
  ComesNearer m f (Err stop) nodes n = m.tries * try_left e m.edit nodes ≤ n

  -- this much is taken of the share, where this many tries might take of it
  abbrev pub HasSpentForNext : {A : Type 0} → Remaining → UpdateRun E A → Found → Result Next Stop → ℕ → ℕ → Type 0
  HasSpentForNext old m f (Ok next) nodes scx = IsSpending e (Ask (next_step m f next)) old (placed m f next) nodes scx
  HasSpentForNext old m f (Err stop) nodes scx = Spends (e.most_nodes m.edit) old m.share nodes m.tries scx m.tries

  -- how many steps are left then
  abbrev pub left_then : {A : Type 0} → UpdateRun E A → Found → Result Next Stop → ℕ → ℕ
  left_then m f (Ok next) nodes = suc (update_left e (placed m f next) nodes)
  left_then m f (Err stop) nodes = m.tries * try_left e m.edit nodes
