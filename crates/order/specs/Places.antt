-- From place to place of an ordered read.
use Rattle.std.specs.Prelude.{ℕ, ◌+◌, ◌≤◌, length, Result, Ok}
use Rattle.histories.specs.Common.{Step, LoadInfo, LoadMarked, LoadSettled, info, marked, History, Call, begun_at}
use Rattle.template.specs.Common.{load, snap_at}
use Rattle.prims.specs.declared.llx.LlxAt.TheVariants.{Marked}
use Rattle.order.specs.Known.{ReadGoes}
use Rattle.order.specs.Loads.{load_word}
use Rattle.order.specs.Meaning.{ReadMeaning}
use Rattle.order.specs.Next.{GoesOnSo}
use Rattle.order.specs.Paths.{IsStep, next_left}
use Rattle.order.specs.Tries.{IsInTry}
use Rattle.order.specs.declared.read.ReadNext.{ReadNext}
use Rattle.order.specs.declared.read.ReadNext.TheVariants.{Load as LoadNext, Look as LookNext, Validate as ValidateNext}
use Rattle.order.specs.declared.refused.Refused.{Refused}
use Rattle.order.specs.declared.run.ReadAt.{ReadAt}
use Rattle.order.specs.declared.run.ReadAt.TheVariants.{Load, Look, Validate}
use Rattle.order.specs.declared.run.ReadRun.{ReadRun}

-- where the read is once this has begun
abbrev pub place_of : ReadNext → ReadAt
place_of (LoadNext of) = Load of
place_of (LookNext children level n) = Look children level record { node = n; at = Marked }
place_of ValidateNext = Validate 1

abbrev pub placed : {R : Type 0} → ReadRun R → ReadNext → ReadRun R
placed m next = record m { at = place_of next }

-- the step with which it begins
abbrev pub next_step : {R : Type 0} → ReadRun R → ReadNext → Step
next_step m (LoadNext of) = load LoadSettled (load_word of)
next_step m (LookNext children level n) = load LoadMarked (marked n.0)
next_step m ValidateNext = load LoadInfo (info (snap_at m.snaps.items 0).node.0)

module _ {R A : Type 0} (means : ReadMeaning R A) where
  -- the run continues so; or it ends, for want of memory
  abbrev pub GoesOn : Call → History → ReadRun R → Result ReadNext Refused → Type 0
  GoesOn c h m next = ReadGoes means m c h × GoesOnSo means m.read m.snaps.items c h next

  -- it is in some try of the call, from whose begin on it may do this
  abbrev pub MayGoOn : Call → History → ReadRun R → ReadNext → Type 0
  MayGoOn c h m next = (begin : History) × IsInTry c h begin m.limit m.tries × GoesOn (begun_at c begin) h m (Ok next)

  -- at most n steps are left before this has begun
  abbrev pub RunComesNearer : ReadRun R → ℕ → ReadNext → ℕ → Type 0
  RunComesNearer m nodes next n = IsStep means m.read nodes next × (length m.snaps.items + next_left means m.read nodes next ≤ n)
