-- Which kinds of step calls make.
use Rattle.std.specs.Prelude.{◌≡◌, ◌≢◌}
use Rattle.arena.specs.declared.step.Kind.TheVariants.{Fill, LoadInfo}
use Rattle.template.specs.Common.{call_rules, MapCall}
use Rattle.tables.specs.Passes.{HoldsOfOwn, PassView, run_of}

-- the pass has made no other steps in this call: each own row after the run that it knew before is
-- of a kind that the call may make
abbrev pub HasKeptToKinds : PassView → PassView → MapCall → Type 0
HasKeptToKinds old new call = HoldsOfOwn (λ r. (call_rules call).MayMake r.kind) new.number (run_of old) (run_of new)

-- it has loaded info words alone
abbrev pub HasLoadedInfosAlone : PassView → PassView → Type 0
HasLoadedInfosAlone old new = HoldsOfOwn (λ r. r.kind ≡ LoadInfo) new.number (run_of old) (run_of new)

-- it has filled no word
abbrev pub HasFilledNothing : PassView → PassView → Type 0
HasFilledNothing old new = HoldsOfOwn (λ r. r.kind ≢ Fill) new.number (run_of old) (run_of new)
