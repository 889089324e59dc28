-- Faults of the texts are the program's faults.
use Rattle.std.proofs.Common.{◌≡◌, ◌≢◌, ◌+◌, ◌-◌, ◌^◌, ◌↔◌, ◌⊎◌, ◌∙◌, inr, ⊎_elim, arith, min, refl, subst, List, ℕ, Result, Ok, Err, IfErr, IsErrAnd, OnOk}
use Rattle.histories.specs.Common.{Layout, Mode}
use Rattle.arena.specs.declared.limits.Limits.{Limits}
use Rattle.script.specs.Grammars.{IsScheduleFault, IsScriptFault, SayScript}
use Rattle.texts.specs.Texts.{IfBad}
use Rattle.script.specs.declared.call.Call.{Call}
use Rattle.script.specs.declared.fault.ScheduleCause.{ScheduleCause}
use Rattle.script.specs.declared.fault.ScriptCause.{ScriptCause}
use Rattle.texts.specs.declared.fault.TextFault.{TextFault}
use Rattle.texts.specs.declared.fault.TextFault.TheVariants.{NoMemory, Read, Bad}
use Rattle.program.specs.Printed.{IsDeserved}
use Rattle.program.specs.Threaded.{IsDeservedWithThreads}
use Rattle.report.specs.declared.stream.StreamFault.{StreamFault}
use Rattle.report.specs.declared.stream.StreamFault.TheVariants as stream
use Rattle.program.specs.Status.{CanRise, fault_of_schedule, fault_of_script, fault_of_stream, status_of}
use Rattle.program.specs.declared.fault.Fault.{Fault}

pub schedule_deserves : (mode : Mode) (said ordered : List ℕ) (limits : Limits) (layout : Layout) (calls : List Call) (fault : TextFault ScheduleCause) → SayScript mode said limits layout calls → IfBad (IsScheduleFault layout.passes ordered) fault → IsDeserved mode said ordered (fault_of_schedule fault)
schedule_deserves mode said ordered limits layout calls NoMemory says bad = tt
schedule_deserves mode said ordered limits layout calls Read says bad = tt
schedule_deserves mode said ordered limits layout calls (Bad row cause) says bad = (limits, layout, calls, says, bad)

-- so does a fault of the text of a script, which was read as one of this mode
pub script_deserves : (read mode : Mode) (gate said : List ℕ) (fault : TextFault ScriptCause) → read ≡ mode → IfBad (IsScriptFault read said) fault → IsDeservedWithThreads mode gate said (fault_of_script fault)
script_deserves read mode gate said NoMemory is bad = tt
script_deserves read mode gate said Read is bad = tt
script_deserves read mode gate said (Bad row cause) is bad = subst (λ m. IsScriptFault m said row cause) is bad

-- what is so of a fault is so if that fault is returned
pub told : {T : Type 0} (r : Result T Fault) (fault : Fault) (P : Fault → Type 0) → IsErrAnd r (λ e. e ≡ fault) → P fault → IfErr r P
told (Ok t) fault P is holds = absurd is
told (Err e) fault P is holds = rw is holds

-- what follows where all went well
pub so_then : {T E P Q : Type 0} (r : Result T E) → (P → Q) → OnOk r P → OnOk r Q
so_then (Ok t) f p = f p
so_then (Err e) f p = tt

-- no memory leaves the failure counts, and a failed write raises that of the output
pub stream_failed : {T : Type 0} (r : Result T Fault) (fault : StreamFault) (s t t' o m n s' : ℕ) → IsErrAnd r (λ e. e ≡ fault_of_stream fault) → fault ≢ stream.Ended → s' ≡ s → t' ≡ t → m ≡ o → (fault ≡ stream.NoMemory → n ≡ m) → (fault ≡ stream.Write → n ≡ min (m + 1) (2 ^ 64 - 1)) → CanRise o → IfErr r (λ f. status_of f ≡ 4 ↔ ((s' ≢ s) ⊎ (t' ≢ t) ⊎ (n ≢ o)))
stream_failed (Ok x) fault s t t' o m n s' is not_ended scripts schedules so_far none more rise = absurd is
stream_failed (Err e) stream.NoMemory s t t' o m n s' is not_ended scripts schedules so_far none more rise =
    rw is
    (λ four. absurd (omega (arith, four)), ⊎_elim (λ d. absurd (d scripts)) (⊎_elim (λ d. absurd (d schedules)) (λ d. absurd (d (none refl ∙ so_far)))))
stream_failed (Err e) stream.Write s t t' o m n s' is not_ended scripts schedules so_far none more rise =
    rw is
    (λ four. inr (inr (λ same. let raised = more refl in omega (arith, same, raised, so_far, rise))), λ some. refl)
stream_failed (Err e) stream.Ended s t t' o m n s' is not_ended scripts schedules so_far none more rise = absurd (not_ended refl)
