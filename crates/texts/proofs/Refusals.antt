-- Refusals that are passed on.
use Rattle.std.proofs.Common.{◌≡◌, ℕ, IfErr, IfOk, OnOk, Result, Ok, Err}
use Rattle.texts.specs.declared.fault.TextFault.{TextFault}
use Rattle.texts.specs.declared.fault.TextFault.TheVariants.{NoMemory, Read, Bad}
use Rattle.texts.specs.Texts.{IfBad}

bad_too : {C : Type 0} {P Q : ℕ → C → Type 0} (fault : TextFault C) → ((row : ℕ) (cause : C) → P row cause → Q row cause) → IfBad P fault → IfBad Q fault
bad_too NoMemory f h = tt
bad_too Read f h = tt
bad_too (Bad row cause) f h = f row cause h

-- a fault that is passed on names its row for the reason that follows
pub passed_on : {T U C : Type 0} {P Q : ℕ → C → Type 0} (r : Result T (TextFault C)) (s : Result U (TextFault C)) (fault : TextFault C) → r ≡ Err fault → s ≡ Err fault → ((row : ℕ) (cause : C) → P row cause → Q row cause) → IfErr r (IfBad P) → IfErr s (IfBad Q)
passed_on r s fault r_is s_is f h = rw s_is (bad_too fault f (rw r_is at h))

-- a fault that is reported of a text holds for the same reason once the text's failures have been
-- counted
pub settled_bad : {T C : Type 0} (P : ℕ → C → Type 0) (read result : Result T (TextFault C)) → IfErr result (IfBad (λ row cause. read ≡ Err (Bad row cause))) → IfErr read (IfBad P) → IfErr result (IfBad P)
settled_bad P read (Ok t) same h = tt
settled_bad P read (Err fault) same h = bad_too fault (λ row cause is. rw is at h) same

-- what is said of a text holds once its failures have been counted
pub settled_ok : {T E : Type 0} (P : T → Type 0) (read result : Result T E) → OnOk result (result ≡ read) → IfOk read P → IfOk result P
settled_ok P read (Ok t) same h = rw (← same) at h
settled_ok P read (Err e) same h = tt
