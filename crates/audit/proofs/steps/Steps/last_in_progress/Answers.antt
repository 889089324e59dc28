use Rattle.std.proofs.Common.{◌≡◌, ℕ, List, length, slice_get, Some, refl, sym, subst}
use Rattle.std.proofs.lemmas.Option.{slice_get_read}
use Rattle.histories.specs.Common.{IsInProgress, History}
use Rattle.arena.proofs.Lemmas.{ends_self}
use Rattle.audit.proofs.steps.Steps.last_in_progress.Goals as goal

pub returns-then-is_in_progress : goal.returns-then-is_in_progress
returns-then-is_in_progress c lay h x some = (h, record { within = ends_self h; many = sym x.count }, subst (λ (k : History). IsInProgress k c.args.scx.0) x.is_seen (c.if-is_in_progress.ensures.0 refl))

pub returns-in-Some : goal.returns-in-Some
returns-in-Some c lay h x some =
    let e = c.in-Some.ensures.lookup in
    x.until c.args.scx.0 c.in-Some.until.now (subst (λ (xs : List ℕ). slice_get xs c.args.scx.0 ≡ Some c.in-Some.until.now) c.deref.ensures.value (slice_get_read c.deref.result.now (length c.deref.result.now) c.args.scx.0 c.in-Some.until.now refl e.3.0 e.1)) some
