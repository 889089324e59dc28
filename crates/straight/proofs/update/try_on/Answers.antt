use Rattle.std.proofs.Common.{◌≡◌, ◌∙◌, ap, Result, Ok, Err}
use Rattle.straight.specs.StraightUpdate.{TryGoesOn}
use Rattle.edits.specs.declared.update.Next.{Next}
use Rattle.edits.specs.declared.update.Next.TheVariants.{Change}
use Rattle.edits.specs.declared.update.Stop.{Stop}
use Rattle.straight.proofs.StraightHands.{at_copy, tries_by_copy, tries_own}
use Rattle.straight.proofs.StraightTries.{tries_as, tries_end, tries_on, tries_stop}
use Rattle.straight.proofs.StraightUpdate.{ends_needless, ends_full}
use Rattle.straight.proofs.update.try_on.Given.{Over}
use Rattle.straight.proofs.update.try_on.Goals.{After-work_on}
use Rattle.straight.proofs.update.try_on.Goals as goal

pub work_on-requires-clause-table : goal.work_on-requires-clause-table
work_on-requires-clause-table g c = at_copy c.by_copy.result c.args.hand c.by_copy.ensures.words c.args.seat.now c.by_copy.ensures.plan c.requires.table

pub work_on-requires-clause-goes_on : goal.work_on-requires-clause-goes_on
work_on-requires-clause-goes_on g c = tries_by_copy c.by_copy.result c.args.hand c.by_copy.ensures.words c.by_copy.ensures.number g.S.Shape g.M.Machine g.M.CallMachine.left_dealt g.E.Edit.means c.args.found.now c.args.seat.now c.args.run.now c.args.next c.requires.goes_on

-- after its looks, loads and fills, by the copy of the plan, it continues so
worked : (g : Over) (c : After-work_on g) (next : Result Next Stop) → c.work_on.result ≡ next → TryGoesOn g.S.Shape g.M.Machine g.M.CallMachine.left_dealt g.E.Edit.means c.args.hand c.args.found.now c.args.seat.now c.args.run.now c.args.next c.work_on.new.seat c.work_on.new.run next
worked g c next is = tries_on (tries_own c.by_copy.result c.args.hand c.by_copy.ensures.words c.by_copy.ensures.number c.work_on.ensures) (tries_as is)

pub change-requires-clause-tries : goal.change-requires-clause-tries
change-requires-clause-tries g c = let r = c.requires.goes_on in (r.0, (worked g (goal.at.change-requires-clause-tries g c).After-work_on _ (c.in-Ok.is ∙ ap (λ n. Ok n) c.in-Change.is)).to r.0 r.1)

pub from_next-requires-clause-goes_on : goal.from_next-requires-clause-goes_on
from_next-requires-clause-goes_on g c = let r = c.requires.goes_on in (r.0, (worked g (goal.at.from_next-requires-clause-goes_on g c).After-work_on _ c.in-Ok.is).to r.0 r.1)

pub from_next-requires-in-Lost-clause-goes_on : goal.from_next-requires-in-Lost-clause-goes_on
from_next-requires-in-Lost-clause-goes_on g c = let r = c.requires.goes_on in (r.0, (worked g (goal.at.from_next-requires-in-Lost-clause-goes_on g c).After-work_on _ c.in-Err.is).to r.0 r.1)

pub returns-in-Change : goal.returns-in-Change
returns-in-Change g c = tries_end (worked g (goal.at.returns-in-Change g c).After-work_on (Ok (Change c.in-Change.scx)) (c.in-Ok.is ∙ ap (λ n. Ok n) c.in-Change.is)) c.change.ensures

pub returns-in_default : goal.returns-in_default
returns-in_default g c = tries_end (worked g (goal.at.returns-in_default g c).After-work_on (Ok c.in-Ok.now) c.in-Ok.is) c.from_next.ensures

pub returns-in-Lost : goal.returns-in-Lost
returns-in-Lost g c = tries_end (worked g (goal.at.returns-in-Lost g c).After-work_on (Err c.in-Err.stop) c.in-Err.is) c.from_next-in-Lost.ensures

pub returns-in-Nothing : goal.returns-in-Nothing
returns-in-Nothing g c = rw c.at.ensures (tries_stop (λ u x. ends_needless u _ c.work_on.new.run c.args.found.now x) (worked g (goal.at.returns-in-Nothing g c).After-work_on _ (c.in-Err.is ∙ ap (λ s. Err s) c.in-Nothing.is)))

pub returns-in-Full : goal.returns-in-Full
returns-in-Full g c = tries_stop (λ u x. ends_full u _ c.work_on.new.run c.args.found.now c.in-Full.full x) (worked g (goal.at.returns-in-Full g c).After-work_on _ (c.in-Err.is ∙ ap (λ s. Err s) c.in-Full.is))
