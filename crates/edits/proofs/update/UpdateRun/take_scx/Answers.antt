use Rattle.std.proofs.Common.{◌≡◌, ◌<◌, ◌≤◌, ◌+◌, ◌-◌, ◌*◌, List, length, Ok, refl, sym, ap, subst, arith}
use Rattle.histories.specs.Common.{Ask, begun_at}
use Rattle.prims.proofs.Lemmas.{turn_start}
use Rattle.template.specs.Common.{ScxRun, ScxAt, Snap, TreeAllows}
use Rattle.prims.specs.declared.scx.ScxAt.TheVariants.{Start, Plan}
use Rattle.edits.specs.Edits.{all_looks}
use Rattle.edits.specs.Next.{IsSameUpdate, next_step, ComesNearer, HasSpentForNext, UpdateGoesOn}
use Rattle.edits.specs.Steps.{try_left}
use Rattle.edits.specs.Pieces.{update_for}
use Rattle.edits.specs.declared.update.UpdateRun.{UpdateRun}
use Rattle.edits.specs.declared.update.Next.TheVariants.{Change}
use Rattle.edits.proofs.Beginning.{scx_begins}
use Rattle.edits.proofs.Looking.{few_with_guard}
use Rattle.edits.proofs.Nearer.{scx_left_now, scx_for_nodes}
use Rattle.edits.proofs.Taking.{record_taken}
use Rattle.edits.proofs.update.UpdateRun.take_scx.Goals as goal

pub returns-in-Some-clause-nearer : goal.returns-in-Some-clause-nearer
returns-in-Some-clause-nearer g c nodes = subst (λ (n : UpdateRun _ _). ComesNearer g.E.Edit.means n c.args.found.now (Ok (Change c.in-Some.scx)) nodes (c.args.self.now.tries * try_left g.E.Edit.means c.args.self.now.edit nodes + 39)) (sym c.cover.ensures.same) (scx_left_now _)

pub returns-in-Some-clause-turn : goal.returns-in-Some-clause-turn
returns-in-Some-clause-turn g c d b h run try x = subst (λ (n : UpdateRun _ _). UpdateGoesOn g.E.Edit.means d h n c.args.found.now (Ok (Change c.in-Some.scx))) (sym c.cover.ensures.same) (
  b,
  try,
  tt,
  scx_begins g.E.Edit.means c.args.self.now c.cover.new.self (scx Start) (scx Plan) c.args.found.now (begun_at d b) h g.met.E.Edit.laws.makes x
      (ap (λ (xs : List Snap). update_for c.args.self.now.work xs c.args.self.now.nodes) (c.cover.ensures.all few))
      refl taken.0 refl refl refl refl
      c.scx.new.self (Ask (next_step g.E.Edit.means c.args.self.now c.args.found.now (Change c.in-Some.scx))) _ taken.2 refl
      (λ ready. turn_start TreeAllows (begun_at (begun_at d b) h) h (scx Start) (scx Plan) (Ask _) ready.1 ready.2 record { stands = refl; asked = refl }),
)
  where
    scx : ScxAt → ScxRun
    scx at = record { scx = c.in-Some.scx; call = c.args.self.now.call; update = update_for c.args.self.now.work c.cover.new.self.snaps.items c.args.self.now.nodes; at = at }

    -- there is room for the snapshot of its guard
    few : all_looks (g.E.Edit.means.guard c.args.self.now.edit) (length c.args.self.now.snaps.items) ≤ 4
    few = few_with_guard g.E.Edit.means g.met.E.Edit.laws.bounds c.args.self.now.edit c.args.found.now c.args.self.now.snaps.items x.all.looked.seen

    taken : (c.in-Some.scx.0 ≡ c.args.self.now.share.next_scx) × (0 < c.args.self.now.share.scx) × (c.scx.new.self ≡ record c.args.self.now.share { next_scx = c.args.self.now.share.next_scx + 1; scx = c.args.self.now.share.scx - 1 })
    taken = rw c.in-Some.is at c.scx.ensures.after_taking

pub returns-in-Some-clause-same : goal.returns-in-Some-clause-same
returns-in-Some-clause-same g c =
    let taken = rw c.in-Some.is at c.scx.ensures.after_taking in
    subst (λ (n : UpdateRun _ _). IsSameUpdate c.args.self.now n) (sym c.cover.ensures.same) (refl, refl, refl, record_taken c.args.self.now.share c.scx.new.self taken.1 taken.2)

pub returns-in-None-clause-turn : goal.returns-in-None-clause-turn
returns-in-None-clause-turn g c d b h run try x = absurd (let z = (rw c.in-None.is at c.scx.ensures.empty).0 in let s = x.some in omega (arith, z, s))

pub returns-in-Some-clause-spends : goal.returns-in-Some-clause-spends
returns-in-Some-clause-spends g c left =
    let taken = rw c.in-Some.is at c.scx.ensures.after_taking in
    subst (λ (n : UpdateRun _ _). HasSpentForNext g.E.Edit.means c.args.self.now.share n c.args.found.now (Ok (Change c.in-Some.scx)) c.args.self.now.tries (c.args.self.now.tries + 1)) (sym c.cover.ensures.same) (rw taken.2 (omega arith, omega (arith, left), scx_for_nodes (g.E.Edit.means.most_nodes c.args.self.now.edit) c.args.self.now.share.nodes c.args.self.now.share.scx c.args.self.now.tries left))

pub returns-in-None-clause-spends : goal.returns-in-None-clause-spends
returns-in-None-clause-spends g c left = absurd (let z = (rw c.in-None.is at c.scx.ensures.empty).0 in omega (arith, z, left))
