use Rattle.std.proofs.Common.{◌≡◌, sym, subst, rules}
use Rattle.edits.specs.declared.update.UpdateRun.{UpdateRun}
use Rattle.straight.specs.StraightUpdate.{UpdaterBegins, new_update}
use Rattle.straight.proofs.update.make.Given.{Over}
use Rattle.straight.proofs.update.make.Goals.{After-saturating_sub}
use Rattle.straight.proofs.update.make.Goals as goal

-- the update that it makes
abbrev update : (g : Over) (c : After-saturating_sub g) → UpdateRun g.row.E.Denot (Unit {0})
update g c = record { edit = c.args.edit; share = c.args.share; work = c.none.result; guard = c.default.result; snaps = c.new.result; nodes = c.default-2.result; read = c.new-2.result; tries = c.saturating_sub.result; limit = c.args.tries; call = c.args.hand.number; at = tt }

no_guard : (g : Over) (c : After-saturating_sub g) → c.default.result ≡ record { node = record { 0 = 0 }; scx = record { 0 = 0 }; left = record { 0 = 0 }; right = record { 0 = 0 } }
no_guard g c i = let e = c.default.ensures in record { node = record { 0 = e.0 i }; scx = record { 0 = e.1.0 i }; left = record { 0 = e.1.1.0 i }; right = record { 0 = e.1.1.1 i } }

no_nodes : (g : Over) (c : After-saturating_sub g) → c.default-2.result ≡ record { first = record { 0 = 0 }; second = record { 0 = 0 }; third = record { 0 = 0 } }
no_nodes g c i = let e = c.default-2.ensures in record { first = record { 0 = e.0 i }; second = record { 0 = e.1.0 i }; third = record { 0 = e.1.1 i } }

-- nothing of it is made
is_new : (g : Over) (c : After-saturating_sub g) → update g c ≡ new_update c.args.edit c.args.share c.args.tries c.args.hand.number
is_new g c i = record { edit = c.args.edit; share = c.args.share; work = c.none.ensures i; guard = no_guard g c i; snaps = record { items = c.new.ensures i }; nodes = no_nodes g c i; read = c.new-2.ensures i; tries = c.saturating_sub.ensures i; limit = c.args.tries; call = c.args.hand.number; at = tt }

pub call-updated-requires-clause-begins : goal.call-updated-requires-clause-begins
call-updated-requires-clause-begins g c = let r = c.requires.begins in let b = (goal.at.call-updated-requires-clause-begins g c).After-saturating_sub in (r.0, subst (λ (m : UpdateRun g.row.E.Denot (Unit {0})). UpdaterBegins r.0 c.args.seat.now.me.0.passes m) (sym (is_new g b)) r.1)

pub returns : goal.returns
returns g c = let b = (goal.at.returns g c).After-saturating_sub in record {
  table = c.call-updated.ensures.table;
  to = λ u x. (c.call-updated.new.run, sym c.into_share.ensures, c.call-updated.ensures.to u (subst (λ (m : UpdateRun g.row.E.Denot (Unit {0})). UpdaterBegins u c.args.seat.now.me.0.passes m) (sym (is_new g b)) x));
  steps = search rules;
}
