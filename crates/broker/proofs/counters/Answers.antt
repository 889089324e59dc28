use Rattle.std.proofs.Common.{Some}
use Rattle.std.proofs.lemmas.List.Elements.{All-pop}
use Rattle.regnubas.specs.Passes.{IsOf}
use Rattle.broker.proofs.counters.Goals as goal

pub work_all-requires-after_bounds : goal.work_all-requires-after_bounds
work_all-requires-after_bounds g c κs within = (All-pop (IsOf c.in_ok-table.table) c.in_ok-table.passes.items c.pop.new.self.items (Some c.in-Some.own) c.in-Some.ensures.items c.in_ok-table.ensures.passes).0
