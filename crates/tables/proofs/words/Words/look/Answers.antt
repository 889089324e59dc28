use Rattle.std.proofs.Common.{◌≡◌}
use Rattle.tables.specs.TableRule.{Looked}
use Rattle.tables.proofs.Moves.{looks}
use Rattle.tables.proofs.Ruled.{plain_plot, ruled_allows}
use Rattle.tables.proofs.words.Words.look.Goals as goal

pub load-requires : goal.load-requires
load-requires g c = let allows = g.S.Shape.allows in let site = c.args.self.now.table.shared.key in let t = c.requires.two in let once = c.requires.once in let me = c.args.seat.now.me in let at = c.place-at.result in (
  c.requires.table,
  rw once.words c.place-at.ensures.inside,
  ruled_allows allows site _ _ me at (λ n. n) (λ n m. Looked allows me.0.passes m.0.passes × (m.1 ≡ me.1)) once.turns
      (looks allows (plain_plot allows site) _ _ me at (rw once.layout c.place-at.ensures.place) (rw once.layout c.place-at.ensures.inside) (rw once.layout c.place-at.ensures.apart) t.0 t.1 t.2 (rw once.layout t.4)),
)
