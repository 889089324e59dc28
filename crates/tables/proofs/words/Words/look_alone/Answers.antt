use Rattle.std.proofs.Common.{◌≡◌, ◌++◌, refl}
use Rattle.tables.specs.TableRule.{Made, history_of, look}
use Rattle.tables.proofs.Moves.{head_inside, look_lawful, moves}
use Rattle.tables.proofs.Ruled.{plain_plot, ruled_allows}
use Rattle.tables.proofs.words.Words.look_alone.Goals as goal

pub load-requires : goal.load-requires
load-requires g c = let allows = g.S.Shape.allows in let site = c.args.self.now.table.shared.key in let one = c.requires.one in let p = one.0 in let once = c.requires.once in let me = c.args.seat.now.me in let at = c.place-at.result in (
  c.requires.table,
  rw once.words c.place-at.ensures.inside,
  ruled_allows allows site _ _ me at (λ n. n) (λ n m. Made allows look me.0.passes n m.0.passes × (m.1 ≡ me.1)) once.turns
      (moves allows (plain_plot allows site) _ _ me look at (λ n. n) (λ n. n) (head_inside site.layout) (rw once.layout c.place-at.ensures.place) (rw once.layout c.place-at.ensures.inside) (rw once.layout c.place-at.ensures.apart) (λ n. refl) (λ n. refl) p one.1
      (λ others by run. look_lawful allows p.layout (history_of p.planting (others ++ p.known)) p.number.0 (rw one.2 one.3) run)),
)
