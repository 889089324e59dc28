use Rattle.std.proofs.Common.{◌≡◌, ◌<◌, ◌∙◌, Some, None, refl, sym}
use Rattle.histories.specs.Common.{High, Key, History, value, Call, begun_at, node, Settled}
use Rattle.edits.specs.Known.{CanRead, Reads}
use Rattle.edits.specs.Next.{half_told}
use Rattle.edits.specs.Readings.{next_read, reads_left}
use Rattle.edits.proofs.Nearer.{few_then, some_left, to_first_fill, to_next_read}
use Rattle.edits.proofs.ReadWords.{all_read, fills_head, goes_reading, pair_goes, reads_fewer, reads_word}
use Rattle.edits.proofs.Turns.{fills_word}
use Rattle.edits.proofs.update.UpdateRun.read_pair.Given.{Over}
use Rattle.edits.proofs.update.UpdateRun.read_pair.Goals.{After-keep_pair}
use Rattle.edits.proofs.update.UpdateRun.read_pair.Goals as goal

-- it may continue to read, once the pair is kept
goes : (g : Over) (c : After-keep_pair g) (d : Call) (b h : History) → Reads g.E.Edit.means (half_told c.args.self.now c.args.slot c.args.key c.args.low) (begun_at d b) h c.args.found.now c.args.node (High c.args.slot) → value h (node c.args.node.0 (Settled (High c.args.slot))) ≡ c.args.high → CanRead g.E.Edit.means (record c.args.self.now { read = c.keep_pair.new.self }) (begun_at d b) h c.args.found.now c.args.node
goes g c d b h x told = rw c.keep_pair.ensures.kept (goes_reading g.E.Edit.means (half_told c.args.self.now c.args.slot c.args.key c.args.low) (begun_at d b) h c.args.found.now c.args.node (High c.args.slot) c.args.high x told)

pub returns-in-Some-clause-turn : goal.returns-in-Some-clause-turn
returns-in-Some-clause-turn g c d b h run try x told = (
  b,
  try,
  tt,
  reads_word g.E.Edit.means (record c.args.self.now { read = c.keep_pair.new.self }) (begun_at d b) h c.args.found.now c.args.node (Key c.in-Some.slot) (goes g (goal.at.returns-in-Some-clause-turn g c).After-keep_pair d b h x told)
      (pair_goes c.args.self.now.read c.keep_pair.new.self c.args.slot c.args.key c.args.low c.args.high (Some c.in-Some.slot) c.keep_pair.ensures.kept (sym c.keep_pair.ensures.next ∙ c.in-Some.is) x.next),
)

pub returns-in-None-clause-turn : goal.returns-in-None-clause-turn
returns-in-None-clause-turn g c d b h run try x told =
    let whole : next_read c.keep_pair.new.self ≡ None = pair_goes c.args.self.now.read c.keep_pair.new.self c.args.slot c.args.key c.args.low c.args.high None c.keep_pair.ensures.kept (sym c.keep_pair.ensures.next ∙ c.in-None.is) x.next in
    let m = record c.args.self.now { read = c.keep_pair.new.self } in
    let can = fills_head g.E.Edit.means m (begun_at d b) h c.args.found.now _ (all_read g.E.Edit.means m (begun_at d b) h c.args.found.now c.args.node (goes g (goal.at.returns-in-None-clause-turn g c).After-keep_pair d b h x told) whole) in
    (b, try, tt, fills_word g.E.Edit.means m c.args.found.now _ _ _ _ _ (begun_at d b) h can refl refl refl)

pub returns-in-Some-clause-nearer : goal.returns-in-Some-clause-nearer
returns-in-Some-clause-nearer g c asked nodes next =
    let half = (half_told c.args.self.now c.args.slot c.args.key c.args.low).read in
    let then_next : next_read c.keep_pair.new.self ≡ Some (Key c.in-Some.slot) = pair_goes c.args.self.now.read c.keep_pair.new.self c.args.slot c.args.key c.args.low c.args.high (Some c.in-Some.slot) c.keep_pair.ensures.kept (sym c.keep_pair.ensures.next ∙ c.in-Some.is) next in
    let fewer : reads_left c.keep_pair.new.self < reads_left half = rw c.keep_pair.ensures.kept (reads_fewer half c.args.high (High c.args.slot) next) in
    to_next_read _ _ _ _ (some_left _ _ (reads_fewer c.keep_pair.new.self 0 (Key c.in-Some.slot) then_next)) fewer

pub returns-in-None-clause-nearer : goal.returns-in-None-clause-nearer
returns-in-None-clause-nearer g c asked nodes next = to_first_fill _ _ _ _ _ (few_then g.E.Edit.means g.met.E.Edit.laws.bounds (record c.args.self.now { read = c.keep_pair.new.self }) c.args.found.now asked)
