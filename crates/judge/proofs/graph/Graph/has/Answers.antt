use Rattle.std.proofs.Common.{[], sym, ◌∙◌}
use Rattle.judge.specs.Graph.{links_of}
use Rattle.judge.proofs.Counts.{flag_read}
use Rattle.judge.proofs.Spreading.{all_flagged}
use Rattle.judge.proofs.graph.Graph.has.Goals as goal

pub returns : goal.returns
returns c g =
    let read = flag_read c.args.self.now.reached.items c.args.at c.index.result.now c.requires c.index.ensures in
    (λ e. g.spread.sound c.args.at (read ∙ e), λ p. sym read ∙ all_flagged c.args.self.now.reached.items c.args.self.now.newest.items c.args.self.now.links.items [] (links_of c.args.self.now) g.spread c.args.at p)
