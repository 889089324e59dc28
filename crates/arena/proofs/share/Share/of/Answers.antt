use Rattle.std.proofs.Common.{◌∙◌}
use Rattle.arena.specs.Layout.{opening_nodes}
use Rattle.arena.proofs.Shares.{overlap}
use Rattle.arena.proofs.share.Share.of.Goals as goal

pub returns-clause-apart_nodes : goal.returns-clause-apart_nodes
returns-clause-apart_nodes c other n apart own others =
    overlap (opening_nodes c.args.layout.now) c.args.layout.now.nodes other c.args.pass.0 n others.from others.below (rw (c.from.ensures ∙ c.first_node.ensures) at own.from) (rw (c.from.ensures ∙ c.first_node.ensures) at own.below) apart

pub returns-clause-apart_scx : goal.returns-clause-apart_scx
returns-clause-apart_scx c other s apart own others =
    overlap 1 c.args.layout.now.scx other c.args.pass.0 s others.from others.below (rw (c.from-2.ensures ∙ c.first_scx.ensures) at own.from) (rw (c.from-2.ensures ∙ c.first_scx.ensures) at own.below) apart
