use Rattle.judge.proofs.Asked.{scx_asked}
use Rattle.judge.proofs.facts.is_named_scx.Goals as goal

pub returns : goal.returns
returns c = rw (← c.judge.view_is) (scx_asked _ _ c.judge.inside.naming c.judge.invariant.lawful c.judge.invariant.naming c.args.scx _ c.has_scx.ensures)
