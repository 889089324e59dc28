use Rattle.judge.proofs.naming.Naming.note_field.Goals as goal

pub link-requires-then-node-self-clause-spare : goal.link-requires-then-node-self-clause-spare
link-requires-then-node-self-clause-spare c = c.link.ensures.spare 1 c.requires.spare
