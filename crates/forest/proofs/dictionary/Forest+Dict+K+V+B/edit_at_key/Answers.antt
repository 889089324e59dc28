use Rattle.forest.proofs.dictionary.Forest+Dict+K+V+B.edit_at_key.Goals as goal

pub told_value-requires : goal.told_value-requires
told_value-requires g c = record { form = c.edit.ensures.form }

pub returns : goal.returns
returns g c = rw (← c.told_value.ensures) c.edit.ensures
