use Rattle.std.proofs.Common.{◌∙◌, ap, inr, option_map, rules}
use Rattle.csv.specs.Reading.{strip_bom}
use Rattle.texts.proofs.HaveRead.{opened}
use Rattle.texts.proofs.rows.Rows.new.Goals as goal

pub returns-clause-none : goal.returns-clause-none
returns-clause-none g c bytes told =
    opened _ bytes _ (record { config = search rules; trim = search rules; ready = inr (inr (search rules)); flexible = search rules }) (search rules) (c.from_reader.ensures.source ∙ ap (option_map strip_bom) told)
