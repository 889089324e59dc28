use Rattle.dict.specs.Words.{IsWordOf}
use Rattle.dict.specs.Laws.TypedMaps.{typed_run}
use Rattle.regnubas.proofs.Versions.{begun_empty, begun_planted, newest, quiet_earlier, quiet_later, version_stays}
use Rattle.regnubas.proofs.laws.version_laws_hold.Goals as goal

pub returns : goal.returns
returns g c =
    let keys = IsWordOf g.K.WordKey.is_valid g.K.WordKey.word_of in
    let values = IsWordOf g.V.WordValue.is_valid g.V.WordValue.word_of in
    record { runs = λ lay h tree run. (tree, typed_run keys values lay h run); trie_runs = λ lay h trie run. (trie, typed_run keys values lay h run); first = begun_planted; first_empty = begun_empty; newest = newest; earlier = quiet_earlier; later = quiet_later; stays = version_stays }
