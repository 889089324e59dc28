use Rattle.std.proofs.Common.{◌≡◌, ℕ, sym, subst}
use mathlib.Core.Option.{some}
use lib.ListN.{get_elem?}
use Rattle.forest.proofs.Closes.{index_is}
use Rattle.forest.proofs.lasting_close.Remains.word.Goals as goal

pub returns : goal.returns
returns g c = rw (← c.self.view_is) (sym (index_is c.self.inside.words.words.items _ c.word.result (subst (λ (i : ℕ). get_elem? c.self.inside.words.words.items i ≡ some c.word.result) c.place.ensures.place c.word.ensures)))
