use Rattle.std.proofs.Common.{◌≡◌, [], sym, ◌∙◌, ap}
use Rattle.histories.specs.Common.{Layout, opening, empty, word_at}
use Rattle.histories.proofs.Lemmas.{value_start}
use Rattle.judge.proofs.Making.{lawful_start, stands_at}
use Rattle.judge.proofs.judge.Judge.new.Goals as goal

pub invariant_of-result : goal.invariant_of-result
invariant_of-result c =
    let lay = c.args.layout.now in
    let table = c.in_ok-new.ensures.layout in
    stands_at lay [] _ table c.new-7.ensures record {
      lawful = lawful_start lay;
      words = λ w i.
          let opened : word_at c.in_ok-new.field-0 w ≡ opening c.in_ok-new.field-0.layout.mode w = c.in_ok-new.ensures.opening w (rw table i) in
          opened ∙ ap (λ (l : Layout). opening l.mode w) table ∙ sym (value_start (empty lay.mode) w);
      naming = c.in_ok-new-2.ensures;
      uses = c.in_ok-new-3.ensures;
      freezing = c.in_ok-new-4.ensures;
      entering = c.in_ok-new-5.ensures;
      taking = c.in_ok-new-6.ensures;
      loaded = c.in_ok-vec.ensures.len;
    }
