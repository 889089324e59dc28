use Rattle.std.proofs.Common.{◌≡◌, ◌+◌, ◌<◌, ◌∷◌, length, reverse, take, vec_len, refl, sym, subst, arith, slice_index_or}
use Rattle.std.proofs.lemmas.Option.{slice_get_read}
use Rattle.record.specs.declared.record.Line.{Line}
use Rattle.audit.specs.declared.run.Replay.{Replay}
use Rattle.audit.specs.After.{Remembers, lines_of}
use Rattle.audit.proofs.Fitting.{line_counted}
use Rattle.audit.proofs.run.Replay.line.Goals as goal

-- with the line that comes next, the lines so far are one more
one_more : (old new : Replay) (line : Line) → new.record ≡ old.record → new.at ≡ old.at → old.at < vec_len old.record.now.lines → line ≡ slice_index_or old.record.now.lines.items old.at line → line ∷ lines_of old ≡ reverse (take (new.at + 1) new.record.now.lines.items)
one_more old new line same at less is =
    let lines = old.record.now.lines in
    sym (line_counted old new line same at (slice_get_read lines.items (length lines.items) old.at line refl (omega (arith, less, lines.ok.0)) is))

pub returns-clause-remembers : goal.returns-clause-remembers
returns-clause-remembers c =
    let next = c.in_ok-next_line.ensures in
    let kept = subst (Remembers c.next_line.new.self) (one_more c.args.self.now c.next_line.new.self c.index-line.result.now next.record next.at c.requires.more c.index-line.ensures) next.remembers in
    record { after = kept.after; map = kept.map; remembered = kept.remembered }
