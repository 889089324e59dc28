use Rattle.std.proofs.Common.{◌∙◌, sym, ap}
use Rattle.std.specs.List.{remove}
use Rattle.edits.proofs.PairPlaces.{deleted_at, deleted_here, misses_none, misses_more}
use Rattle.edits.proofs.pairs.Pairs.delete.Goals as goal

pub returns-then-has_at : goal.returns-then-has_at
returns-then-has_at c = c.without.ensures ∙ deleted_here c.args.key 0 c.args.self (misses_none c.args.key c.args.self) (sym c.has_at.ensures ∙ c.if-has_at.true)

pub returns-then-has_at-2 : goal.returns-then-has_at-2
returns-then-has_at-2 c =
    let one = misses_more c.args.key 0 c.args.self (misses_none c.args.key c.args.self) (sym c.has_at.ensures ∙ c.if-has_at.false) in
    c.without-then-has_at-2.ensures ∙ deleted_here c.args.key 1 c.args.self one (sym c.has_at-2.ensures ∙ c.if-has_at-2.true)

pub returns-then-has_at-3 : goal.returns-then-has_at-3
returns-then-has_at-3 c =
    let one = misses_more c.args.key 0 c.args.self (misses_none c.args.key c.args.self) (sym c.has_at.ensures ∙ c.if-has_at.false) in
    let two = misses_more c.args.key 1 c.args.self one (sym c.has_at-2.ensures ∙ c.if-has_at-2.false) in
    c.without-then-has_at-3.ensures ∙ deleted_here c.args.key 2 c.args.self two (sym c.has_at-3.ensures ∙ c.if-has_at-3.true)

pub returns-then-has_at-4 : goal.returns-then-has_at-4
returns-then-has_at-4 c =
    let one = misses_more c.args.key 0 c.args.self (misses_none c.args.key c.args.self) (sym c.has_at.ensures ∙ c.if-has_at.false) in
    let two = misses_more c.args.key 1 c.args.self one (sym c.has_at-2.ensures ∙ c.if-has_at-2.false) in
    let three = misses_more c.args.key 2 c.args.self two (sym c.has_at-3.ensures ∙ c.if-has_at-3.false) in
    c.without-then-has_at-4.ensures ∙ deleted_here c.args.key 3 c.args.self three (sym c.has_at-4.ensures ∙ c.if-has_at-4.true)

pub returns : goal.returns
returns c = c.without-2.ensures ∙ ap (λ at. remove c.args.self at) c.before-at.ensures ∙ sym (deleted_at c.args.key c.args.self)
