use Rattle.std.proofs.Common.{◌≡◌, None}
use Rattle.arena.specs.declared.limits.Mode.TheVariants.{Records}
use Rattle.template.specs.Common.{AllowsAll, LlxIsReady, PutIsReady, VlxIsReady}
use Rattle.dict.specs.DictKnown.{DictIsReady}
use Rattle.dict.specs.Laws.Dict.{dict_told}
use Rattle.dict.specs.Words.{IsNumber, IsWideNumber}
use Rattle.arena.specs.Opening.{IsMap}
use Rattle.dict.specs.Calls.{trie_in}
use Rattle.player.proofs.Shapes.{as_cells, as_numbers, of_map}
use Rattle.player.proofs.run.Run.next.Goals as goal

pub returns-in-Ask-clause-turn : goal.returns-in-Ask-clause-turn
returns-in-Ask-clause-turn c d h mode run ready =
    let records : d.layout.mode ≡ Records = rw c.in-Llx.is at mode in
    let r : LlxIsReady AllowsAll c.in-Llx.run' d h c.args.got = rw c.in-Llx.is at ready in
    c.in-Ask.ensures.turn d h (as_cells d.layout h records run) r

pub returns-in-Done-clause-turn : goal.returns-in-Done-clause-turn
returns-in-Done-clause-turn c d h mode run ready =
    let records : d.layout.mode ≡ Records = rw c.in-Llx.is at mode in
    let r : LlxIsReady AllowsAll c.in-Llx.run' d h c.args.got = rw c.in-Llx.is at ready in
    c.in-Done.ensures.turn d h (as_cells d.layout h records run) r

pub returns-in-Ask-clause-nearer : goal.returns-in-Ask-clause-nearer
returns-in-Ask-clause-nearer c d h nodes mode run ready few = rw c.in-Llx.is (c.in-Ask.ensures.nearer nodes tt)

pub returns-in-Ask-next-clause-turn : goal.returns-in-Ask-next-clause-turn
returns-in-Ask-next-clause-turn c d h mode run ready =
    let records : d.layout.mode ≡ Records = rw c.in-Scx.is at mode in
    let r : PutIsReady AllowsAll c.in-Scx.run' d h c.args.got = rw c.in-Scx.is at ready in
    c.in-Ask-next.ensures.turn d h (as_cells d.layout h records run) r

pub returns-in-Done-next-clause-turn : goal.returns-in-Done-next-clause-turn
returns-in-Done-next-clause-turn c d h mode run ready =
    let records : d.layout.mode ≡ Records = rw c.in-Scx.is at mode in
    let r : PutIsReady AllowsAll c.in-Scx.run' d h c.args.got = rw c.in-Scx.is at ready in
    c.in-Done-next.ensures.turn d h (as_cells d.layout h records run) r

pub returns-in-Ask-next-clause-nearer : goal.returns-in-Ask-next-clause-nearer
returns-in-Ask-next-clause-nearer c d h nodes mode run ready few = rw c.in-Scx.is (c.in-Ask-next.ensures.nearer nodes tt)

pub returns-in-Ask-next-2-clause-turn : goal.returns-in-Ask-next-2-clause-turn
returns-in-Ask-next-2-clause-turn c d h mode run ready =
    let records : d.layout.mode ≡ Records = rw c.in-Vlx.is at mode in
    let r : VlxIsReady c.in-Vlx.run'.snaps c.in-Vlx.run'.asked d h c.args.got = rw c.in-Vlx.is at ready in
    c.in-Ask-next-2.ensures.turn d h (as_cells d.layout h records run) r

pub returns-in-Done-next-2-clause-turn : goal.returns-in-Done-next-2-clause-turn
returns-in-Done-next-2-clause-turn c d h mode run ready =
    let records : d.layout.mode ≡ Records = rw c.in-Vlx.is at mode in
    let r : VlxIsReady c.in-Vlx.run'.snaps c.in-Vlx.run'.asked d h c.args.got = rw c.in-Vlx.is at ready in
    c.in-Done-next-2.ensures.turn d h (as_cells d.layout h records run) r

pub returns-in-Ask-next-2-clause-nearer : goal.returns-in-Ask-next-2-clause-nearer
returns-in-Ask-next-2-clause-nearer c d h nodes mode run ready few = rw c.in-Vlx.is (c.in-Ask-next-2.ensures.nearer nodes tt)

pub returns-in-Done-next-2-clause-begins : goal.returns-in-Done-next-2-clause-begins
returns-in-Done-next-2-clause-begins c none asks d h ready =
    let r : VlxIsReady c.in-Vlx.run'.snaps c.in-Vlx.run'.asked d h None = rw c.in-Vlx.is at ready in
    c.in-Done-next-2.ensures.begins none tt d h r

pub returns-in-Ask-next-3-clause-turn : goal.returns-in-Ask-next-3-clause-turn
returns-in-Ask-next-3-clause-turn c d h mode run ready =
    let map : IsMap d.layout.mode = of_map d.layout.mode (trie_in c.in-Map.run'.run) (rw c.in-Map.is at mode) in
    let r : DictIsReady IsNumber IsWideNumber c.in-Map.run' d h c.args.got = rw c.in-Map.is at ready in
    c.in-Ask-next-3.ensures.turn d h (as_numbers d.layout h map run) r

pub returns-in-Done-next-3-clause-turn : goal.returns-in-Done-next-3-clause-turn
returns-in-Done-next-3-clause-turn c d h mode run ready =
    let map : IsMap d.layout.mode = of_map d.layout.mode (trie_in c.in-Map.run'.run) (rw c.in-Map.is at mode) in
    let r : DictIsReady IsNumber IsWideNumber c.in-Map.run' d h c.args.got = rw c.in-Map.is at ready in
    c.in-Done-next-3.ensures.turn d h (as_numbers d.layout h map run) r

pub returns-in-Ask-next-3-clause-nearer : goal.returns-in-Ask-next-3-clause-nearer
returns-in-Ask-next-3-clause-nearer c d h nodes mode run ready few =
    let map : IsMap d.layout.mode = of_map d.layout.mode (trie_in c.in-Map.run'.run) (rw c.in-Map.is at mode) in
    let r : DictIsReady IsNumber IsWideNumber c.in-Map.run' d h c.args.got = rw c.in-Map.is at ready in
    rw c.in-Map.is (c.in-Ask-next-3.ensures.nearer nodes (dict_told IsNumber IsWideNumber c.in-Map.run' d h c.args.got nodes (as_numbers d.layout h map run) r few))
