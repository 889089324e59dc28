use Rattle.std.proofs.Common.{refl, sym, ◌∙◌, ap}
use Rattle.histories.specs.Common.{head_of, begun_at}
use Rattle.template.specs.Balance.{nodes_by}
use Rattle.order.proofs.Blaming.{keeps_wider, try_as}
use Rattle.order.proofs.Nearer.{below, from_root}
use Rattle.order.proofs.Turns.{at_start, at_walk, at_near, at_root, at_look, at_load, at_validate, fits_at, goes_read, goes_taken, left_as, left_at, reading}
use Rattle.order.proofs.run.ReadRun.step.Goals as goal

pub returns-in-Start-clause-turn : goal.returns-in-Start-clause-turn
returns-in-Start-clause-turn g c d h r = let t = at_start g.R.Read.means c.args.self.now d h c.args.got c.in-Start.is r in c.begin.ensures.turn d d.start h t.0 t.1

pub returns-in-Start-clause-begins : goal.returns-in-Start-clause-begins
returns-in-Start-clause-begins g c none asks d h r = c.begin.ensures.begins asks

pub returns-in-Walk-clause-turn : goal.returns-in-Walk-clause-turn
returns-in-Walk-clause-turn g c d h r =
    let t = at_walk g.R.Read.means c.args.self.now d h c.args.got c.in-Walk.walk c.in-Walk.side c.in-Walk.turns c.in-Walk.is r in
    let w = t.2 in
    let walks = w.4.0 in
    c.walk_on.ensures.turn d w.0 h walks.key t.0 t.1 w.1 w.2 walks.goal walks.way walks.goes_to walks.last w.4.1

pub returns-in-Walk-clause-nearer : goal.returns-in-Walk-clause-nearer
returns-in-Walk-clause-nearer g c nodes fits = left_at g.R.Read.means c.args.self.now (nodes_by c.args.self.now.trie nodes) c.walk_on.new.self c.walk_on.result _ c.in-Walk.is (c.walk_on.ensures.nearer nodes (fits_at g.R.Read.means c.args.self.now c.args.got (nodes_by c.args.self.now.trie nodes) _ c.in-Walk.is fits).0 (fits_at g.R.Read.means c.args.self.now c.args.got (nodes_by c.args.self.now.trie nodes) _ c.in-Walk.is fits).1)

pub returns-in-Look-clause-turn : goal.returns-in-Look-clause-turn
returns-in-Look-clause-turn g c d h r =
    let t = at_look g.R.Read.means c.args.self.now d h c.args.got c.in-Look.children c.in-Look.level c.in-Look.llx c.in-Look.is r in
    let l = t.4.1 in
    c.look_on.ensures.turn d t.0 l.0 h t.1 t.2 t.4.0 l.1 l.2

pub returns-in-Look-clause-nearer : goal.returns-in-Look-clause-nearer
returns-in-Look-clause-nearer g c nodes fits = left_at g.R.Read.means c.args.self.now (nodes_by c.args.self.now.trie nodes) c.look_on.new.self c.look_on.result _ c.in-Look.is (c.look_on.ensures.nearer (nodes_by c.args.self.now.trie nodes) (fits_at g.R.Read.means c.args.self.now c.args.got (nodes_by c.args.self.now.trie nodes) _ c.in-Look.is fits))

pub returns-in-Look-clause-tries : goal.returns-in-Look-clause-tries
returns-in-Look-clause-tries g c d h r =
    let t = at_look g.R.Read.means c.args.self.now d h c.args.got c.in-Look.children c.in-Look.level c.in-Look.llx c.in-Look.is r in
    let l = t.4.1 in
    keeps_wider d t.0 h _ _ c.look_on.result t.1.begins.since (c.look_on.ensures.tries (begun_at d t.0) l.0 h t.2 t.4.0 l.1 l.2)

pub returns-in-Validate-clause-turn : goal.returns-in-Validate-clause-turn
returns-in-Validate-clause-turn g c d h r =
    let t = at_validate g.R.Read.means c.args.self.now d h c.args.got c.in-Validate.asked c.in-Validate.is r in
    c.validate_on.ensures.turn d t.0 t.4.0 h t.1 t.2 t.4.1 t.4.2

pub returns-in-Validate-clause-nearer : goal.returns-in-Validate-clause-nearer
returns-in-Validate-clause-nearer g c nodes fits = left_at g.R.Read.means c.args.self.now (nodes_by c.args.self.now.trie nodes) c.validate_on.new.self c.validate_on.result _ c.in-Validate.is (c.validate_on.ensures.nearer (nodes_by c.args.self.now.trie nodes))

pub returns-in-Validate-clause-tries : goal.returns-in-Validate-clause-tries
returns-in-Validate-clause-tries g c d h r =
    let t = at_validate g.R.Read.means c.args.self.now d h c.args.got c.in-Validate.asked c.in-Validate.is r in
    keeps_wider d t.0 h _ _ c.validate_on.result t.1.begins.since (c.validate_on.ensures.tries (begun_at d t.0) t.4.0 h t.2 t.4.1 t.4.2)

pub returns-in-Root-clause-turn : goal.returns-in-Root-clause-turn
returns-in-Root-clause-turn g c d h r =
    let t = at_root g.R.Read.means c.args.self.now d h c.args.got c.in-Root.is r in
    let on = c.head_on-next.ensures.goes_on c.args.self.now.snaps.items (begun_at d t.0) h (reading g.R.Read.means c.args.self.now (begun_at d t.0) h t.2) t.3 t.4.0 (ap head_of (t.4.1 ∙ sym c.unwrap_or-value.ensures) ∙ sym c.of.ensures) in
    c.stand.ensures.turn d h (t.0, t.1, (goes_read g.R.Read.means c.args.self.now c.head_on-next.new.self (begun_at d t.0) h c.head_on-next.ensures.same t.2, on))

pub returns-in-Root-clause-tries : goal.returns-in-Root-clause-tries
returns-in-Root-clause-tries g c d h r =
    let t = at_root g.R.Read.means c.args.self.now d h c.args.got c.in-Root.is r in
    let on = c.head_on-next.ensures.goes_on c.args.self.now.snaps.items (begun_at d t.0) h (reading g.R.Read.means c.args.self.now (begun_at d t.0) h t.2) t.3 t.4.0 (ap head_of (t.4.1 ∙ sym c.unwrap_or-value.ensures) ∙ sym c.of.ensures) in
    keeps_wider d t.0 h _ _ c.stand.result t.1.begins.since (c.stand.ensures.tries (begun_at d t.0) h (goes_read g.R.Read.means c.args.self.now c.head_on-next.new.self (begun_at d t.0) h c.head_on-next.ensures.same t.2, on))

pub returns-in-Root-clause-nearer : goal.returns-in-Root-clause-nearer
returns-in-Root-clause-nearer g c nodes fits =
    let f = fits_at g.R.Read.means c.args.self.now c.args.got (nodes_by c.args.self.now.trie nodes) _ c.in-Root.is fits in
    left_at g.R.Read.means c.args.self.now (nodes_by c.args.self.now.trie nodes) c.stand.new.self c.stand.result _ c.in-Root.is (below c.stand.result _ _ _ (left_as g.R.Read.means c.args.self.now (record c.args.self.now { read = c.head_on-next.new.self }) c.stand.new.self (nodes_by c.args.self.now.trie nodes) _ c.stand.result refl c.head_on-next.ensures.same (c.stand.ensures.nearer (nodes_by c.args.self.now.trie nodes) _ (goes_taken g.R.Read.means c.head_on-next.new.self c.args.self.now (nodes_by c.args.self.now.trie nodes) _ _ (c.head_on-next.ensures.nearer (nodes_by c.args.self.now.trie nodes) (rw (c.of.ensures, c.unwrap_or-value.ensures) f))))) (from_root _ _ _ _ _))

pub returns-in-Load-clause-turn : goal.returns-in-Load-clause-turn
returns-in-Load-clause-turn g c d h r =
    let t = at_load g.R.Read.means c.args.self.now d h c.args.got c.in-Load.load c.in-Load.is r in
    let on = c.loaded-next.ensures.goes_on (begun_at d t.0) h t.2 t.3 t.4.0 (t.4.1 ∙ sym c.unwrap_or-value.ensures) in
    c.proceed.ensures.turn d t.0 h (try_as d h t.0 _ _ _ _ c.loaded-next.ensures.same.1 c.loaded-next.ensures.tries t.1) on

pub returns-in-Load-clause-tries : goal.returns-in-Load-clause-tries
returns-in-Load-clause-tries g c d h r =
    let t = at_load g.R.Read.means c.args.self.now d h c.args.got c.in-Load.load c.in-Load.is r in
    let on = c.loaded-next.ensures.goes_on (begun_at d t.0) h t.2 t.3 t.4.0 (t.4.1 ∙ sym c.unwrap_or-value.ensures) in
    rw c.loaded-next.ensures.tries at (keeps_wider d t.0 h _ _ c.proceed.result t.1.begins.since (c.proceed.ensures.tries (begun_at d t.0) h on))

pub returns-in-Load-clause-nearer : goal.returns-in-Load-clause-nearer
returns-in-Load-clause-nearer g c nodes fits =
    let f = fits_at g.R.Read.means c.args.self.now c.args.got (nodes_by c.args.self.now.trie nodes) _ c.in-Load.is fits in
    left_at g.R.Read.means c.args.self.now (nodes_by c.args.self.now.trie nodes) c.proceed.new.self c.proceed.result _ c.in-Load.is (left_as g.R.Read.means c.args.self.now c.loaded-next.new.self c.proceed.new.self (nodes_by c.args.self.now.trie nodes) _ c.proceed.result c.loaded-next.ensures.tries c.loaded-next.ensures.same.0 (c.proceed.ensures.nearer (nodes_by c.args.self.now.trie nodes) _ (c.loaded-next.ensures.nearer (nodes_by c.args.self.now.trie nodes) (rw c.unwrap_or-value.ensures f))))

pub returns-in-Near-clause-turn : goal.returns-in-Near-clause-turn
returns-in-Near-clause-turn g c d h r =
    let t = at_near g.R.Read.means c.args.self.now d h c.args.got c.in-Near.near c.in-Near.children c.in-Near.fork c.in-Near.is r in
    c.near_on.ensures.turn d t.0 h t.1 t.2 t.4.0 (t.4.1 ∙ sym c.unwrap_or-value.ensures)

pub returns-in-Near-clause-nearer : goal.returns-in-Near-clause-nearer
returns-in-Near-clause-nearer g c nodes fits = left_at g.R.Read.means c.args.self.now (nodes_by c.args.self.now.trie nodes) c.near_on.new.self c.near_on.result _ c.in-Near.is (c.near_on.ensures.nearer (nodes_by c.args.self.now.trie nodes))
