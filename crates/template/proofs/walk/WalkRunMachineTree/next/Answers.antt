use Rattle.std.proofs.Common.{ℕ, Some, ◌+◌, ◌<◌, sym, ◌∙◌, ap, subst}
use Rattle.arena.specs.Heads.{head_of}
use Rattle.arena.specs.Machines.{MatchTurn}
use Rattle.template.specs.declared.walk.WalkAt.TheVariants.{Root, Head, Key, Child, More, Pair, Value, High}
use Rattle.template.specs.Common.{WalkEnds, WalkKnows, walk_left}
use Rattle.template.specs.Walk.Known.{LoadsChild, WalkAsks, walk_step}
use Rattle.template.specs.Walk.Steps.{room}
use Rattle.template.proofs.WalkTurns.{told_at, told_root, stands_by, turn_start, turn_more, turn_value, turn_high, nearer_root, nearer_below}
use Rattle.template.proofs.walk.WalkRunMachineTree.next.Goals as goal

pub returns-in-Start-clause-turn : goal.returns-in-Start-clause-turn
returns-in-Start-clause-turn c d h run r = turn_start c.args.self.now c.load_settled.new.self d h c.args.got c.load_settled.result c.in-Start.is r c.load_settled.ensures

pub returns-in-Root-clause-turn : goal.returns-in-Root-clause-turn
returns-in-Root-clause-turn c d h run r =
    let t = told_at c.args.self.now d h c.args.got c.unwrap_or-found.result Root c.in-Root.is (λ e. cc) c.unwrap_or-found.ensures r in
    let k = told_root c.args.self.now d h c.unwrap_or-found.result c.in-Root.is t in
    c.read_head.ensures.turn d h k.0 (ap head_of k.1 ∙ sym c.of.ensures)

pub returns-in-Root-clause-nearer : goal.returns-in-Root-clause-nearer
returns-in-Root-clause-nearer c nodes fits =
    let by : ℕ = room c.args.self.now.way nodes in
    let low : (head_of c.unwrap_or-found.result).level < 2 + by = rw (c.in-Root.is, sym c.unwrap_or-found.ensures) at fits in
    let deep : c.of.result.level < 2 + by = rw c.of.ensures low in
    subst (λ way. MatchTurn c.read_head.result (λ _. walk_left c.read_head.new.self.at (room way nodes) < walk_left c.args.self.now.at by) (λ _. Unit {0})) (sym c.read_head.ensures.same.1)
    (rw c.in-Root.is (nearer_root c.read_head.result by c.of.result.level (walk_left c.read_head.new.self.at by) (c.read_head.ensures.nearer by deep)))

pub returns-in-Key-clause-turn : goal.returns-in-Key-clause-turn
returns-in-Key-clause-turn c d h run r =
    let m = c.args.self.now in
    let found = c.unwrap_or-found.result in
    let w = c.in-Key in
    let t = told_at m d h c.args.got found (Key w.head) w.is (λ e. cc) c.unwrap_or-found.ensures r in
    let x : WalkKnows d h m (Key w.head) = subst (WalkKnows d h m) w.is t.known in
    c.read_key.ensures.turn d h (stands_by m d h found t x.0) x.1 x.2 x.3 (rw w.is at t.told)

pub returns-in-Key-clause-nearer : goal.returns-in-Key-clause-nearer
returns-in-Key-clause-nearer c nodes fits =
    let by : ℕ = room c.args.self.now.way nodes in
    let deep : c.in-Key.head.level < 2 + by = rw c.in-Key.is at fits in
    subst (λ way. MatchTurn c.read_key.result (λ _. walk_left c.read_key.new.self.at (room way nodes) < walk_left c.args.self.now.at by) (λ _. Unit {0})) (sym c.read_key.ensures.same.1)
    (rw c.in-Key.is (c.read_key.ensures.nearer by deep))

pub returns-in-Child-clause-turn : goal.returns-in-Child-clause-turn
returns-in-Child-clause-turn c d h run r =
    let m = c.args.self.now in
    let found = c.unwrap_or-found.result in
    let w = c.in-Child in
    let t = told_at m d h c.args.got found (Child w.level w.side) w.is (λ e. cc) c.unwrap_or-found.ensures r in
    let x : WalkKnows d h m (Child w.level w.side) = subst (WalkKnows d h m) w.is t.known in
    c.go_down.ensures.turn d h (stands_by m d h found t x.0) x.1 x.2 x.3 (rw w.is at t.told) (λ z. (t.sure z).leaves (subst LoadsChild (sym w.is) tt))

pub returns-in-High-clause-turn : goal.returns-in-High-clause-turn
returns-in-High-clause-turn c d h run r =
    let m = c.args.self.now in
    let found = c.unwrap_or-found.result in
    let w = c.in-High in
    let t = told_at m d h c.args.got found (High w.head w.more w.slot w.key w.low) w.is (λ e. cc) c.unwrap_or-found.ensures r in
    turn_high d h m c.end.new.self c.end.result w.head w.more w.slot w.key w.low found w.is t
    (subst (λ v. WalkEnds m c.end.new.self c.end.result w.head w.more w.key (Some v)) c.wide_value.ensures c.end.ensures)

pub returns-in-Head-clause-nearer : goal.returns-in-Head-clause-nearer
returns-in-Head-clause-nearer c nodes fits =
    let by : ℕ = room c.args.self.now.way nodes in
    let low : (c.in-Head.above < (head_of c.unwrap_or-found.result).level) × ((head_of c.unwrap_or-found.result).level < 2 + by) = rw (c.in-Head.is, sym c.unwrap_or-found.ensures) at fits in
    let rises : c.in-Head.above < c.of-in-Head.result.level = rw c.of-in-Head.ensures low.0 in
    let deep : c.of-in-Head.result.level < 2 + by = rw c.of-in-Head.ensures low.1 in
    subst (λ way. MatchTurn c.read_head-in-Head.result (λ _. walk_left c.read_head-in-Head.new.self.at (room way nodes) < walk_left c.args.self.now.at by) (λ _. Unit {0})) (sym c.read_head-in-Head.ensures.same.1)
    (rw c.in-Head.is (nearer_below c.read_head-in-Head.result by c.in-Head.above c.of-in-Head.result.level (walk_left c.read_head-in-Head.new.self.at by) rises (c.read_head-in-Head.ensures.nearer by deep)))

pub returns-in-Child-clause-nearer : goal.returns-in-Child-clause-nearer
returns-in-Child-clause-nearer c nodes fits =
    let by : ℕ = room c.args.self.now.way nodes in
    let deep : c.in-Child.level + 1 < 2 + by = rw c.in-Child.is at fits in
    subst (λ way. MatchTurn c.go_down.result (λ _. walk_left c.go_down.new.self.at (room way nodes) < walk_left c.args.self.now.at by) (λ _. Unit {0})) (sym c.go_down.ensures.same.1)
    (rw c.in-Child.is (c.go_down.ensures.nearer by deep))

pub returns-in-Pair-clause-nearer : goal.returns-in-Pair-clause-nearer
returns-in-Pair-clause-nearer c nodes fits =
    let by : ℕ = room c.args.self.now.way nodes in
    let deep : c.in-Pair.head.level < 2 + by = rw c.in-Pair.is at fits in
    subst (λ way. MatchTurn c.read_pair.result (λ _. walk_left c.read_pair.new.self.at (room way nodes) < walk_left c.args.self.now.at by) (λ _. Unit {0})) (sym c.read_pair.ensures.same.1)
    (rw c.in-Pair.is (c.read_pair.ensures.nearer by deep))

pub returns-in-Head-clause-turn : goal.returns-in-Head-clause-turn
returns-in-Head-clause-turn c d h run r =
    let m = c.args.self.now in
    let found = c.unwrap_or-found.result in
    let w = c.in-Head in
    let t = told_at m d h c.args.got found (Head w.above) w.is (λ e. cc) c.unwrap_or-found.ensures r in
    let x : WalkKnows d h m (Head w.above) = subst (WalkKnows d h m) w.is t.known in
    c.read_head-in-Head.ensures.turn d h (stands_by m d h found t x.0) (ap head_of (rw w.is at t.told) ∙ sym c.of-in-Head.ensures)

pub returns-in-More-clause-turn : goal.returns-in-More-clause-turn
returns-in-More-clause-turn c d h run r =
    let m = c.args.self.now in
    let found = c.unwrap_or-found.result in
    let w = c.in-More in
    let t = told_at m d h c.args.got found (More w.head) w.is (λ e. cc) c.unwrap_or-found.ensures r in
    turn_more d h m c.load_key.new.self c.load_key.result w.head found w.is t (subst (λ slot. WalkAsks m c.load_key.new.self c.load_key.result (Pair w.head found slot) (walk_step m (Pair w.head found slot))) c.first_slot.ensures c.load_key.ensures)

pub returns-in-Pair-clause-turn : goal.returns-in-Pair-clause-turn
returns-in-Pair-clause-turn c d h run r =
    let m = c.args.self.now in
    let found = c.unwrap_or-found.result in
    let w = c.in-Pair in
    let t = told_at m d h c.args.got found (Pair w.head w.more w.slot) w.is (λ e. cc) c.unwrap_or-found.ensures r in
    let x : WalkKnows d h m (Pair w.head w.more w.slot) = subst (WalkKnows d h m) w.is t.known in
    c.read_pair.ensures.turn d h (stands_by m d h found t x.0.trail) x.0 x.1 x.2 (rw w.is at t.told)

pub returns-in-Value-clause-turn : goal.returns-in-Value-clause-turn
returns-in-Value-clause-turn c d h run r =
    let m = c.args.self.now in
    let found = c.unwrap_or-found.result in
    let w = c.in-Value in
    let t = told_at m d h c.args.got found (Value w.head w.more w.slot w.key) w.is (λ e. cc) c.unwrap_or-found.ensures r in
    turn_value d h m c.load_settled-in-Value.new.self c.load_settled-in-Value.result w.head w.more w.slot w.key found w.is t c.load_settled-in-Value.ensures
