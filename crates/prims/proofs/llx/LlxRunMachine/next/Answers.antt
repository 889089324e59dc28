use Rattle.std.proofs.Common.{sym, ◌∙◌}
use Rattle.prims.specs.declared.llx.LlxAt.TheVariants.{Marked, Info, State, MarkedAgain, InfoAgain, LastInfo, LastState}
use Rattle.prims.proofs.LlxTurns.{knows, new_help, turn_info, turn_state, turn_mark, turn_read, turn_compare, turn_last, turn_fail, not_zero, is_zero}
use Rattle.prims.proofs.llx.LlxRunMachine.next.Goals as goal

pub returns-in-Marked-clause-turn : goal.returns-in-Marked-clause-turn
returns-in-Marked-clause-turn g c d h run r =
    let k = knows g.S.Shape.allows c.args.self.now d h c.args.got c.unwrap_or-found.result Marked c.in-Marked.is (λ e. cc) c.unwrap_or-found.ensures r in
    turn_info g.S.Shape.allows d h run c.args.self.now c.load_info.new.self c.load_info.result _ c.unwrap_or-found.result k (not_zero c.unwrap_or-found.result) (is_zero c.unwrap_or-found.result) c.load_info.ensures

pub returns-in-Info-clause-turn : goal.returns-in-Info-clause-turn
returns-in-Info-clause-turn g c d h run r =
    let k = knows g.S.Shape.allows c.args.self.now d h c.args.got c.unwrap_or-found.result (Info c.in-Info.marked) c.in-Info.is (λ e. cc) c.unwrap_or-found.ensures r in
    turn_state g.S.Shape.allows d h run c.args.self.now c.load_state.new.self c.load_state.result c.in-Info.marked c.unwrap_or-found.result k c.load_state.ensures

pub returns-in-MarkedAgain-clause-turn : goal.returns-in-MarkedAgain-clause-turn
returns-in-MarkedAgain-clause-turn g c d h run r =
    let k = knows g.S.Shape.allows c.args.self.now d h c.args.got c.unwrap_or-found.result (MarkedAgain c.in-MarkedAgain.marked c.in-MarkedAgain.scx c.in-MarkedAgain.state) c.in-MarkedAgain.is (λ e. cc) c.unwrap_or-found.ensures r in
    turn_read g.S.Shape.allows d h run c.args.self.now c.read_fields.new.self c.read_fields.result c.in-MarkedAgain.marked c.in-MarkedAgain.scx c.in-MarkedAgain.state c.unwrap_or-found.result _ k (is_zero c.unwrap_or-found.result) (not_zero c.unwrap_or-found.result) c.read_fields.ensures.turn

pub returns-in-InfoAgain-clause-turn : goal.returns-in-InfoAgain-clause-turn
returns-in-InfoAgain-clause-turn g c d h run r =
    let k = knows g.S.Shape.allows c.args.self.now d h c.args.got c.unwrap_or-found.result (InfoAgain c.in-InfoAgain.marked c.in-InfoAgain.scx c.in-InfoAgain.left c.in-InfoAgain.right) c.in-InfoAgain.is (λ e. cc) c.unwrap_or-found.ensures r in
    turn_compare g.S.Shape.allows d h run c.args.self.now c.compare_info.new.self c.compare_info.result c.in-InfoAgain.marked c.in-InfoAgain.scx c.in-InfoAgain.left c.in-InfoAgain.right c.unwrap_or-found.result k c.compare_info.ensures.turn

pub returns-in-LastInfo-clause-turn : goal.returns-in-LastInfo-clause-turn
returns-in-LastInfo-clause-turn g c d h run r =
    let k = knows g.S.Shape.allows c.args.self.now d h c.args.got c.unwrap_or-found.result LastInfo c.in-LastInfo.is (λ e. cc) c.unwrap_or-found.ensures r in
    turn_last g.S.Shape.allows d h run c.args.self.now c.load_state-in-LastInfo.new.self c.load_state-in-LastInfo.result c.unwrap_or-found.result k c.load_state-in-LastInfo.ensures

pub returns-then-found-eq-IN_PROGRESS-clause-turn : goal.returns-then-found-eq-IN_PROGRESS-clause-turn
returns-then-found-eq-IN_PROGRESS-clause-turn g c d h run r =
    let k = knows g.S.Shape.allows c.args.self.now d h c.args.got c.unwrap_or-found.result (LastState c.in-LastState.scx) c.in-LastState.is (λ e. cc) c.unwrap_or-found.ensures r in
    c.help_last.ensures.turn d h (new_help g.S.Shape.allows d h run c.args.self.now.node.0 c.in-LastState.scx c.new.result k.opened k.since k.quiet k.known.held (k.told ∙ c.if-found-eq-IN_PROGRESS.true) c.new.ensures.scx c.new.ensures.start) k.known c.new.ensures.scx

pub returns-in-State-clause-turn : goal.returns-in-State-clause-turn
returns-in-State-clause-turn g c d h run r =
    let k = knows g.S.Shape.allows c.args.self.now d h c.args.got c.unwrap_or-found.result (State c.in-State.marked c.in-State.scx) c.in-State.is (λ e. cc) c.unwrap_or-found.ensures r in
    turn_mark g.S.Shape.allows d h run c.args.self.now c.load_mark_again.new.self c.load_mark_again.result c.in-State.marked c.in-State.scx c.unwrap_or-found.result k c.load_mark_again.ensures

pub returns-else-found-eq-IN_PROGRESS-clause-turn : goal.returns-else-found-eq-IN_PROGRESS-clause-turn
returns-else-found-eq-IN_PROGRESS-clause-turn g c d h run r =
    let k = knows g.S.Shape.allows c.args.self.now d h c.args.got c.unwrap_or-found.result (LastState c.in-LastState.scx) c.in-LastState.is (λ e. cc) c.unwrap_or-found.ensures r in
    turn_fail g.S.Shape.allows d h run c.args.self.now c.fail.result c.in-LastState.scx k.quiet k.known (λ z. c.if-found-eq-IN_PROGRESS.false (sym k.told ∙ z)) c.fail.ensures
