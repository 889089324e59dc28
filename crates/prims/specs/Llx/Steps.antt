-- How many steps a run of LLX may still ask for.
use Rattle.std.specs.Prelude.{ℕ, ◌+◌}
use Rattle.help.specs.Help.Steps.{help_left}
use Rattle.prims.specs.declared.llx.LlxAt.{LlxAt}
use Rattle.prims.specs.declared.llx.LlxAt.TheVariants.{Start, Marked, Info, State, MarkedAgain, Left, Right, InfoAgain, StateAgain, Help, LastInfo, LastState, LastHelp}

-- how many steps a run of LLX may still ask for at this place: of HELP it runs two at most
abbrev pub llx_left : LlxAt → ℕ
llx_left Start = 54
llx_left Marked = 53
llx_left (Info marked) = 52
llx_left (State marked scx) = 51
llx_left (MarkedAgain marked scx state) = 50
llx_left (Left marked scx) = 49
llx_left (Right marked scx left) = 48
llx_left (InfoAgain marked scx left right) = 47
llx_left (StateAgain marked scx) = 46
llx_left (Help marked help) = 24 + help_left help.at
llx_left LastInfo = 23
llx_left (LastState scx) = 22
llx_left (LastHelp scx help) = help_left help.at
