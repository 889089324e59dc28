-- What is true of the fields of every pass that is away.
use Rattle.histories.specs.Common.{History, Layout, Mode}
use Rattle.std.specs.Prelude.{ℕ}
use Rattle.forest.specs.declared.away.Away.TheInside.{Inside}
use Rattle.forest.specs.PassInvariant.{IsPassWith, seated_at, view_with}
use Rattle.tables.specs.Passes.{PassView}
use Rattle.tables.specs.Traces.{IsSeatedOrAway, layout_at}
use Rattle.forest.specs.UpkeepKept.{ComesBack}

-- the layout of its names, as its first seat knew it
abbrev pub away_layout : {T : Type 0} → Inside T → Layout
away_layout a = layout_at a.birth.value.me.0.passes

-- contracts see of it what they see of the pass
abbrev pub away_view : {T : Type 0} → Inside T → PassView
away_view a = view_with (away_layout a) a.number.0 a.share a.seat a.blamed

-- what holds of every pass holds of it, but that it may be away; and it can come back
pub record IsPassAway (allows : Layout → History → ℕ → Type 0) (mode : Mode) {T : Type 0} (a : Inside T) : Type 0 where
  pub pass : IsPassWith IsSeatedOrAway allows mode (away_layout a) a.number.0 a.first_scx.0 a.share a.seat a.blamed
  pub comes_back : ComesBack a.kept (seated_at (away_layout a) a.number.0 a.seat)
