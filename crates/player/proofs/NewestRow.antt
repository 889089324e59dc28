-- A history's newest row, and the history before it.
use Rattle.histories.specs.Common.{Row, History, Opened, ◌⊳◌}

-- a history without its newest row
abbrev pub older : History → History
older (Opened o) = Opened o
older (r ⊳ h) = h

-- that row, or another where there is none
abbrev pub newest_row : Row → History → Row
newest_row r (Opened o) = r
newest_row r (q ⊳ h) = q
