-- The board of a capture, and its rows as C has them.
use Rattle.std.specs.Prelude.{◌≡◌, ℕ, min, List, ◌++◌, map, length, take, drop}
use Rattle.reading.specs.Readings.{reading}
use Rattle.fixes.specs.declared.fix.Fix.{Fix}
use Rattle.fixes.specs.Views.{enter}
use Rattle.paging.specs.RawDatas.{raw_data}
use Rattle.paging.specs.AppFiles.{app_file}
use Rattle.protocol.specs.Links.{Link, fresh}
use Rattle.protocol.specs.Pulls.{pull}
use Rattle.protocol.specs.Runs.{EndsIdle}
use Rattle.link.specs.Fixing.{fix_of}
use Rattle.station.specs.declared.board.StationFix.{StationFix}

-- the board of a new link that was pulled to idle over the capture
pub record BoardOf (capture : List ℕ) (board : List Fix) : Type 0 where
  pub end : Link
  pub held : ℕ
  pub ends : EndsIdle (pull raw_data app_file reading fix_of enter) fresh capture end held
  pub is : board ≡ end.board

-- a fix as C has it
abbrev pub row_of : Fix → StationFix
row_of f = record { key = f.key; time = f.time; pdop = f.pdop; satellites = f.satellites }

-- the best fixes, as many as there are and as fit, and behind them the rows as they were
abbrev pub rows_of : List Fix → List StationFix → List StationFix
rows_of board rows = map row_of (take (length rows) board) ++ drop (length board) rows

-- the rows have the best fixes of the board of a capture, and so many are used
abbrev pub BestRows : List ℕ → List StationFix → ℕ → List StationFix → Type 0
BestRows capture before count after = (board : List Fix) × BoardOf capture board × (count ≡ min (length board) (length before)) × (after ≡ rows_of board before)
