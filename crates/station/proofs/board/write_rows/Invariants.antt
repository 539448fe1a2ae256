use Rattle.std.proofs.Common.{◌≡◌, ◌≤◌, ◌++◌, map, length, take, drop}
use Rattle.link.specs.Views.{state_of}
use Rattle.station.specs.Boards.{row_of}
use Rattle.station.proofs.board.write_rows.Given as goal

-- so many rows are written, and the others are as before
abbrev pub invariant-loop-count : goal.invariant-loop-count
invariant-loop-count l = record {
  within : l.count ≤ length (state_of l.link).board;
  rows : l.rows ≡ map row_of (take l.count (state_of l.link).board) ++ drop l.count l.initial.rows;
}
