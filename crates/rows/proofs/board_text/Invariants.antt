use Rattle.std.proofs.Common.{◌≡◌, ◌-◌, ◌++◌, drop, string_bytes}
use Rattle.link.specs.Views.{state_of}
use Rattle.rows.specs.Rows.{rows_from, board_text}
use Rattle.rows.proofs.board_text.Given as goal

-- the text and the rows that are left are the whole
abbrev pub invariant-loop-rank : goal.invariant-loop-rank
invariant-loop-rank g l = string_bytes l.text ++ rows_from l.rank (drop (l.rank - 1) (state_of l.link).board) ≡ board_text (state_of l.link).board
