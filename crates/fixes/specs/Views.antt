-- The fixes on a board in rank order, the board after one more, and the fix at a rank.
use Rattle.std.specs.Prelude.{ℕ, ◌-◌, cond, ◌&&◌, List, length, take, Some, None, Option, nat_le, slice_index_or}
use Rattle.ranking.specs.Boards.{entered}
use Rattle.fixes.specs.declared.fix.Fix.{Fix}
use Rattle.fixes.specs.declared.board.FixBoard.{FixBoard}
use Rattle.fixes.specs.Ranking.{leads}

abbrev pub board_of : FixBoard → List Fix
board_of b = take b.count b.places

-- a fix enters a board of 32 places by its rank
abbrev pub enter : Fix → List Fix → List Fix
enter fix board = entered leads 32 fix board

-- what is read past the end of a list of fixes
abbrev pub no_fix : Fix
no_fix = record { key = 0; time = 0; pdop = 0; satellites = 0 }

-- the fix at a rank counted from 1
abbrev pub at_rank : ℕ → List Fix → Option Fix
at_rank rank board = cond (nat_le 1 rank && nat_le rank (length board)) (Some (slice_index_or board (rank - 1) no_fix)) None
