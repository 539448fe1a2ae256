-- Rows written one by one.
use Rattle.std.proofs.Common.{◌≡◌, ℕ, ◌+◌, ◌<◌, min, List, ◌++◌, map, length, get_or, take, drop, set, ◌∙◌, append_assoc, arith}
use Rattle.std.proofs.lemmas.List.{length-map, length-take-le, take_min, drop_min, drop_more, map_more, set_at}
use Rattle.fixes.specs.declared.fix.Fix.{Fix}
use Rattle.fixes.specs.Views.{no_fix}
use Rattle.station.specs.declared.board.StationFix.{StationFix}
use Rattle.station.specs.Boards.{row_of, rows_of}

-- one row more
pub row_more : (board : List Fix) (rows old : List StationFix) (k : ℕ) (f : Fix) → k < length board → k < length old → f ≡ get_or board k no_fix
    → rows ≡ map row_of (take k board) ++ drop k old → set rows k (row_of f) ≡ map row_of (take (k + 1) board) ++ drop (k + 1) old
row_more board rows old k f h i e is =
    let size : length (map row_of (take k board)) ≡ k = length-map (take k board) row_of ∙ length-take-le k board (omega arith) in
    rw (is, drop_more old k (row_of no_fix) i, set_at, e, map_more row_of board k no_fix h, append_assoc)

-- all that are there, or as many as fit
pub rows_end : (board : List Fix) (rows old : List StationFix) (k : ℕ) → k ≡ min (length board) (length old) → rows ≡ map row_of (take k board) ++ drop k old → rows ≡ rows_of board old
rows_end board rows old k all is =
    let fit : k ≡ min (length old) (length board) = omega arith in
    rw (is, ← take_min (length old) board, ← drop_min (length board) old, ← fit, ← all)
