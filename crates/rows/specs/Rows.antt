-- A board as it is printed: a row for each fix, the best one first.
use Rattle.std.specs.Prelude.{ℕ, ◌+◌, ◌-◌, ◌/◌, ◌%◌, List, [], ◌∷◌, ◌++◌, length, replicate, decimal}
use Rattle.std.specs.Fmt.{signed_decimal}
use Rattle.fixes.specs.declared.fix.Fix.{Fix}
use Rattle.fixes.specs.Thousandths.{thousandths_of}
use Rattle.rows.specs.declared.Row.{Row}

-- the rank of a fix, the reply number in its key, its time, its satellites and the thousandths of its PDOP
abbrev pub row_of : ℕ → Fix → Row
row_of rank fix = record { rank = rank; reply = fix.key / 256 % 256; time = fix.time; satellites = fix.satellites; pdop = thousandths_of fix.pdop }

-- spaces (byte 32) before a text, up to a width
abbrev pub column : ℕ → List ℕ → List ℕ
column width text = replicate (width - length text) 32 ++ text

-- right-aligned columns
abbrev pub row_columns : Row → List ℕ
row_columns row = column 4 (decimal row.rank) ++ column 4 (decimal row.reply) ++ column 11 (decimal row.time) ++ column 4 (decimal row.satellites) ++ column 8 (signed_decimal row.pdop)

-- the columns, and a newline (byte 10)
abbrev pub row_text : Row → List ℕ
row_text row = row_columns row ++ (10 ∷ [])

-- the rows of fixes, ranked from a first rank on
abbrev pub rows_from : ℕ → List Fix → List ℕ
rows_from rank [] = []
rows_from rank (fix ∷ rest) = row_text (row_of rank fix) ++ rows_from (rank + 1) rest

abbrev pub board_text : List Fix → List ℕ
board_text board = rows_from 1 board
