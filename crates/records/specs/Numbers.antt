-- Numbers of several bytes, high byte first.
use Rattle.std.specs.Prelude.{ℕ, ◌+◌, ◌*◌, List, ℤ, slice_index}
use Rattle.std.specs.Int.{w16}
use Rattle.std.proofs.Common.{to_z}

-- the signed number of two bytes at a place
abbrev pub signed16 : List ℕ → ℕ → ℤ
signed16 bs at = to_z w16 (slice_index bs at * 256 + slice_index bs (at + 1))

-- the number of four bytes at a place
abbrev pub be32 : List ℕ → ℕ → ℕ
be32 bs at = slice_index bs at * 16777216 + slice_index bs (at + 1) * 65536 + slice_index bs (at + 2) * 256 + slice_index bs (at + 3)

-- the number of eight bytes at a place
abbrev pub be64 : List ℕ → ℕ → ℕ
be64 bs at =
    slice_index bs at * 72057594037927936 + slice_index bs (at + 1) * 281474976710656 + slice_index bs (at + 2) * 1099511627776 + slice_index bs (at + 3) * 4294967296
    + slice_index bs (at + 4) * 16777216 + slice_index bs (at + 5) * 65536 + slice_index bs (at + 6) * 256 + slice_index bs (at + 7)
