-- How a header is written.
use Rattle.std.specs.Prelude.{ℕ, Bool, cond, ◌&&◌, List, ◌++◌, length, drop, nat_le, nat_lt}
use Rattle.paging.specs.declared.header.Header.{Header}
use Rattle.paging.specs.Schemes.{Scheme}

-- the header's numbers are within the scheme's limits, and it has room in so many bytes
abbrev pub header_fits : Scheme → Header → ℕ → Bool
header_fits s h room = nat_lt h.key s.keys && (nat_le 1 h.page && (nat_le h.page h.total && (nat_le h.total s.pages && nat_le s.header room)))

-- the header at the start of the bytes where it fits, else the bytes as they were
abbrev pub headed : Scheme → Header → List ℕ → List ℕ
headed s h out = cond (header_fits s h (length out)) (s.write h ++ drop s.header out) out
