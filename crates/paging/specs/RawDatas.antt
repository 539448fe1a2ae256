-- The scheme of RAWDATA: record type, paging byte, reply number, interpretation flags.
use Rattle.std.specs.Prelude.{ℕ, ◌+◌, ◌*◌, ◌/◌, ◌%◌, cond, ◌&&◌, [], ◌∷◌, length, Some, None, ◌==◌, nat_le, nat_lt, slice_index}
use Rattle.records.specs.declared.kind.Kind.TheVariants.{Position, Survey}
use Rattle.paging.specs.Schemes.{Scheme, Head, reads, too_short, unfit}

-- the page runs from 1 to the total
abbrev pub paged : ℕ → ℕ → ℕ → Head
paged key page total = cond (nat_le 1 page && nat_le page total) (reads (record { key = key; page = page; total = total })) unfit

-- the paging byte has the page in its high four bits and the total in its low four
abbrev pub raw_data : Scheme
raw_data = record {
  type = 0x57;
  header = 4;
  pages = 15;
  keys = 16777216;
  place = 1;
  read = λ d. cond (nat_lt (length d) 4) too_short (paged (slice_index d 0 * 65536 + slice_index d 2 * 256 + slice_index d 3) (slice_index d 1 / 16) (slice_index d 1 % 16));
  write = λ h. (h.key / 65536) ∷ (h.page * 16 + h.total) ∷ (h.key / 256 % 256) ∷ (h.key % 256) ∷ [];
  means = λ k. cond (k / 65536 == 1) (Some Position) (cond (k / 65536 == 0 && k % 2 == 1) (Some Survey) None);
}
