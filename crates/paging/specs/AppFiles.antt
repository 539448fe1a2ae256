-- The scheme of application files: block number, page index from 0, greatest page index.
use Rattle.std.specs.Prelude.{ℕ, ◌+◌, ◌-◌, cond, ◌&&◌, [], ◌∷◌, length, Some, nat_le, nat_lt, slice_index}
use Rattle.records.specs.declared.kind.Kind.TheVariants.{Application}
use Rattle.paging.specs.Schemes.{Scheme, Head, reads, too_short, unfit}

-- the index runs from 0 to the greatest, which is at most 31
abbrev pub indexed : ℕ → ℕ → ℕ → Head
indexed key index greatest = cond (nat_le index greatest && nat_le greatest 31) (reads (record { key = key; page = index + 1; total = greatest + 1 })) unfit

abbrev pub app_file : Scheme
app_file = record {
  type = 0x64;
  header = 3;
  pages = 32;
  keys = 256;
  place = 2;
  read = λ d. cond (nat_lt (length d) 3) too_short (indexed (slice_index d 0) (slice_index d 1) (slice_index d 2));
  write = λ h. h.key ∷ (h.page - 1) ∷ (h.total - 1) ∷ [];
  means = λ k. Some Application;
}
