-- The pages of a report hold it.
use Rattle.std.specs.Prelude.{◌≡◌, ℕ, zero, suc, ◌+◌, ◌-◌, ◌<◌, ◌≤◌, List, [], ◌∷◌, length}
use Rattle.packet.specs.Bytes.{concat}
use Rattle.paging.specs.Schemes.{Scheme, Laws}
use Rattle.writing.specs.Writes.{body_size, page_count, part_of}

-- what k pages hold of the report, from page n + 1 on
abbrev pub parts_from : Scheme → List ℕ → ℕ → ℕ → List (List ℕ)
parts_from s report n zero = []
parts_from s report n (suc k) = part_of s report n ∷ parts_from s report (n + 1) k

-- joined, the pages' parts are the report; each before the last is full; the last one is empty only if the report is
pub record Holds (s : Scheme) (report : List ℕ) : Type 0 where
  pub whole : concat (parts_from s report 0 (page_count s (length report))) ≡ report
  pub full : (k : ℕ) → k + 1 < page_count s (length report) → length (part_of s report k) ≡ body_size s
  pub some : 1 ≤ length report → 1 ≤ length (part_of s report (page_count s (length report) - 1))

-- so it is with every scheme that has its laws
abbrev pub PagesHoldTheReport : Type 0
PagesHoldTheReport = (s : Scheme) → Laws s → (report : List ℕ) → Holds s report
