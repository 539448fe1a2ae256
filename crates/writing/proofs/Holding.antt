-- The pages of a report hold it.
use Rattle.std.proofs.Common.{◌≡◌, ℕ, zero, suc, ◌+◌, ◌-◌, ◌*◌, ◌<◌, ◌≤◌, List, ◌++◌, length, take, drop, sym, ap, ◌∙◌, suc-mul, zero-mul, add-one, arith}
use Rattle.std.proofs.lemmas.List.{take-append-drop, take-take, drop-take, drop-drop, take_all}
use Rattle.packet.specs.Bytes.{concat}
use Rattle.paging.specs.Schemes.{Scheme, Laws}
use Rattle.writing.specs.Writes.{body_size, page_count, part_of}
use Rattle.writing.specs.Cuts.{parts_from, PagesHoldTheReport}
use Rattle.writing.proofs.Cutting.{end_last, start_below, full_page, length_part}

-- two parts, one behind the other
take_step : (n m : ℕ) (xs : List ℕ) → take n xs ++ take m (drop n xs) ≡ take (n + m) xs
take_step n m xs =
    let a : take n (take (n + m) xs) ≡ take n xs = take-take n (n + m) xs (omega arith) in
    let b : drop n (take (n + m) xs) ≡ take m (drop n xs) = drop-take n m xs in
    cc (take-append-drop n (take (n + m) xs))

module _ (s : Scheme) (report : List ℕ) where
  joined : (n k : ℕ) → concat (parts_from s report n k) ≡ take (k * body_size s) (drop (n * body_size s) report)
  joined n zero = ap (λ i. take i (drop (n * body_size s) report)) (sym (zero-mul (body_size s)))
  joined n (suc k) =
      let size : ℕ = body_size s in
      let on : n * size + size ≡ (n + 1) * size = sym (suc-mul n size) ∙ ap (λ i. i * size) (sym (add-one n)) in
      let behind : drop ((n + 1) * size) report ≡ drop size (drop (n * size) report) = ap (λ i. drop i report) (sym on) ∙ sym (drop-drop size (n * size) report) in
      let all : size + k * size ≡ suc k * size = omega (arith, suc-mul k size) in
      ap (λ l. part_of s report n ++ l) (joined (n + 1) k ∙ ap (take (k * size)) behind)
      ∙ take_step size (k * size) (drop (n * size) report)
      ∙ ap (λ i. take i (drop (n * size) report)) all

module _ (s : Scheme) (laws : Laws s) (report : List ℕ) where
  abbrev pages : ℕ
  pages = page_count s (length report)

  whole : concat (parts_from s report 0 pages) ≡ report
  whole =
      joined s report 0 pages
      ∙ ap (λ i. take (pages * body_size s) (drop i report)) (zero-mul (body_size s))
      ∙ take_all (pages * body_size s) report (end_last s laws (length report))

  full : (k : ℕ) → k + 1 < pages → length (part_of s report k) ≡ body_size s
  full k h = omega (arith, length_part s report k, full_page s laws (length report) k (omega arith))

  some : 1 ≤ length report → 1 ≤ length (part_of s report (pages - 1))
  some h = omega (arith, length_part s report (pages - 1), start_below s laws (length report) h, laws.most.0)

pub pages_hold : PagesHoldTheReport
pages_hold s laws report = record { whole = whole s laws report; full = full s laws report; some = some s laws report }
