-- How many pages a report has, and how long they are.
use Rattle.std.proofs.Common.{◌≡◌, ℕ, zero, max, suc, ◌+◌, ◌-◌, ◌*◌, ◌/◌, ◌<◌, ◌≤◌, min, List, [], ◌∷◌, ◌++◌, length, drop, sym, refl, ap, ◌∙◌, append_assoc, append-nil, add-zero, mul-le-mul_right, suc-mul, lt_of_mul-lt-mul_right, mul-pos, zero-add, zero-mul, div-mul-le_self, arith}
use Rattle.std.specs.Int.{div_ceil}
use native.Mathlib.Nat.{lt-div-mul-add}
use Rattle.std.proofs.Math.Nat.{zero-div}
use Rattle.std.proofs.lemmas.Grind.{div_ceil_times}
use Rattle.std.proofs.lemmas.List.{length-append, length-take, length-drop}
use Rattle.packet.specs.Packets.{Packet, frame, frames}
use Rattle.packet.proofs.Fronts.{length_frame}
use Rattle.paging.specs.Schemes.{Scheme, Within, Laws}
use Rattle.writing.specs.Writes.{body_size, page_count, part_of, page_of, pages_from, written}

frames_append : (ps qs : List Packet) → frames (ps ++ qs) ≡ frames ps ++ frames qs
frames_append [] qs = refl
frames_append (p ∷ ps) qs = ap (λ l. frame p ++ l) (frames_append ps qs) ∙ sym (append_assoc (frame p) (frames ps) (frames qs))

-- one page more
module _ (s : Scheme) (key total : ℕ) (report : List ℕ) where
  pages_push : (n k : ℕ) → pages_from s key total report n (suc k) ≡ pages_from s key total report n k ++ (page_of s key total report (n + k) ∷ [])
  pages_push n zero = ap (λ i. page_of s key total report i ∷ []) (sym (add-zero n))
  pages_push n (suc k) =
      let e : n + 1 + k ≡ n + suc k = omega arith in
      ap (λ l. page_of s key total report n ∷ l) (pages_push (n + 1) k ∙ ap (λ i. pages_from s key total report (n + 1) k ++ (page_of s key total report i ∷ [])) e)

  pub frames_push : (k : ℕ) → frames (pages_from s key total report 0 (suc k)) ≡ frames (pages_from s key total report 0 k) ++ frame (page_of s key total report k)
  frames_push k =
      ap frames (pages_push 0 k ∙ ap (λ i. pages_from s key total report 0 k ++ (page_of s key total report i ∷ [])) (zero-add k))
      ∙ frames_append (pages_from s key total report 0 k) (page_of s key total report k ∷ [])
      ∙ ap (λ l. frames (pages_from s key total report 0 k) ++ l) (append-nil (frame (page_of s key total report k)))

-- a report of n bytes: full pages, and a last one
module _ (s : Scheme) (laws : Laws s) (n : ℕ) where
  abbrev full : ℕ
  full = (n - 1) / body_size s

  pub some_body : 0 < body_size s
  some_body = omega (arith, laws.most.0)

  pub start_below : 1 ≤ n → (page_count s n - 1) * body_size s < n
  start_below h = let e : full + 1 - 1 ≡ full = omega arith in rw e (omega (arith, div-mul-le_self (n - 1) (body_size s)))

  pub end_last : n ≤ page_count s n * body_size s
  end_last = let d = lt-div-mul-add {a = n - 1} some_body in omega (arith, suc-mul full (body_size s))

  pub few_pages : n ≤ s.pages * body_size s → page_count s n ≤ s.pages
  few_pages h =
      let d = div-mul-le_self (n - 1) (body_size s) in
      let p : 0 < s.pages * body_size s = mul-pos (omega (arith, laws.least.1)) some_body in
      let l : full * body_size s < s.pages * body_size s = omega arith in
      let m = lt_of_mul-lt-mul_right (body_size s) l in
      omega arith

  pub full_page : (k : ℕ) → k < full → k * body_size s + body_size s ≤ n
  full_page k h =
      let m : suc k * body_size s ≤ full * body_size s = mul-le-mul_right (body_size s) h in
      omega (arith, div-mul-le_self (n - 1) (body_size s), suc-mul k (body_size s))

-- rounded up, and at least one
pub pages_are : (n b : ℕ) → 0 < b → max (div_ceil n b) 1 ≡ (n - 1) / b + 1
pages_are zero b some = let high : div_ceil 0 b < 1 = lt_of_mul-lt-mul_right b (omega (arith, div_ceil_times 0 b some, suc-mul 0 b, zero-mul b)) in omega (arith, zero-div b)
pages_are (suc n) b some =
    let t = div_ceil_times (suc n) b some in
    let d = lt-div-mul-add {a = n} some in
    let e : suc n - 1 ≡ n = omega arith in
    let low : n / b < div_ceil (suc n) b = lt_of_mul-lt-mul_right b (omega (arith, div-mul-le_self n b)) in
    let high : div_ceil (suc n) b < suc (suc (n / b)) = lt_of_mul-lt-mul_right b (omega (arith, suc-mul (n / b) b, suc-mul (suc (n / b)) b)) in
    rw e (omega arith)

-- a page's part of the report
pub length_part : (s : Scheme) (report : List ℕ) (k : ℕ) → length (part_of s report k) ≡ min (body_size s) (length report - k * body_size s)
length_part s report k = omega (arith, length-take (body_size s) (drop (k * body_size s) report), length-drop (k * body_size s) report)

-- the pages of a report that is not too long, with a key below the limit
module _ (s : Scheme) (laws : Laws s) (key : ℕ) (report : List ℕ) (low : key < s.keys) (short : length report ≤ s.pages * body_size s)
    (total : ℕ) (is : total ≡ page_count s (length report)) where
  abbrev page : ℕ → Packet
  page k = page_of s key total report k

  abbrev to : ℕ → List ℕ
  to k = frames (pages_from s key total report 0 k)

  pub within : (k : ℕ) → k < total → Within s (record { key = key; page = k + 1; total = total })
  within k h = (low, omega arith, omega arith, omega (arith, few_pages s laws (length report) short))

  pub length_content : (k : ℕ) → k < total → length (page k).content ≡ s.header + length (part_of s report k)
  length_content k h = omega (arith, length-append (s.write (record { key = key; page = k + 1; total = total })) (part_of s report k), (laws.bytes _ (within k h)).1)

  pub small_content : (k : ℕ) → k < total → length (page k).content ≤ 255
  small_content k h = omega (arith, length_content k h, length_part s report k, laws.most.0)

  -- beside its part of the report, a page has its header and the six bytes of its packet
  length_to : (k : ℕ) → k ≤ total → length (to k) ≡ min (k * body_size s) (length report) + k * (s.header + 6)
  length_to zero h = omega (arith, zero-mul (body_size s), zero-mul (s.header + 6))
  length_to (suc k) h =
      omega (arith, ap length (frames_push s key total report k), length-append (to k) (frame (page k)), length_to k (omega arith), length_frame (page k), length_content k h, length_part s report k, suc-mul k (body_size s), suc-mul k (s.header + 6))

  all_pages : to total ≡ written s key report
  all_pages = rw is refl

  pub length_written : length (written s key report) ≡ length report + total * (s.header + 6)
  length_written =
      let e : length report ≤ total * body_size s = rw is (end_last s laws (length report)) in
      omega (arith, ap length all_pages, length_to total (omega arith))

  -- each page ends where the last one ends, or before
  pub page_room : (k : ℕ) → k < total → length (to k) + (length (page k).content + 6) ≤ length (written s key report)
  page_room k h =
      let m : suc k * (s.header + 6) ≤ total * (s.header + 6) = mul-le-mul_right (s.header + 6) h in
      omega (arith, length_written, length_to (suc k) h, ap length (frames_push s key total report k), length-append (to k) (frame (page k)), length_frame (page k))
