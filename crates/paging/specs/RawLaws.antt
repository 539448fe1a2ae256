-- The laws of the scheme of RAWDATA.
use Rattle.std.specs.Prelude.{◌≡◌, ℕ, ◌+◌, ◌*◌, ◌/◌, ◌%◌, ◌<◌, ◌≤◌, cond, List, [], ◌∷◌, ◌++◌, length, take, ◌≢◌, nat_lt, refl}
use Rattle.std.proofs.Common.{sym, ◌∙◌, arith}
use Rattle.std.proofs.lemmas.Bool.Decides.{nat_tests}
use Rattle.std.proofs.lemmas.Bool.{cond-false, le-ltb}
use Rattle.packet.specs.Bytes.{AreBytes}
use Rattle.paging.specs.declared.header.Header.{Header}
use Rattle.paging.specs.Schemes.{Head, reads, too_short, Within, Laws}
use Rattle.paging.specs.RawDatas.{raw_data, paged}

-- a key, a page and a total in order are read as a header
paged_back : (k p t : ℕ) → 1 ≤ p → p ≤ t → paged k p t ≡ reads (record { key = k; page = p; total = t })
paged_back k p t h i = grind (arith, nat_tests)

-- the numbers of a header that was read
numbers : (a p t : ℕ) (h : Header) → paged a p t ≡ reads h → (a ≡ h.key) × (p ≡ h.page) × (t ≡ h.total) × (1 ≤ p) × (p ≤ t)
numbers a p t h e = grind (arith, nat_tests)

-- numbers that were read are never too short
never_short : (a p t : ℕ) → paged a p t ≢ too_short
never_short a p t e = grind (arith, nat_tests)

-- data as long as a header is not too short
past_short : (d : List ℕ) (x : Head) → 4 ≤ length d → cond (nat_lt (length d) 4) too_short x ≡ x
past_short d x h = cond-false _ _ _ (le-ltb _ _ h)

back : (h : Header) (rest : List ℕ) → Within raw_data h → raw_data.read (raw_data.write h ++ rest) ≡ reads h
back h rest w =
    let k : h.key / 65536 * 65536 + h.key / 256 % 256 * 256 + h.key % 256 ≡ h.key = omega arith in
    let p : (h.page * 16 + h.total) / 16 ≡ h.page = omega arith in
    let t : (h.page * 16 + h.total) % 16 ≡ h.total = omega arith in
    past_short (raw_data.write h ++ rest) _ (omega arith) ∙ rw (k, p, t) (paged_back h.key h.page h.total w.1 w.2)

forth : (d : List ℕ) (h : Header) → AreBytes d → raw_data.read d ≡ reads h → Within raw_data h × (raw_data.write h ≡ take 4 d) × (4 ≤ length d)
forth [] h b e = cc
forth (a ∷ []) h b e = cc
forth (a ∷ p ∷ []) h b e = cc
forth (a ∷ p ∷ r ∷ []) h b e = cc
forth (a ∷ p ∷ r ∷ f ∷ d) h b e =
    let n = numbers (a * 65536 + r * 256 + f) (p / 16) (p % 16) h (sym (past_short (a ∷ p ∷ r ∷ f ∷ d) _ (omega arith)) ∙ e) in
    let ba : a < 256 = b.0 in
    let bp : p < 256 = b.1.0 in
    let br : r < 256 = b.1.1.0 in
    let bf : f < 256 = b.1.1.1.0 in
    let ea : h.key / 65536 ≡ a = omega arith in
    let ep : h.page * 16 + h.total ≡ p = omega arith in
    let er : h.key / 256 % 256 ≡ r = omega arith in
    let ef : h.key % 256 ≡ f = omega arith in
    ((omega arith, omega arith, omega arith, omega arith), cc, omega arith)

bytes : (h : Header) → Within raw_data h → AreBytes (raw_data.write h) × (length (raw_data.write h) ≡ 4)
bytes h w = ((omega (arith, w.0), (omega (arith, w.2, w.3), (omega arith, (omega arith, tt)))), refl)

short : (d : List ℕ) → (length d < 4 → raw_data.read d ≡ too_short) × (raw_data.read d ≡ too_short → length d < 4)
short d = ((λ h. grind (arith, nat_tests)), (λ e. grind (arith, nat_tests)))

pub lawful : Laws raw_data
lawful = record {
  back = back;
  forth = forth;
  short = short;
  bytes = bytes;
  fits = omega arith;
  least = (omega arith, omega arith, omega arith);
  most = (omega arith, omega arith, omega arith);
}
