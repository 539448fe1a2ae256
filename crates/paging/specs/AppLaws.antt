-- The laws of the scheme of application files.
use Rattle.std.specs.Prelude.{◌≡◌, ℕ, ◌+◌, ◌-◌, ◌<◌, ◌≤◌, cond, List, [], ◌∷◌, ◌++◌, length, take, nat_lt, refl}
use Rattle.std.proofs.Common.{sym, ◌∙◌, arith}
use Rattle.std.proofs.lemmas.Bool.Decides.{nat_tests}
use Rattle.std.proofs.lemmas.Bool.{cond-false, le-ltb}
use Rattle.packet.specs.Bytes.{AreBytes}
use Rattle.paging.specs.declared.header.Header.{Header}
use Rattle.paging.specs.Schemes.{Head, reads, too_short, Within, Laws}
use Rattle.paging.specs.AppFiles.{app_file, indexed}

-- a key, an index and a greatest index within the limits are read as a header
indexed_back : (k i g : ℕ) → i ≤ g → g ≤ 31 → indexed k i g ≡ reads (record { key = k; page = i + 1; total = g + 1 })
indexed_back k i g h m = grind (arith, nat_tests)

-- the numbers of a header that was read
numbers : (a i g : ℕ) (h : Header) → indexed a i g ≡ reads h → (a ≡ h.key) × (i + 1 ≡ h.page) × (g + 1 ≡ h.total) × (i ≤ g) × (g ≤ 31)
numbers a i g h e = grind (arith, nat_tests)

-- data as long as a header is not too short
past_short : (d : List ℕ) (x : Head) → 3 ≤ length d → cond (nat_lt (length d) 3) too_short x ≡ x
past_short d x h = cond-false _ _ _ (le-ltb _ _ h)

back : (h : Header) (rest : List ℕ) → Within app_file h → app_file.read (app_file.write h ++ rest) ≡ reads h
back h rest w =
    let p : h.page - 1 + 1 ≡ h.page = omega arith in
    let t : h.total - 1 + 1 ≡ h.total = omega arith in
    past_short (app_file.write h ++ rest) _ (omega arith) ∙ indexed_back h.key (h.page - 1) (h.total - 1) (omega arith) (omega arith) ∙ rw (p, t) refl

forth : (d : List ℕ) (h : Header) → AreBytes d → app_file.read d ≡ reads h → Within app_file h × (app_file.write h ≡ take 3 d) × (3 ≤ length d)
forth [] h b e = cc
forth (a ∷ []) h b e = cc
forth (a ∷ i ∷ []) h b e = cc
forth (a ∷ i ∷ g ∷ d) h b e =
    let n = numbers a i g h (sym (past_short (a ∷ i ∷ g ∷ d) _ (omega arith)) ∙ e) in
    let ba : a < 256 = b.0 in
    let ei : h.page - 1 ≡ i = omega arith in
    let eg : h.total - 1 ≡ g = omega arith in
    ((omega arith, omega arith, omega arith, omega arith), cc, omega arith)

bytes : (h : Header) → Within app_file h → AreBytes (app_file.write h) × (length (app_file.write h) ≡ 3)
bytes h w = ((w.0, (omega (arith, w.2, w.3), (omega (arith, w.3), tt))), refl)

short : (d : List ℕ) → (length d < 3 → app_file.read d ≡ too_short) × (app_file.read d ≡ too_short → length d < 3)
short d = ((λ h. grind (arith, nat_tests)), (λ e. grind (arith, nat_tests)))

pub lawful : Laws app_file
lawful = record {
  back = back;
  forth = forth;
  short = short;
  bytes = bytes;
  fits = omega arith;
  least = (omega arith, omega arith, omega arith);
  most = (omega arith, omega arith, omega arith);
}
