-- What stands at the front of a stream: bytes behind it change nothing, a packet stands there byte for byte, and a frame reads back.
use Rattle.std.proofs.Common.{◌≡◌, ℕ, zero, suc, ◌+◌, ◌<◌, ◌≤◌, eqb, ltb, List, [], ◌∷◌, ◌++◌, length, get_or, take, drop, sym, refl, ap, ◌∙◌, subst, append_assoc, arith, length-append, length-drop}
use native.Mathlib.Numerals.{add-four, add_five, add_six}
use Rattle.std.proofs.lemmas.List.{get_or_append_left, get_or-append-add, take-append-le, drop-append-le, take_at, length-take-le}
use Rattle.std.proofs.lemmas.Bool.{cond_both, ltb-false, le-ltb, eqb-true, eq-eqb}
use Rattle.packet.specs.Bytes.{AreBytes}
use Rattle.packet.specs.Packets.{Packet, frame, checksum_of, claimed, parsed, Front, short, no_end, bad_sum, lawful, checked_end, front}
use Rattle.packet.proofs.Bytes.{bytes_take}

-- the size that the stream's front claims is there
abbrev pub Whole : List ℕ → Type 0
Whole u = claimed u ≤ length u

pub front_full : (u : List ℕ) → Whole u → front u ≡ checked_end u
front_full u w = rw (le-ltb (length u) 4 (omega arith), le-ltb (length u) (claimed u) w)

pub content_size : (u : List ℕ) → Whole u → length (parsed u).content ≡ get_or u 3 0
content_size u w = length-take-le (get_or u 3 0) (drop 4 u) (simp length-drop (omega arith))

-- ---- bytes behind
module _ (u t : List ℕ) (w : Whole u) where
  at : (k : ℕ) → k < length u → get_or (u ++ t) k 0 ≡ get_or u k 0
  at k h = get_or_append_left u t 0 k h

  pub size_more : get_or (u ++ t) 3 0 ≡ get_or u 3 0
  size_more = at 3 (omega arith)

  pub claimed_more : claimed (u ++ t) ≡ claimed u
  claimed_more = ap (λ n. n + 6) size_more

  content_more : take (get_or u 3 0) (drop 4 (u ++ t)) ≡ take (get_or u 3 0) (drop 4 u)
  content_more =
      let h : get_or u 3 0 ≤ length (drop 4 u) = simp length-drop (omega arith) in
      ap (take (get_or u 3 0)) (drop-append-le 4 u t (omega arith)) ∙ take-append-le (get_or u 3 0) (drop 4 u) t h

  end_more : checked_end (u ++ t) ≡ checked_end u
  end_more = rw (size_more, at (get_or u 3 0 + 5) (omega arith), at (get_or u 3 0 + 4) (omega arith), at 1 (omega arith), at 2 (omega arith), content_more)

  pub front_more : front (u ++ t) ≡ front u
  front_more =
      let more : Whole (u ++ t) = rw (claimed_more, length-append u t) (omega arith) in
      front_full (u ++ t) more ∙ end_more ∙ sym (front_full u w)

-- ---- what stands there
-- all that was claimed lies in the stream, and of a packet its end byte and its sum too
abbrev pub Fits : List ℕ → Front → Type 0
Fits u short = Unit {0}
Fits u no_end = Whole u
Fits u bad_sum = Whole u
Fits u (lawful p) = Whole u × (p ≡ parsed u) × (get_or u (get_or u 3 0 + 5) 0 ≡ 3) × (get_or u (get_or u 3 0 + 4) 0 ≡ checksum_of (parsed u))

pub front_fits : (u : List ℕ) → Fits u (front u)
front_fits u =
    cond_both (ltb (length u) 4) _ _ (Fits u) (λ _. tt) λ _.
    cond_both (ltb (length u) (claimed u)) _ _ (Fits u) (λ _. tt) λ h.
    let w : Whole u = ltb-false (length u) (claimed u) h in
    cond_both (eqb (get_or u (get_or u 3 0 + 5) 0) 3) _ _ (Fits u)
    (λ e. cond_both (eqb (get_or u (get_or u 3 0 + 4) 0) (checksum_of (parsed u))) _ _ (Fits u) (λ s. (w, refl, eqb-true _ _ e, eqb-true _ _ s)) (λ _. w))
    (λ _. w)

-- the packet stands whole at the front of the stream
pub record Stands (w : List ℕ) (p : Packet) : Type 0 where
  pub status : p.status < 256
  pub bytes : AreBytes p.content
  pub small : length p.content ≤ 255
  pub fits : length p.content + 6 ≤ length w
  pub is : take (length p.content + 6) w ≡ frame p

-- the total two bytes behind a content
two_more : (n : ℕ) (xs : List ℕ) → n + 2 ≤ length xs → take (suc (suc n)) xs ≡ take n xs ++ (get_or xs n 0 ∷ get_or xs (suc n) 0 ∷ [])
two_more zero [] h = absurd (omega arith)
two_more zero (x ∷ []) h = absurd (omega arith)
two_more zero (x ∷ y ∷ xs) h = refl
two_more (suc n) [] h = absurd (omega arith)
two_more (suc n) (x ∷ xs) h = ap (λ l. x ∷ l) (two_more n xs (omega arith))

joins : {b₀ b₁ b₂ n m x y z : ℕ} (c : List ℕ) → b₀ ≡ 2 → n ≡ m → x ≡ z → y ≡ 3 → ◌≡◌ {A = List ℕ} (b₀ ∷ b₁ ∷ b₂ ∷ n ∷ (c ++ (x ∷ y ∷ []))) (2 ∷ b₁ ∷ b₂ ∷ m ∷ (c ++ (z ∷ 3 ∷ [])))
joins c e₀ e₁ e₂ e₃ = cc

parsed_stands : (b : ℕ) (u : List ℕ) → AreBytes (b ∷ u) → b ≡ 2 → Fits (b ∷ u) (lawful (parsed (b ∷ u))) → Stands (b ∷ u) (parsed (b ∷ u))
parsed_stands b [] a e f = absurd (omega (arith, f.0))
parsed_stands b (b₁ ∷ []) a e f = absurd (omega (arith, f.0))
parsed_stands b (b₁ ∷ b₂ ∷ []) a e f = absurd (omega (arith, f.0))
parsed_stands b (b₁ ∷ b₂ ∷ n ∷ rest) a e f =
    let w : n + 6 ≤ length (b ∷ b₁ ∷ b₂ ∷ n ∷ rest) = f.0 in
    let len : length (take n rest) ≡ n = length-take-le n rest (omega arith) in
    record {
      status = a.1.0;
      bytes = bytes_take n rest a.1.1.1.1;
      small = omega (arith, a.1.1.1.0);
      fits = rw len w;
      is = ap (λ k. take (k + 6) (b ∷ b₁ ∷ b₂ ∷ n ∷ rest)) len ∙ ap (λ k. take k (b ∷ b₁ ∷ b₂ ∷ n ∷ rest)) (add_six n) ∙ ap (λ l. b ∷ b₁ ∷ b₂ ∷ n ∷ l) (two_more n rest (omega arith)) ∙ joins (take n rest) e (sym len) (rw add-four at f.3) (rw add_five at f.2);
    }

pub front_stands : (b : ℕ) (u : List ℕ) (p : Packet) → AreBytes (b ∷ u) → b ≡ 2 → Fits (b ∷ u) (lawful p) → Stands (b ∷ u) p
front_stands b u p a e f = subst (Stands (b ∷ u)) (sym f.1) (parsed_stands b u a e (f.0, refl, f.2, f.3))

-- ---- a frame reads back
module _ (status type : ℕ) (c : List ℕ) (sum : ℕ) (rest : List ℕ) where
  abbrev laid : List ℕ
  laid = 2 ∷ status ∷ type ∷ length c ∷ (c ++ (sum ∷ 3 ∷ rest))

  laid_end : get_or laid (length c + 5) 0 ≡ 3
  laid_end =
      let e : length c + 5 ≡ suc (suc (suc (suc (length c + 1)))) = omega arith in
      ap (λ k. get_or laid k 0) e ∙ get_or-append-add c (sum ∷ 3 ∷ rest) 1 0

  laid_sum : get_or laid (length c + 4) 0 ≡ sum
  laid_sum =
      let e : length c + 4 ≡ suc (suc (suc (suc (length c + 0)))) = omega arith in
      ap (λ k. get_or laid k 0) e ∙ get_or-append-add c (sum ∷ 3 ∷ rest) 0 0

  laid_front : sum ≡ checksum_of (record { status = status; type = type; content = c }) → front laid ≡ lawful (record { status = status; type = type; content = c })
  laid_front e =
      let fits : claimed laid ≤ length laid = simp length-append (omega arith) in
      front_full laid fits ∙ rw (laid_end, laid_sum, take_at c (sum ∷ 3 ∷ rest) (length c) refl, eq-eqb sum (checksum_of (record { status = status; type = type; content = c })) e)

pub front_frame : (p : Packet) (rest : List ℕ) → front (frame p ++ rest) ≡ lawful p
front_frame p rest =
    ap (λ x. front (2 ∷ p.status ∷ p.type ∷ length p.content ∷ x)) (append_assoc p.content (checksum_of p ∷ 3 ∷ []) rest) ∙ laid_front p.status p.type p.content (checksum_of p) rest refl

pub length_frame : (p : Packet) → length (frame p) ≡ length p.content + 6
length_frame p = simp length-append (omega arith)
