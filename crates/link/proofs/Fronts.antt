-- What stands at the front of a stream, seen from its first bytes.
use Rattle.std.proofs.Common.{◌≡◌, ℕ, ◌+◌, ◌-◌, ◌<◌, ◌≤◌, Bool, true, false, cond, eqb, List, length, get_or, take, drop, sym, ap, ◌∙◌, ⊎_elim, arith, length-drop}
use Rattle.std.proofs.lemmas.List.{take_all, take-take, drop-take, get_or-take, length-take-le}
use Rattle.std.proofs.lemmas.Bool.{cond-true, cond-false, lt-ltb, le-ltb, cases_lt}
use Rattle.packet.specs.Packets.{Packet, Front, short, no_end, bad_sum, lawful, front, claimed, parsed, checksum_of, checked_end}

-- a whole packet is checked
pub front_whole : (w : List ℕ) → claimed w ≤ length w → front w ≡ checked_end w
front_whole w h = cond-false _ _ _ (le-ltb (length w) 4 (omega arith)) ∙ cond-false _ _ _ (le-ltb (length w) (claimed w) h)

never_short : (x y : Bool) (p : Packet) → cond x (cond y (lawful p) bad_sum) no_end ≡ short → ⊥
never_short true true p e = let z : ◌≡◌ {A = ℕ} 0 1 = cc in omega arith
never_short true false p e = let z : ◌≡◌ {A = ℕ} 0 1 = cc in omega arith
never_short false y p e = let z : ◌≡◌ {A = ℕ} 0 1 = cc in omega arith

pub short_length : (w : List ℕ) → front w ≡ short → length w < claimed w
short_length w e =
    ⊎_elim (λ h. h) (λ h. absurd (never_short (eqb (get_or w (get_or w 3 0 + 5) 0) 3) (eqb (get_or w (get_or w 3 0 + 4) 0) (checksum_of (parsed w))) (parsed w) (sym (front_whole w h) ∙ e))) (cases_lt (length w) (claimed w))

pub always_short : (w : List ℕ) → length w < claimed w → front w ≡ short
always_short w h =
    ⊎_elim (λ i. cond-true _ _ _ (lt-ltb (length w) 4 i)) (λ i. cond-false _ _ _ (le-ltb (length w) 4 i) ∙ cond-true _ _ _ (lt-ltb (length w) (claimed w) h)) (cases_lt (length w) 4)

abbrev judged : ℕ → ℕ → Packet → Front
judged last sum p = cond (eqb last 3) (cond (eqb sum (checksum_of p)) (lawful p) bad_sum) no_end

-- the first bytes tell, once they are as many as the packet claims
module _ (n : ℕ) (w : List ℕ) (h : claimed w ≤ n) where
  pub size_seen : get_or (take n w) 3 0 ≡ get_or w 3 0
  size_seen = get_or-take n w 3 0 (omega arith)

  content_seen : take (get_or (take n w) 3 0) (drop 4 (take n w)) ≡ take (get_or w 3 0) (drop 4 w)
  content_seen =
      let m : n ≡ 4 + (n - 4) = omega arith in
      ap (λ i. take i (drop 4 (take n w))) size_seen
      ∙ ap (λ i. take (get_or w 3 0) (drop 4 (take i w))) m
      ∙ ap (take (get_or w 3 0)) (drop-take 4 (n - 4) w)
      ∙ take-take (get_or w 3 0) (n - 4) (drop 4 w) (omega arith)

  packet_of : ℕ → ℕ → List ℕ → Packet
  packet_of s t c = record { status = s; type = t; content = c }

  pub parsed_seen : parsed (take n w) ≡ parsed w
  parsed_seen =
      let e : get_or (take n w) 1 0 ≡ get_or w 1 0 = get_or-take n w 1 0 (omega arith) in
      let f : get_or (take n w) 2 0 ≡ get_or w 2 0 = get_or-take n w 2 0 (omega arith) in
      let d = content_seen in
      cc

  pub front_seen : front (take n w) ≡ front w
  front_seen =
      ⊎_elim
      (λ i.
      let len : length (take n w) ≡ n = length-take-le n w (omega arith) in
      let size = size_seen in
      let last : get_or (take n w) (get_or (take n w) 3 0 + 5) 0 ≡ get_or w (get_or w 3 0 + 5) 0 =
      ap (λ i. get_or (take n w) (i + 5) 0) size_seen ∙ get_or-take n w (get_or w 3 0 + 5) 0 (omega arith) in
      let sum : get_or (take n w) (get_or (take n w) 3 0 + 4) 0 ≡ get_or w (get_or w 3 0 + 4) 0 =
      ap (λ i. get_or (take n w) (i + 4) 0) size_seen ∙ get_or-take n w (get_or w 3 0 + 4) 0 (omega arith) in
      front_whole (take n w) (omega arith)
      ∙ ap (λ x. judged x (get_or (take n w) (get_or (take n w) 3 0 + 4) 0) (parsed (take n w))) last
      ∙ ap (λ x. judged (get_or w (get_or w 3 0 + 5) 0) x (parsed (take n w))) sum
      ∙ ap (judged (get_or w (get_or w 3 0 + 5) 0) (get_or w (get_or w 3 0 + 4) 0)) parsed_seen
      ∙ sym (front_whole w (omega arith)))
      (λ i. ap front (take_all n w i))
      (cases_lt n (length w))

-- a lawful packet's size
pub lawful_size : (w : List ℕ) → front w ≡ lawful (parsed w) → length (parsed w).content + 6 ≡ claimed w
lawful_size w e =
    ⊎_elim
    (λ i. let f = always_short w i in let z : ◌≡◌ {A = ℕ} 0 1 = cc in absurd (omega arith))
    (λ i. omega (arith, length-take-le (get_or w 3 0) (drop 4 w) (omega (arith, length-drop 4 w))))
    (cases_lt (length w) (claimed w))
