-- The number that bits stand for, by its sign and its size in units of the smallest positive one.
use Rattle.std.proofs.Common.{◌≡◌, ℕ, zero, suc, ◌+◌, ◌*◌, ◌/◌, ◌%◌, ◌^◌, ◌<◌, ◌≤◌, Bool, false, cond, eqb, sym, refl, ap, ◌∙◌, subst, inl, inr, mod-lt, div-add-mod', mul-one, arith, lit<, pow_pos}
use lib.Ieee.{nan, inf, binary64, odd, of_fields, of_bits}
use lib.Ieee.Exact.{HasValue, odd_sign}
use Rattle.std.proofs.lemmas.Bool.{cases_eq, eq-eqb, ne_eqb, ltb-false, cond-true, cond-false}
use Rattle.fixes.specs.Keys.{size, not_a_number, negative}
use Rattle.fixes.specs.Values.{value}
use Rattle.fixes.proofs.Weights.{weight, weigh, weight_lt, weigh_lt}
use Rattle.fixes.proofs.Standing.{Stands, stands_from_value}

-- the size of an infinity, above all numbers
unfoldable pub top : ℕ
unfolding weight
top = weight 2047 0

-- the value's denominator
unfoldable pub unit : ℕ
unit = 2 ^ 1074

pub unit_pos : 0 < unit
unfolding unit
unit_pos = pow_pos 1074

fields_stand : (s : Bool) (x t : ℕ) → x ≤ 2047 → t < 2 ^ 52 → (x ≡ 2047 → t ≡ 0) → Stands unit top (of_fields binary64 s x t) s (weight x t)
unfolding of_fields weight unit top
fields_stand s zero t X T Z =
    stands_from_value unit top (odd 53 s t 0 1074) s t (weight_lt 0 t 2047 0 T (omega arith)) (subst (λ u. HasValue (odd 53 s t 0 1074) s u unit) (mul-one t) (odd_sign 53 s t 0 1074))
fields_stand s (suc k) t X T Z = elim (cases_eq (suc k) 2047) [
  | inl e ↦
      let none = Z e in
      let is : cond (eqb (suc k) 2047) (cond (eqb t 0) (inf s) nan) (odd 53 s (2 ^ 52 + t) k 1074) ≡ inf s =
      cond-true (eqb (suc k) 2047) _ _ (eq-eqb (suc k) 2047 e) ∙ cond-true (eqb t 0) _ _ (eq-eqb t 0 none) in
      subst (λ x. Stands unit top x s (weight (suc k) t)) (sym is) (refl, ap (λ x. weight x t) e ∙ ap (weight 2047) none)
  | inr ne ↦
      let is : cond (eqb (suc k) 2047) (cond (eqb t 0) (inf s) nan) (odd 53 s (2 ^ 52 + t) k 1074) ≡ odd 53 s (2 ^ 52 + t) k 1074 =
      cond-false (eqb (suc k) 2047) _ _ (ne_eqb (suc k) 2047 ne) in
      subst (λ x. Stands unit top x s (weight (suc k) t)) (sym is)
      (stands_from_value unit top (odd 53 s (2 ^ 52 + t) k 1074) s (weight (suc k) t) (weight_lt (suc k) t 2047 0 T (omega arith)) (odd_sign 53 s (2 ^ 52 + t) k 1074))
]

pub bits_stand : (b : ℕ) → not_a_number b ≡ false → Stands unit top (value b) (negative b) (weigh (size b))
unfolding of_bits weigh
bits_stand b h =
    let split = div-add-mod' (size b) (2 ^ 52) in
    let low : size b % 2 ^ 52 < 2 ^ 52 = mod-lt (size b) (pow_pos 52) in
    let at_most = ltb-false 0x7FF0_0000_0000_0000 (size b) h in
    let same : size b % 2 ^ 52 ≡ b % 2 ^ 52 = omega arith in
    subst (λ t. Stands unit top (of_fields binary64 (negative b) (size b / 2 ^ 52) t) (negative b) (weight (size b / 2 ^ 52) (size b % 2 ^ 52))) same
    (fields_stand (negative b) (size b / 2 ^ 52) (size b % 2 ^ 52) (omega arith) low (λ e. omega arith))

pub top_pos : 0 < top
unfolding weight top
top_pos = weight_lt 0 0 2047 0 (lit< tt) (lit< tt)

-- the bits of 1,000
pub weigh_thousand : weigh 0x408f_4000_0000_0000 ≡ 1000 * unit
unfolding weigh unit
weigh_thousand = refl

pub thousand_below_top : 1000 * unit < top
unfolding weigh top
thousand_below_top = subst (λ n. n < top) weigh_thousand (weigh_lt 0x408f_4000_0000_0000 0x7FF0_0000_0000_0000 (lit< tt))
