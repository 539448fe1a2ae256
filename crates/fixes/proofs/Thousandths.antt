-- The ways to the thousandths of a DOUBLE, by its bits.
use Rattle.std.proofs.Common.{◌≡◌, ℕ, zero, suc, ◌+◌, ◌-◌, ◌*◌, ◌/◌, ◌%◌, ◌^◌, ◌<◌, ◌≤◌, Bool, true, false, pos, negsuc, sym, refl, ap, ◌∙◌, subst, inl, inr, mul_assoc, arith, lit<, pow_pos, pow_mono, pow-add}
use native.Mathlib.Nat.{div-eq_of_lt}
use lib.Ieee.{Float, nan, inf, fin}
use Rattle.std.proofs.lemmas.Nat.{shr_below}
use Rattle.std.proofs.lemmas.Bool.{cases_Bool, cases_lt, le-ltb, le-leb, lt-leb}
use Rattle.fixes.specs.Keys.{size, not_a_number, negative}
use Rattle.fixes.specs.Values.{value}
use Rattle.fixes.specs.Thousandths.{thousandths_of_fraction, thousandths_of_number, thousandths_of}
use Rattle.fixes.proofs.Weights.{weight, weigh, weigh_lt, weigh_pos, weigh_zero}
use Rattle.fixes.proofs.Standing.{Stands}
use Rattle.fixes.proofs.Fields.{unit, top, unit_pos, bits_stand, weigh_thousand, thousand_below_top}
use Rattle.fixes.proofs.Compared.{nan_is}
use Rattle.fixes.proofs.Exact.{rounded_same, by_fraction, fraction_within, fraction_zero, fraction_below, fraction_beyond, exact}

standing : (x : Float) (s : Bool) (u : ℕ) → Stands unit top x s u → thousandths_of_number x ≡ thousandths_of_fraction s u unit
standing nan s u h = absurd h
standing (inf t) s u h = sym (fraction_beyond s u unit unit_pos (omega (arith, h.1, thousand_below_top)))
standing (fin t m e) s u h = by_fraction (fin t m e) s u unit unit_pos (h.0, h.1)

by_bits : (b : ℕ) → not_a_number b ≡ false → thousandths_of b ≡ thousandths_of_fraction (negative b) (weigh (size b)) unit
by_bits b h = standing (value b) (negative b) (weigh (size b)) (bits_stand b h)

pub minus_zero : thousandths_of 0x8000_0000_0000_0000 ≡ pos 0
minus_zero = by_bits 0x8000_0000_0000_0000 refl ∙ ap (λ u. thousandths_of_fraction true u unit) weigh_zero ∙ fraction_zero true unit unit_pos

-- a weight of a thousand or more
heavy : (m : ℕ) → 0x408f_4000_0000_0000 ≤ m → 1000 * unit ≤ weigh m
heavy m h = elim (cases_lt 0x408f_4000_0000_0000 m) [
  | inl l ↦ omega (arith, weigh_thousand, weigh_lt 0x408f_4000_0000_0000 m l)
  | inr g ↦
      let e : m ≡ 0x408f_4000_0000_0000 = omega arith in
      omega (arith, weigh_thousand, ap weigh e)
]

sized : (m : ℕ) → 0 < m → 0 < weigh m
sized zero h = absurd (omega arith)
sized (suc m) h = weigh_pos m

pub not_shown : (b : ℕ) → b < 2 ^ 64 → (b ≡ 0x8000_0000_0000_0000 → ⊥) → 0x408f_4000_0000_0000 ≤ b → thousandths_of b ≡ negsuc 0
not_shown b w z h = elim (cases_Bool (not_a_number b)) [
  | inl n ↦ exact.nans b (sym (nan_is b) ∙ n)
  | inr n ↦ by_bits b n ∙ elim (cases_lt b (2 ^ 63)) [
    | inl l ↦
        let same : size b ≡ b = omega arith in
        fraction_beyond (negative b) (weigh (size b)) unit unit_pos (heavy (size b) (omega arith))
    | inr g ↦
        let some : 0 < size b = omega arith in
        ap (λ s. thousandths_of_fraction s (weigh (size b)) unit) (le-leb (2 ^ 63) b (omega arith)) ∙ fraction_below (weigh (size b)) unit (sized (size b) some)
  ]
]

pub shown : (b : ℕ) → b < 0x408f_4000_0000_0000 → thousandths_of b ≡ pos (1000 * weigh b / unit)
shown b h =
    let same : size b ≡ b = omega arith in
    by_bits b (le-ltb 0x7FF0_0000_0000_0000 (size b) (omega arith))
    ∙ ap (λ m. thousandths_of_fraction (negative b) (weigh m) unit) same
    ∙ ap (λ s. thousandths_of_fraction s (weigh b) unit) (lt-leb (2 ^ 63) b (omega arith))
    ∙ fraction_within (weigh b) unit (subst (λ n. weigh b < n) weigh_thousand (weigh_lt b 0x408f_4000_0000_0000 h))

-- 1012 * 2 ^ 52 are the bits of 2 ^ -11
light : 1000 * weigh 0x3F40_0000_0000_0000 < unit
unfolding weigh unit
light = lit< tt

pub tiny : (b : ℕ) → b / 2 ^ 52 < 1012 → 1000 * weigh b / unit ≡ 0
tiny b h = let l : weigh b < weigh 0x3F40_0000_0000_0000 = weigh_lt b 0x3F40_0000_0000_0000 (omega arith) in div-eq_of_lt (omega (arith, l, light))

-- (t + 2 ^ 52) * 2 ^ k units are (t + 2 ^ 52) / 2 ^ (1074 - k)
scaled : (x t : ℕ) → 0 < x → x ≤ 1075 → (t + 2 ^ 52) * 1000 / 2 ^ (1075 - x) ≡ 1000 * weight x t / unit
unfolding weight unit
scaled zero t l h = absurd (omega arith)
scaled (suc k) t l h =
    let g = 2 ^ 52 + t in
    let less = 1074 - k in
    let same : (t + 2 ^ 52) * 1000 ≡ 1000 * g = omega arith in
    let places : 1075 - suc k ≡ less = omega arith in
    let all : k + less ≡ 1074 = omega arith in
    let whole : 2 ^ k * 2 ^ less ≡ unit = sym (pow-add 2 k less) ∙ ap (λ n. 2 ^ n) all in
    ap (λ n. n / 2 ^ (1075 - suc k)) same ∙ ap (λ n. 1000 * g / 2 ^ n) places
    ∙ sym (rounded_same (g * 2 ^ k) unit g (2 ^ less) unit_pos (pow_pos less) (mul_assoc g (2 ^ k) (2 ^ less) ∙ ap (λ n. g * n) whole))

pub normal : (b : ℕ) → 1012 ≤ b / 2 ^ 52 → b < 0x408f_4000_0000_0000 → (b % 2 ^ 52 + 2 ^ 52) * 1000 / 2 ^ (1075 - b / 2 ^ 52) ≡ 1000 * weigh b / unit
unfolding weigh
normal b h l = scaled (b / 2 ^ 52) (b % 2 ^ 52) (omega arith) (omega arith)

-- what is shown is below 2 ^ 20
pub small : (b : ℕ) → b < 0x408f_4000_0000_0000 → (b % 2 ^ 52 + 2 ^ 52) * 1000 / 2 ^ (1075 - b / 2 ^ 52) < 2 ^ 20
small b h =
    let places : 63 ≤ 20 + (1075 - b / 2 ^ 52) = omega arith in
    let room : 2 ^ 63 ≤ 2 ^ (20 + (1075 - b / 2 ^ 52)) = pow_mono places in
    shr_below ((b % 2 ^ 52 + 2 ^ 52) * 1000) 20 (1075 - b / 2 ^ 52) (omega arith)
