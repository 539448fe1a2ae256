-- The size of a pattern, in units of the smallest positive value: it grows with the pattern.
use Rattle.std.proofs.Common.{◌≡◌, ℕ, zero, suc, ◌+◌, ◌*◌, ◌/◌, ◌%◌, ◌^◌, ◌<◌, ◌≤◌, ltb, sym, refl, ap, ◌∙◌, subst, inl, inr, le_trans, le_of_eq, lt_of_lt_of_le, le_of_suc-le-suc, not-suc-le-zero, mul-le-mul_right, mod-lt, mul_assoc, mul-le-mul_left, mul-lt-mul_of_pos_right, div-add-mod', arith, pow_pos, pow_mono}
use native.Mathlib.Nat.{pow-succ'}
use Rattle.std.proofs.lemmas.Bool.{lt-ltb, le-ltb, cases_order, cases_lt}

-- by the exponent's field and the digits: a field of 0 has no leading digit, and counts as a field of 1
unfoldable pub weight : ℕ → ℕ → ℕ
weight zero t = t
weight (suc k) t = (2 ^ 52 + t) * 2 ^ k

unfoldable pub weigh : ℕ → ℕ
unfolding weight
weigh m = weight (m / 2 ^ 52) (m % 2 ^ 52)

weight_same : (x t u : ℕ) → t < u → weight x t < weight x u
unfolding weight
weight_same zero t u h = h
weight_same (suc k) t u h = mul-lt-mul_of_pos_right (omega arith) (pow_pos k)

weight_under : (x t : ℕ) → t < 2 ^ 52 → weight x t < 2 ^ 52 * 2 ^ x
unfolding weight
weight_under zero t h = h
weight_under (suc k) t h =
    let double : 2 ^ 53 * 2 ^ k ≡ 2 ^ 52 * 2 ^ suc k = mul_assoc (2 ^ 52) 2 (2 ^ k) ∙ ap (λ n. 2 ^ 52 * n) (sym (pow-succ' 2 k)) in
    lt_of_lt_of_le (mul-lt-mul_of_pos_right {m = 2 ^ 52 + t} {n = 2 ^ 53} (omega arith) (pow_pos k)) (le_of_eq double)

weight_over : (k t : ℕ) → 2 ^ 52 * 2 ^ k ≤ weight (suc k) t
unfolding weight
weight_over k t = mul-le-mul_right (2 ^ k) (omega arith)

pub weight_lt : (x t y u : ℕ) → t < 2 ^ 52 → x < y → weight x t < weight y u
weight_lt x t zero u h l = absurd (not-suc-le-zero l)
weight_lt x t (suc k) u h l =
    lt_of_lt_of_le (weight_under x t h) (le_trans (mul-le-mul_left (2 ^ 52) (pow_mono (le_of_suc-le-suc l))) (weight_over k u))

pub weigh_lt : (m n : ℕ) → m < n → weigh m < weigh n
unfolding weigh
weigh_lt m n h =
    let split_m = div-add-mod' m (2 ^ 52) in
    let split_n = div-add-mod' n (2 ^ 52) in
    let low_m : m % 2 ^ 52 < 2 ^ 52 = mod-lt m (pow_pos 52) in
    let low_n : n % 2 ^ 52 < 2 ^ 52 = mod-lt n (pow_pos 52) in
    elim (cases_lt (m / 2 ^ 52) (n / 2 ^ 52)) [
      | inl l ↦ weight_lt (m / 2 ^ 52) (m % 2 ^ 52) (n / 2 ^ 52) (n % 2 ^ 52) low_m l
      | inr g ↦
          let same : m / 2 ^ 52 ≡ n / 2 ^ 52 = omega arith in
          let less : m % 2 ^ 52 < n % 2 ^ 52 = omega arith in
          subst (λ x. weight (m / 2 ^ 52) (m % 2 ^ 52) < weight x (n % 2 ^ 52)) same (weight_same (m / 2 ^ 52) (m % 2 ^ 52) (n % 2 ^ 52) less)
    ]

pub weigh_zero : weigh 0 ≡ 0
unfolding weigh
weigh_zero = refl

pub weigh_pos : (m : ℕ) → 0 < weigh (suc m)
weigh_pos m = omega (arith, weigh_lt 0 (suc m) (omega arith))

pub weigh_ltb : (m n : ℕ) → ltb (weigh m) (weigh n) ≡ ltb m n
weigh_ltb m n = elim (cases_order m n) [
  | inl e ↦ ap (λ k. ltb (weigh m) (weigh k)) (sym e) ∙ le-ltb (weigh m) (weigh m) (omega arith) ∙ sym (le-ltb m n (omega arith))
  | inr (inl l) ↦ lt-ltb (weigh m) (weigh n) (weigh_lt m n l) ∙ sym (lt-ltb m n l)
  | inr (inr g) ↦ le-ltb (weigh m) (weigh n) (omega (arith, weigh_lt n m g)) ∙ sym (le-ltb m n (omega arith))
]
