-- The order of the values, by their signs and their sizes in units of the smallest positive one; an infinity has a size above all.
use Rattle.std.proofs.Common.{◌≡◌, ℕ, ◌+◌, ◌*◌, ◌<◌, Bool, true, false, not, ◌&&◌, ◌||◌, ltb, sym, refl, ap, ◌∙◌, subst, inl, inr, mul_assoc, mul_comm, add-mul, lt_of_mul-lt-mul_right, mul-lt-mul_of_pos_right, mul-pos, zero-mul, mul_right_comm, arith}
use native.Mathlib.Nat.{eq_of_mul-eq-mul_right}
use lib.Ieee.{Float, nan, inf, fin, up, down, below, level, is_nan, lt, le}
use lib.Ieee.Fits.{down_pos}
use lib.Ieee.Exact.{HasValue}
use Rattle.std.proofs.lemmas.Bool.Decides.{nat_tests}
use Rattle.std.proofs.lemmas.Bool.{lt-ltb, le-ltb, cases_order, cases_lt, true≢false}

-- ---- x / de is a / c, and y / dd is b / c
module _ (x y de dd a b c : ℕ) (C : 0 < c) (D : 0 < de * dd) (p : x * c ≡ a * de) (q : y * c ≡ b * dd) where
  left : x * dd * c ≡ a * (de * dd)
  left = mul_right_comm x dd c ∙ ap (λ n. n * dd) p ∙ mul_assoc a de dd

  right : y * de * c ≡ b * (de * dd)
  right = mul_right_comm y de c ∙ ap (λ n. n * de) q ∙ mul_assoc b dd de ∙ ap (λ n. b * n) (mul_comm dd de)

  cross_lt : a < b → x * dd < y * de
  cross_lt h = lt_of_mul-lt-mul_right c (subst (λ n. n < y * de * c) (sym left) (subst (λ n. a * (de * dd) < n) (sym right) (mul-lt-mul_of_pos_right h D)))

  cross_gt : b < a → y * de < x * dd
  cross_gt h = lt_of_mul-lt-mul_right c (subst (λ n. n < x * dd * c) (sym right) (subst (λ n. b * (de * dd) < n) (sym left) (mul-lt-mul_of_pos_right h D)))

  cross_eq : a ≡ b → x * dd ≡ y * de
  cross_eq h = eq_of_mul-eq-mul_right c C (x * dd) (y * de) (left ∙ ap (λ n. n * (de * dd)) h ∙ sym right)

  pub cross_ltb : ltb (x * dd) (y * de) ≡ ltb a b
  cross_ltb = elim (cases_order a b) [
    | inl e ↦ le-ltb (x * dd) (y * de) (omega (arith, cross_eq e)) ∙ sym (le-ltb a b (omega arith))
    | inr (inl l) ↦ lt-ltb (x * dd) (y * de) (cross_lt l) ∙ sym (lt-ltb a b l)
    | inr (inr g) ↦ le-ltb (x * dd) (y * de) (omega (arith, cross_gt g)) ∙ sym (le-ltb a b (omega arith))
  ]

  sum_is : (x * dd + y * de) * c ≡ (a + b) * (de * dd)
  sum_is = add-mul (x * dd) (y * de) c ∙ ap (λ n. n + y * de * c) left ∙ ap (λ n. a * (de * dd) + n) right ∙ sym (add-mul a b (de * dd))

  cross_pos : ltb 0 (x * dd + y * de) ≡ ltb 0 (a + b)
  cross_pos = elim (cases_lt 0 (a + b)) [
    | inl h ↦
        let k : 0 * c < (x * dd + y * de) * c = subst (λ n. n < (x * dd + y * de) * c) (sym (zero-mul c)) (subst (λ n. 0 < n) (sym sum_is) (mul-pos h D)) in
        lt-ltb 0 (x * dd + y * de) (lt_of_mul-lt-mul_right c k) ∙ sym (lt-ltb 0 (a + b) h)
    | inr z ↦
        let none : a + b ≡ 0 = omega arith in
        let k : (x * dd + y * de) * c ≡ 0 * c = sum_is ∙ ap (λ n. n * (de * dd)) none ∙ zero-mul (de * dd) ∙ sym (zero-mul c) in
        let is : x * dd + y * de ≡ 0 = eq_of_mul-eq-mul_right c C (x * dd + y * de) 0 k in
        ap (ltb 0) is ∙ sym (ap (ltb 0) none)
  ]

-- ---- x has the sign s, and is u / c in size; an infinity has the size U
abbrev pub Stands : ℕ → ℕ → Float → Bool → ℕ → Type 0
Stands c U nan s u = ⊥
Stands c U (inf t) s u = (t ≡ s) × (u ≡ U)
Stands c U (fin t m e) s u = (t ≡ s) × (m * up e * c ≡ u * down e) × (u < U)

pub stands_from_value : (c U : ℕ) (x : Float) (s : Bool) (u : ℕ) → u < U → HasValue x s u c → Stands c U x s u
stands_from_value c U nan s u l h = h
stands_from_value c U (inf t) s u l h = absurd h
stands_from_value c U (fin t m e) s u l h = (h.0, h.1, l)

module _ (U : ℕ) (above : 0 < U) where
  inf_inf : (s t : Bool) → (s && not t) ≡ below s U t U
  inf_inf false false = sym (le-ltb U U (omega arith))
  inf_inf false true = refl
  inf_inf true false = sym (lt-ltb 0 (U + U) (omega arith))
  inf_inf true true = sym (le-ltb U U (omega arith))

  inf_fin : (s t : Bool) (v : ℕ) → v < U → s ≡ below s U t v
  inf_fin false false v h = sym (le-ltb U v (omega arith))
  inf_fin false true v h = refl
  inf_fin true false v h = sym (lt-ltb 0 (U + v) (omega arith))
  inf_fin true true v h = sym (lt-ltb v U h)

  fin_inf : (s t : Bool) (u : ℕ) → u < U → not t ≡ below s u t U
  fin_inf false false u h = sym (lt-ltb u U h)
  fin_inf false true u h = refl
  fin_inf true false u h = sym (lt-ltb 0 (u + U) (omega arith))
  fin_inf true true u h = sym (le-ltb U u (omega arith))

fin_fin : (x y de dd a b c : ℕ) (C : 0 < c) (D : 0 < de * dd) (p : x * c ≡ a * de) (q : y * c ≡ b * dd) (s t : Bool) → below s (x * dd) t (y * de) ≡ below s a t b
fin_fin x y de dd a b c C D p q false false = cross_ltb x y de dd a b c C D p q
fin_fin x y de dd a b c C D p q false true = refl
fin_fin x y de dd a b c C D p q true false = cross_pos x y de dd a b c C D p q
fin_fin x y de dd a b c C D p q true true = cross_ltb y x dd de b a c C (subst (λ n. 0 < n) (mul_comm de dd) D) q p

pub lt_standing : (c U : ℕ) (C : 0 < c) (P : 0 < U) (x y : Float) (s t : Bool) (u v : ℕ) → Stands c U x s u → Stands c U y t v → lt x y ≡ below s u t v
unfolding lt
lt_standing c U C P nan y s t u v h k = absurd h
lt_standing c U C P (inf i) nan s t u v h k = absurd k
lt_standing c U C P (fin i m e) nan s t u v h k = absurd k
lt_standing c U C P (inf i) (inf j) s t u v h k =
    inf_inf U P i j ∙ ap (λ z. below i U z U) k.0 ∙ ap (λ z. below z U t U) h.0 ∙ ap (λ n. below s n t U) (sym h.1) ∙ ap (λ n. below s u t n) (sym k.1)
lt_standing c U C P (inf i) (fin j n d) s t u v h k =
    h.0 ∙ inf_fin U P s t v k.2 ∙ ap (λ n. below s n t v) (sym h.1)
lt_standing c U C P (fin i m e) (inf j) s t u v h k =
    ap not k.0 ∙ fin_inf U P s t u h.2 ∙ ap (λ n. below s u t n) (sym k.1)
lt_standing c U C P (fin i m e) (fin j n d) s t u v h k =
    fin_fin (m * up e) (n * up d) (down e) (down d) u v c C (mul-pos (down_pos e) (down_pos d)) h.1 k.1 i j
    ∙ ap (λ z. below z u j v) h.0 ∙ ap (λ z. below s u z v) k.0

-- ---- no later is not below, the other way round
le_below : (s t : Bool) (a b : ℕ) → (below s a t b || level s a t b) ≡ not (below t b s a)
le_below false false a b = grind (arith, nat_tests)
le_below false true a b = grind (arith, nat_tests)
le_below true false a b = grind (arith, nat_tests)
le_below true true a b = grind (arith, nat_tests)

pub le_not_lt : (x y : Float) → is_nan x ≡ false → is_nan y ≡ false → le x y ≡ not (lt y x)
unfolding is_nan le lt
le_not_lt nan y h k = absurd (true≢false h)
le_not_lt (inf i) nan h k = absurd (true≢false k)
le_not_lt (fin i m e) nan h k = absurd (true≢false k)
le_not_lt (inf false) (inf false) h k = refl
le_not_lt (inf false) (inf true) h k = refl
le_not_lt (inf true) (inf false) h k = refl
le_not_lt (inf true) (inf true) h k = refl
le_not_lt (inf false) (fin j n d) h k = refl
le_not_lt (inf true) (fin j n d) h k = refl
le_not_lt (fin i m e) (inf false) h k = refl
le_not_lt (fin i m e) (inf true) h k = refl
le_not_lt (fin i m e) (fin j n d) h k = le_below i j (m * up e * down d) (n * up d * down e)
