-- The thousandths of a number are those of every fraction that it is.
use Rattle.std.proofs.Common.{◌≡◌, ℕ, zero, suc, ◌*◌, ◌/◌, ◌<◌, ◌≤◌, Bool, true, false, cond, ◌&&◌, ltb, leb, pos, negsuc, sym, refl, ap, ◌∙◌, mul_assoc, mul_comm, mul-pos, zero-mul, mul-one, arith}
use native.Mathlib.Nat.{mul-div-mul_right, zero-div}
use lib.Dec.{leb-zero}
use lib.Ieee.{Float, nan, inf, fin, up, down, is_nan}
use lib.Ieee.Fits.{down_pos}
use lib.Ieee.Exact.{HasValue}
use Rattle.std.proofs.lemmas.Bool.{lt-ltb, le-ltb, and_from, and_right, cond-true, cond-false, false≢true}
use Rattle.fixes.specs.Values.{value}
use Rattle.fixes.specs.Thousandths.{thousandths_of_fraction, thousandths_of_number, ThousandthsAreExact}
use Rattle.fixes.proofs.Standing.{cross_ltb}

-- ---- x / de is n / d
module _ (x de n d : ℕ) (E : 0 < de) (D : 0 < d) (p : x * d ≡ n * de) where
  pub rounded_same : 1000 * x / de ≡ 1000 * n / d
  rounded_same =
      let up_x : 1000 * x * d ≡ 1000 * n * de = mul_assoc 1000 x d ∙ ap (λ k. 1000 * k) p ∙ sym (mul_assoc 1000 n de) in
      sym (mul-div-mul_right (1000 * x) de D) ∙ ap (λ k. k / (de * d)) up_x ∙ ap (λ k. 1000 * n * de / k) (mul_comm de d) ∙ mul-div-mul_right (1000 * n) d E

  limit_same : ltb x (1000 * de) ≡ ltb n (1000 * d)
  limit_same =
      ap (λ k. ltb k (1000 * de)) (sym (mul-one x))
      ∙ cross_ltb x 1000 de 1 n (1000 * d) d D (mul-pos E (omega arith)) p (sym (mul-one (1000 * d)))

  plain_same : thousandths_of_fraction false x de ≡ thousandths_of_fraction false n d
  plain_same =
      ap (λ q. cond (q && ltb x (1000 * de)) (pos (1000 * x / de)) (negsuc 0)) (leb-zero x ∙ sym (leb-zero n))
      ∙ ap (λ q. cond (leb 0 n && q) (pos (1000 * x / de)) (negsuc 0)) limit_same
      ∙ ap (λ k. cond (leb 0 n && ltb n (1000 * d)) (pos k) (negsuc 0)) rounded_same

same : (s : Bool) (x de n d : ℕ) → 0 < de → 0 < d → x * d ≡ n * de → thousandths_of_fraction s x de ≡ thousandths_of_fraction s n d
same false x de n d E D p = plain_same x de n d E D p
same true zero de zero d E D p = plain_same 0 de 0 d E D p
same true zero de (suc n) d E D p = absurd (omega (arith, p, zero-mul d, mul-pos {m = suc n} {n = de} (omega arith) E))
same true (suc x) de zero d E D p = absurd (omega (arith, p, zero-mul de, mul-pos {m = suc x} {n = d} (omega arith) D))
same true (suc x) de (suc n) d E D p = refl

pub by_fraction : (x : Float) (s : Bool) (n d : ℕ) → 0 < d → HasValue x s n d → thousandths_of_number x ≡ thousandths_of_fraction s n d
by_fraction nan s n d D h = absurd h
by_fraction (inf t) s n d D h = absurd h
by_fraction (fin t m e) s n d D h = ap (λ t. thousandths_of_fraction t (m * up e) (down e)) h.0 ∙ same s (m * up e) (down e) n d (down_pos e) D h.1

-- ---- the thousandths of a fraction
pub fraction_within : (n d : ℕ) → n < 1000 * d → thousandths_of_fraction false n d ≡ pos (1000 * n / d)
fraction_within n d l = cond-true _ _ _ (and_from _ _ (leb-zero n) (lt-ltb n (1000 * d) l))

pub fraction_zero : (s : Bool) (d : ℕ) → 0 < d → thousandths_of_fraction s 0 d ≡ pos 0
fraction_zero false d D = fraction_within 0 d (omega arith) ∙ ap pos (zero-div d)
fraction_zero true d D = fraction_within 0 d (omega arith) ∙ ap pos (zero-div d)

pub fraction_below : (n d : ℕ) → 0 < n → thousandths_of_fraction true n d ≡ negsuc 0
fraction_below zero d l = absurd (omega arith)
fraction_below (suc n) d l = refl

pub fraction_beyond : (s : Bool) (n d : ℕ) → 0 < d → 1000 * d ≤ n → thousandths_of_fraction s n d ≡ negsuc 0
fraction_beyond false n d D l = cond-false _ _ _ (and_right _ _ (le-ltb n (1000 * d) l))
fraction_beyond true n d D l = fraction_below n d (omega arith)

-- ---- what is no number
of_nan : (x : Float) → is_nan x ≡ true → thousandths_of_number x ≡ negsuc 0
unfolding is_nan
of_nan nan h = refl
of_nan (inf s) h = refl
of_nan (fin s m e) h = absurd (false≢true h)

pub exact : ThousandthsAreExact
exact = record {
  within = λ b n d D h l. by_fraction (value b) false n d D h ∙ fraction_within n d l;
  zeros = λ b s d D h. by_fraction (value b) s 0 d D h ∙ fraction_zero s d D;
  beyond = λ b n d D h l. by_fraction (value b) false n d D h ∙ fraction_beyond false n d D l;
  below = λ b n d D h l. by_fraction (value b) true n d D h ∙ fraction_below n d l;
  infinite = λ b s h. ap thousandths_of_number h;
  nans = λ b h. of_nan (value b) h;
}
