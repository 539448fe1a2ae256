-- The keys compare as the values do, and the NaNs come last.
use Rattle.std.proofs.Common.{◌≡◌, ℕ, zero, suc, ◌+◌, ◌≤◌, Bool, true, false, not, ltb, ℤ, pos, sym, refl, ap, ◌∙◌, subst, zero-add, arith}
use lib.Dec.{leb-suc-suc}
use lib.Signed.{lt_z, le_z}
use Rattle.std.proofs.lemmas.Int.{ints}
use lib.Ieee.{Float, nan, inf, fin, binary64, is_nan, below}
use lib.Ieee.Bits.{nan_bits_is, nan_bits_above}
use lib.Ieee.Exact.{HasValue}
use Rattle.std.proofs.lemmas.Bool.{lt-ltb, le-ltb, ltb-true, ltb-false}
use Rattle.fixes.specs.Keys.{size, signed, key, negative}
use Rattle.fixes.specs.Values.{value, NansAreNans, KeysBelow, KeysNoLater, KeysAsWholeNumbers, NumbersInUnits, NansLast}
use Rattle.fixes.proofs.Weights.{weigh, weigh_ltb, weigh_pos, weigh_zero}
use Rattle.fixes.proofs.Standing.{Stands, stands_from_value, lt_standing, le_not_lt}
use Rattle.fixes.proofs.Fields.{unit, top, unit_pos, top_pos, bits_stand}
use Rattle.fixes.proofs.Keying.{key_of, key_nan}

pub nan_is : NansAreNans
nan_is b = sym (nan_bits_above binary64 b) ∙ nan_bits_is binary64 b

-- ---- the keys
below_weigh : (s t : Bool) (m n : ℕ) → below s (weigh m) t (weigh n) ≡ below s m t n
below_weigh false false m n = weigh_ltb m n
below_weigh false true m n = refl
below_weigh true false zero zero = ap (λ k. ltb 0 (k + k)) weigh_zero
below_weigh true false zero (suc n) = lt-ltb 0 (weigh 0 + weigh (suc n)) (omega (arith, weigh_pos n)) ∙ sym (lt-ltb 0 (0 + suc n) (omega arith))
below_weigh true false (suc m) n = lt-ltb 0 (weigh (suc m) + weigh n) (omega (arith, weigh_pos m)) ∙ sym (lt-ltb 0 (suc m + n) (omega arith))
below_weigh true true m n = weigh_ltb n m

below_lt_z : (s t : Bool) (m n : ℕ) → below s m t n ≡ lt_z (signed s m) (signed t n)
below_lt_z false false m n = refl
below_lt_z false true m zero = sym (le-ltb m 0 (omega arith))
below_lt_z false true m (suc n) = refl
below_lt_z true false zero zero = refl
below_lt_z true false zero (suc n) = ap (ltb 0) (zero-add (suc n))
below_lt_z true false (suc m) n = lt-ltb 0 (suc m + n) (omega arith)
below_lt_z true true zero zero = refl
below_lt_z true true zero (suc n) = le-ltb (suc n) 0 (omega arith)
below_lt_z true true (suc m) zero = lt-ltb 0 (suc m) (omega arith)
below_lt_z true true (suc m) (suc n) = leb-suc-suc (suc n) m

pub keys_below : KeysBelow
keys_below a b ha hb =
    let na = nan_is a ∙ ha in
    let nb = nan_is b ∙ hb in
    lt_standing unit top unit_pos top_pos (value a) (value b) (negative a) (negative b) (weigh (size a)) (weigh (size b)) (bits_stand a na) (bits_stand b nb)
    ∙ below_weigh (negative a) (negative b) (size a) (size b) ∙ below_lt_z (negative a) (negative b) (size a) (size b)
    ∙ ap (λ z. lt_z z (signed (negative b) (size b))) (sym (key_of a (ltb-false 0x7FF0_0000_0000_0000 (size a) na)))
    ∙ ap (lt_z (key a)) (sym (key_of b (ltb-false 0x7FF0_0000_0000_0000 (size b) nb)))

le_from_lt : (a b : ℤ) → not (lt_z b a) ≡ le_z a b
le_from_lt a b = grind (arith, ints)

pub keys_no_later : KeysNoLater
keys_no_later a b ha hb = le_not_lt (value a) (value b) ha hb ∙ ap not (keys_below b a hb ha) ∙ le_from_lt (key a) (key b)

-- ---- whole numbers and NaNs
finite : (x : Float) (s : Bool) (n d : ℕ) → HasValue x s n d → is_nan x ≡ false
unfolding is_nan
finite nan s n d h = absurd h
finite (inf t) s n d h = absurd h
finite (fin t m e) s n d h = refl

pub keys_as_whole_numbers : KeysAsWholeNumbers
keys_as_whole_numbers a b s t m n d D h k =
    let U = suc (m + n) in
    sym (keys_below a b (finite (value a) s m d h) (finite (value b) t n d k))
    ∙ lt_standing d U D (omega arith) (value a) (value b) s t m n (stands_from_value d U (value a) s m (omega arith) h) (stands_from_value d U (value b) t n (omega arith) k)
    ∙ below_lt_z s t m n

pub numbers_in_units : NumbersInUnits
unfolding is_nan unit
numbers_in_units b s m e h =
    let stands : Stands unit top (fin s m e) (negative b) (weigh (size b)) = subst (λ x. Stands unit top x (negative b) (weigh (size b))) h (bits_stand b (nan_is b ∙ ap is_nan h)) in
    (weigh (size b), subst (λ x. HasValue x s (weigh (size b)) unit) (sym h) (refl, stands.1))

under_greatest : (s : Bool) (m : ℕ) → m ≤ 0x7FF0_0000_0000_0000 → lt_z (signed s m) (pos 0x7FFF_FFFF_FFFF_FFFF) ≡ true
under_greatest false m h = lt-ltb m 0x7FFF_FFFF_FFFF_FFFF (omega arith)
under_greatest true zero h = refl
under_greatest true (suc m) h = refl

pub nans_last : NansLast
nans_last a b ha hb =
    let o = ltb-false 0x7FF0_0000_0000_0000 (size a) (nan_is a ∙ ha) in
    ap (λ z. lt_z z (key b)) (key_of a o) ∙ ap (lt_z (signed (negative a) (size a))) (key_nan b (ltb-true 0x7FF0_0000_0000_0000 (size b) (nan_is b ∙ hb)))
    ∙ under_greatest (negative a) (size a) o
