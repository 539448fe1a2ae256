-- What the rank keys are for: they compare as the IEEE 754 numbers do that the bits stand for.
use Rattle.std.specs.Prelude.{◌≡◌, ℕ, ◌^◌, ◌<◌, Bool, true, false, ℤ, from_bits, int_le, int_lt, is_nan, Float}
use Rattle.std.specs.Float.{fin, binary64}
use Rattle.std.specs.Float.Ieee.{lt, le}
use Rattle.std.specs.Float.Ieee.Exact.{HasValue}
use Rattle.fixes.specs.Keys.{signed, key, not_a_number}

-- the binary64 number that bits stand for
abbrev pub value : ℕ → Float
value b = from_bits binary64 b

-- the bits that the key takes for a NaN are those of the NaNs
abbrev pub NansAreNans : Type 0
NansAreNans = (b : ℕ) → not_a_number b ≡ is_nan (value b)

-- where neither is a NaN, keys compare as the numbers and infinities
abbrev pub KeysBelow : Type 0
KeysBelow = (a b : ℕ) → is_nan (value a) ≡ false → is_nan (value b) ≡ false → lt (value a) (value b) ≡ int_lt (key a) (key b)

abbrev pub KeysNoLater : Type 0
KeysNoLater = (a b : ℕ) → is_nan (value a) ≡ false → is_nan (value b) ≡ false → le (value a) (value b) ≡ int_le (key a) (key b)

-- keys of the numbers ±m / d and ±n / d compare as the whole numbers ±m and ±n
abbrev pub KeysAsWholeNumbers : Type 0
KeysAsWholeNumbers = (a b : ℕ) (s t : Bool) (m n d : ℕ) → 0 < d → HasValue (value a) s m d → HasValue (value b) t n d → int_lt (key a) (key b) ≡ int_lt (signed s m) (signed t n)

-- every number is a whole number of units of 2 ^ -1074
abbrev pub NumbersInUnits : Type 0
NumbersInUnits = (b : ℕ) (s : Bool) (m : ℕ) (e : ℤ) → value b ≡ fin s m e → (n : ℕ) × HasValue (value b) s n (2 ^ 1074)

-- a NaN comes after every number and infinity
abbrev pub NansLast : Type 0
NansLast = (a b : ℕ) → is_nan (value a) ≡ false → is_nan (value b) ≡ true → int_lt (key a) (key b) ≡ true
