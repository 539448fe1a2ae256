-- The thousandths of a DOUBLE, given as its 64 bits.
use Rattle.std.specs.Prelude.{◌≡◌, ℕ, ◌*◌, ◌/◌, ◌<◌, ◌≤◌, Bool, true, false, cond, ◌&&◌, ℤ, pos, negsuc, int_le, int_lt, is_nan, Float}
use Rattle.std.specs.Float.{nan, inf, fin}
use Rattle.std.specs.Float.Ieee.{up, down}
use Rattle.std.specs.Float.Ieee.Exact.{HasValue}
use Rattle.fixes.specs.Keys.{signed}
use Rattle.fixes.specs.Values.{value}

-- of ±n / d, rounded down; -1 if it is below 0, or 1,000 or more
abbrev pub thousandths_of_fraction : Bool → ℕ → ℕ → ℤ
thousandths_of_fraction s n d = cond (int_le (pos 0) (signed s n) && int_lt (signed s n) (pos (1000 * d))) (pos (1000 * n / d)) (negsuc 0)

-- `fin s m e` is ±m * 2 ^ e, and 2 ^ e is up e / down e; -1 for the infinities and the NaNs
abbrev pub thousandths_of_number : Float → ℤ
thousandths_of_number nan = negsuc 0
thousandths_of_number (inf s) = negsuc 0
thousandths_of_number (fin s m e) = thousandths_of_fraction s (m * up e) (down e)

abbrev pub thousandths_of : ℕ → ℤ
thousandths_of b = thousandths_of_number (value b)

-- the thousandths of the number that IEEE 754 has for the bits b, and -1 where there are none to show
pub record ThousandthsAreExact : Type 0 where
  -- of n / d from 0 to below 1,000: exact, and rounded down
  pub within : (b n d : ℕ) → 0 < d → HasValue (value b) false n d → n < 1000 * d → thousandths_of b ≡ pos (1000 * n / d)
  -- of 0 and of -0
  pub zeros : (b : ℕ) (s : Bool) (d : ℕ) → 0 < d → HasValue (value b) s 0 d → thousandths_of b ≡ pos 0
  -- from 1,000 on
  pub beyond : (b n d : ℕ) → 0 < d → HasValue (value b) false n d → 1000 * d ≤ n → thousandths_of b ≡ negsuc 0
  -- below 0
  pub below : (b n d : ℕ) → 0 < d → HasValue (value b) true n d → 0 < n → thousandths_of b ≡ negsuc 0
  -- of an infinity
  pub infinite : (b : ℕ) (s : Bool) → value b ≡ inf s → thousandths_of b ≡ negsuc 0
  -- of a NaN
  pub nans : (b : ℕ) → is_nan (value b) ≡ true → thousandths_of b ≡ negsuc 0
