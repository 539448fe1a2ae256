-- What the columns of a printed row are.
use Rattle.std.proofs.Common.{◌≡◌, ℕ, suc, zero, ◌-◌, ◌^◌, true, false, Bool, ℤ, pos, negsuc, List, [], ◌∷◌, ◌++◌, length, replicate, refl, ap, append_assoc, append-nil, arith, decimal}
use Rattle.std.proofs.Math.Utf8.{encode}
use Rattle.std.specs.List.{repeat}
use Rattle.std.specs.Prelude.{unsigned_abs}
use Rattle.std.specs.Int.{is_negative}
use Rattle.std.specs.Fmt.{format_spec, padded_integral, char_count, sign_text, signed_decimal}
use Rattle.std.proofs.lemmas.Bool.{le-ltb}
use Rattle.rows.specs.Rows.{column}

abbrev no_precision : ℕ
no_precision = 2 ^ 64 - 1

repeat_spaces : (n : ℕ) → repeat n (encode 32) ≡ replicate n 32
unfolding encode
repeat_spaces zero = refl
repeat_spaces (suc n) = ap (λ l. 32 ∷ l) (repeat_spaces n)

-- what `{:>w}` writes of a number, by its sign and its digits
pub right_aligned : (w : ℕ) (negative : Bool) (digits : List ℕ) → padded_integral (format_spec 32 3 0 w no_precision) negative [] digits ≡ column w (sign_text negative ++ digits)
unfolding padded_integral char_count
right_aligned w false digits =
    let padding : w - length digits - 0 - 0 ≡ w - length digits = omega arith in
    let after : w - length digits - (w - length digits) ≡ 0 = omega arith in
    rw (padding, after) (simp append-nil (ap (λ l. l ++ digits) (repeat_spaces (w - length digits))))
right_aligned w true digits =
    let padding : w - length digits - 1 - 0 ≡ w - suc (length digits) = omega arith in
    let after : w - suc (length digits) - (w - suc (length digits)) ≡ 0 = omega arith in
    rw (padding, after) (simp (append-nil, append_assoc) (ap (λ l. l ++ 45 ∷ digits) (repeat_spaces (w - suc (length digits)))))

pub signed_digits : (z : ℤ) → sign_text (is_negative z) ++ decimal (unsigned_abs z) ≡ signed_decimal z
signed_digits (pos n) = rw (le-ltb n 0 (omega arith))
signed_digits (negsuc n) = refl
