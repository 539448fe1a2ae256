-- The rank key of a DOUBLE, given as its 64 bits.
use Rattle.std.specs.Prelude.{ℕ, ◌%◌, ◌^◌, Bool, cond, ℤ, pos, neg_ℤ, nat_le, nat_lt}

-- the low 63 bits
abbrev pub size : ℕ → ℕ
size bits = bits % 2 ^ 63

abbrev pub not_a_number : ℕ → Bool
not_a_number bits = nat_lt 0x7FF0_0000_0000_0000 (size bits)

-- the sign bit is set
abbrev pub negative : ℕ → Bool
negative bits = nat_le (2 ^ 63) bits

-- a whole number by its sign, true for minus, and its size
abbrev pub signed : Bool → ℕ → ℤ
signed s n = cond s (neg_ℤ (pos n)) (pos n)

-- the low 63 bits as a number, negated if the sign bit is set; every NaN has the greatest key
abbrev pub key : ℕ → ℤ
key bits = cond (not_a_number bits) (pos 0x7FFF_FFFF_FFFF_FFFF) (signed (negative bits) (size bits))
