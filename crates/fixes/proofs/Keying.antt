-- The ways to a key.
use Rattle.std.proofs.Common.{◌≡◌, ℕ, ◌<◌, ◌≤◌, cond, pos, neg_ℤ}
use Rattle.std.proofs.lemmas.Bool.{cond-true, cond-false, lt-ltb, le-ltb}
use Rattle.fixes.specs.Keys.{size, key, not_a_number, negative}

pub key_nan : (b : ℕ) → 0x7FF0_0000_0000_0000 < size b → key b ≡ pos 0x7FFF_FFFF_FFFF_FFFF
key_nan b h = cond-true (not_a_number b) _ _ (lt-ltb 0x7FF0_0000_0000_0000 (size b) h)

-- of the bits of a number or an infinity
pub key_of : (b : ℕ) → size b ≤ 0x7FF0_0000_0000_0000 → key b ≡ cond (negative b) (neg_ℤ (pos (size b))) (pos (size b))
key_of b h = cond-false (not_a_number b) _ _ (le-ltb 0x7FF0_0000_0000_0000 (size b) h)
