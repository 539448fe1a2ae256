-- Lists of bytes, joined and in parts.
use Rattle.std.proofs.Common.{ℕ, zero, suc, List, [], ◌∷◌, ◌++◌, take, drop}
use Rattle.packet.specs.Bytes.{AreBytes}

pub bytes_append : (x y : List ℕ) → AreBytes x → AreBytes y → AreBytes (x ++ y)
bytes_append [] y h k = k
bytes_append (a ∷ x) y h k = (h.0, bytes_append x y h.1 k)

pub bytes_take : (n : ℕ) (x : List ℕ) → AreBytes x → AreBytes (take n x)
bytes_take zero x h = tt
bytes_take (suc n) [] h = tt
bytes_take (suc n) (a ∷ x) h = (h.0, bytes_take n x h.1)

pub bytes_drop : (n : ℕ) (x : List ℕ) → AreBytes x → AreBytes (drop n x)
bytes_drop zero x h = h
bytes_drop (suc n) [] h = tt
bytes_drop (suc n) (a ∷ x) h = bytes_drop n x h.1
