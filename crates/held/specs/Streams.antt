-- The stream of held and waiting bytes, by how many of them are held.
use Rattle.std.specs.Prelude.{ℕ, ◌+◌, max, Bool, ◌&&◌, ◌||◌, List, [], ◌∷◌, take, drop, Some, None, Option, ◌==◌}
use Rattle.protocol.specs.Pulls.{found, is_signal}

abbrev pub head_of : List ℕ → Option ℕ
head_of [] = None
head_of (b ∷ w) = Some b

-- a byte that is not passed over
abbrev pub stops : Bool → ℕ → Bool
stops s b = b == 2 || (s && is_signal b)

abbrev pub passed : Bool → List ℕ → ℕ
passed s w = (found s w).passed

-- what is held and what waits once so many bytes of the stream are seen
abbrev pub seen : ℕ → List ℕ → ℕ → List ℕ
seen n w k = take (max n k) w

abbrev pub unseen : ℕ → List ℕ → ℕ → List ℕ
unseen n w k = drop (max n k) w

abbrev pub found_held : Bool → List ℕ → ℕ → List ℕ
found_held s w k = drop (passed s w) (seen (passed s w + 1) w k)

abbrev pub found_waiting : Bool → List ℕ → ℕ → List ℕ
found_waiting s w k = unseen (passed s w + 1) w k
