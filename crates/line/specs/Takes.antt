-- What one `take` of a line answers, and what waits in a read-ahead.
use Rattle.std.specs.Prelude.{◌≡◌, ℕ, List, [], ◌∷◌, ◌++◌, take, drop, Some, None, Option}

-- the first waiting byte, which is removed; none exactly when nothing waits, and then nothing changes
abbrev pub Taken : Option ℕ → List ℕ → List ℕ → Type 0
Taken None before after = (before ≡ []) × (after ≡ [])
Taken (Some b) before after = before ≡ b ∷ after

-- the bytes of a buffer from one place to another, and then what waits below
abbrev pub ahead : List ℕ → ℕ → ℕ → List ℕ → List ℕ
ahead buffer from to below = drop from (take to buffer) ++ below
