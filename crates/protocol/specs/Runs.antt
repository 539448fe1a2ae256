-- What can happen to a link: pulls on any lines with buffers of any length, forgets, and looks.
use Rattle.std.specs.Prelude.{◌≡◌, ℕ, suc, ◌≤◌, List, [], ◌∷◌, ◌++◌, take, drop, ◌≢◌}
use Rattle.packet.specs.Bytes.{AreBytes}
use Rattle.protocol.specs.Links.{Answer, Link, idle, fresh, forgotten}
use Rattle.protocol.specs.Pulls.{Pull}

-- an answer, with the bytes that came to the start of the buffer
pub record Given : Type 0 where
  pub answer : Answer
  pub written : List ℕ

-- what a pull gives
abbrev pub given : Pull → Given
given p = record { answer = p.answer; written = p.written }

-- buffers that are all full ones
abbrev pub Full : (ℕ → ℕ) → Type 0
Full rooms = (i : ℕ) → 8064 ≤ rooms i

module _ (pull : ℕ → Link → List ℕ → Pull) where
  -- the link that a history leads to, with all bytes taken so far and all that was answered so far; a look at a rank of the board changes nothing
  pub data Reached : Link → List ℕ → List Given → Type 0 where
    new : Reached fresh [] []
    pulled :
        {l : Link} {taken : List ℕ} {past : List Given} → Reached l taken past →
        (room : ℕ) (line : List ℕ) → AreBytes line →
        Reached (pull room l line).after (taken ++ take (pull room l line).taken line) (past ++ (given (pull room l line) ∷ []))
    forgot : {l : Link} {taken : List ℕ} {past : List Given} → Reached l taken past → Reached (forgotten l) taken past
    looked : {l : Link} {taken : List ℕ} {past : List Given} → (rank : ℕ) → Reached l taken past → Reached l taken past

  -- pulled to idle from pull number i on, each pull with the buffer of its number: what came before the first idle, and how many bytes that idle holds
  pub data ToIdle (rooms : ℕ → ℕ) : ℕ → Link → List ℕ → List Given → ℕ → Type 0 where
    rests : {i : ℕ} {l : Link} {line : List ℕ} {held : ℕ} → (pull (rooms i) l line).answer ≡ idle held → ToIdle rooms i l line [] held
    goes :
        {i : ℕ} {l : Link} {line : List ℕ} {rest : List Given} {held : ℕ} →
        ((n : ℕ) → (pull (rooms i) l line).answer ≢ idle n) →
        ToIdle rooms (suc i) (pull (rooms i) l line).after (drop (pull (rooms i) l line).taken line) rest held →
        ToIdle rooms i l line (given (pull (rooms i) l line) ∷ rest) held

  -- pulled to idle with buffers of 8064 bytes: the link behind the first idle, and how many bytes it holds
  pub data EndsIdle : Link → List ℕ → Link → ℕ → Type 0 where
    at_once : {l : Link} {line : List ℕ} {held : ℕ} → (pull 8064 l line).answer ≡ idle held → EndsIdle l line (pull 8064 l line).after held
    after :
        {l end : Link} {line : List ℕ} {held : ℕ} →
        ((n : ℕ) → (pull 8064 l line).answer ≢ idle n) →
        EndsIdle (pull 8064 l line).after (drop (pull 8064 l line).taken line) end held →
        EndsIdle l line end held
