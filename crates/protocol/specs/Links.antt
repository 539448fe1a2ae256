-- A link by what it holds, what a pull can answer, and what a look answers.
use Rattle.std.specs.Prelude.{ℕ, ◌-◌, Bool, true, cond, ◌&&◌, List, [], length, Ok, Err, Option, Result, nat_le, slice_index_or}
use Rattle.refusal.specs.declared.Refusal.{Refusal}
use Rattle.records.specs.declared.kind.Kind.{Kind}
use Rattle.fixes.specs.declared.fix.Fix.{Fix}
use Rattle.fixes.specs.Views.{no_fix}
use Rattle.joining.specs.Joining.{Held, no_pages}

-- what a pull answers
pub data Answer : Type 0 where
  idle : (held : ℕ) → Answer
  signal : (byte : ℕ) → Answer
  page : (type number total : ℕ) → Answer
  report : (type key size : ℕ) (reading : Refusal) → Answer
  other : (status type size : ℕ) → Answer
  refused : Refusal → Answer

-- how a report of a kind, with its key and body, is read: number 0 if it reads
abbrev pub Reading : Type 0
Reading = Option Kind → ℕ → List ℕ → Refusal

-- the fix of a position, from its key and body
abbrev pub Fixing : Type 0
Fixing = ℕ → List ℕ → Fix

-- the board after a fix came
abbrev pub Entering : Type 0
Entering = Fix → List Fix → List Fix

-- the bytes held, whether the link is in step, the pages held for each scheme, and the board
pub record Link : Type 0 where
  pub held : List ℕ
  pub in_step : Bool
  pub first : Held
  pub second : Held
  pub board : List Fix

-- a new link holds no byte, page or fix and is in step
abbrev pub fresh : Link
fresh = record { held = []; in_step = true; first = no_pages; second = no_pages; board = [] }

-- a forget drops the held bytes and both schemes' pages, sets the link in step, and keeps the board
abbrev pub forgotten : Link → Link
forgotten l = record { held = []; in_step = true; first = no_pages; second = no_pages; board = l.board }

-- a pull's buffer of so many bytes is too short for the longest report
abbrev pub short_buffer : ℕ → Refusal
short_buffer room = record { number = 1; layer = 0; place = room }

-- no fix stands at this rank
abbrev pub no_such_rank : ℕ → Refusal
no_such_rank rank = record { number = 22; layer = 0; place = rank }

-- the fix at a rank counted from 1
abbrev pub look : ℕ → List Fix → Result Fix Refusal
look rank board = cond (nat_le 1 rank && nat_le rank (length board)) (Ok (slice_index_or board (rank - 1) no_fix)) (Err (no_such_rank rank))
