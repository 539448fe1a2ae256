-- What a scheme's header reader answers, and each fault of a page with its number, its layer and its place.
use Rattle.std.specs.Prelude.{ℕ, List, length, Ok, Err, Result}
use Rattle.refusal.specs.declared.Refusal.{Refusal}
use Rattle.paging.specs.declared.fault.PageFault.{PageFault}
use Rattle.paging.specs.declared.fault.PageFault.TheVariants.{Short, Unfit, OutOfTurn}
use Rattle.paging.specs.Schemes.{Scheme, Head, reads, too_short, unfit}

abbrev pub page_refusal : PageFault → Refusal
page_refusal (Short p) = record { number = 6; layer = 2; place = p }
page_refusal (Unfit p) = record { number = 7; layer = 2; place = p }
page_refusal (OutOfTurn p) = record { number = 21; layer = 2; place = p }

-- by what the data begins with, its size and the place of an unfit header
abbrev pub answered : ℕ → ℕ → Head → Result (ℕ × ℕ × ℕ) PageFault
answered size place (reads h) = Ok (h.key, h.page, h.total)
answered size place too_short = Err (Short size)
answered size place unfit = Err (Unfit place)

-- the key, the page and the total of a header, or why it is none
abbrev pub read_by : Scheme → List ℕ → Result (ℕ × ℕ × ℕ) PageFault
read_by s d = answered (length d) s.place (s.read d)
