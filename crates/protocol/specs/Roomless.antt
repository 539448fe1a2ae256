-- The joining of pages without the test of room.
use Rattle.std.specs.Prelude.{ℕ, cond, List, ◌++◌, drop, ◌==◌}
use Rattle.paging.specs.declared.header.Header.{Header}
use Rattle.paging.specs.Schemes.{Scheme, Head, reads, too_short, unfit}
use Rattle.joining.specs.Joining.{Held, Collected, out_of_turn, joined_to, next_page, read_page}

-- page 1 begins a report, and the next page goes on with it, whatever room there is
abbrev pub placed_roomless : Header → List ℕ → Held → Collected
placed_roomless h body x = cond (h.page == 1) (joined_to h body) (cond (next_page h x) (joined_to h (x.joined ++ body)) (out_of_turn h.page))

-- by what the content begins with
abbrev pub read_roomless : Scheme → List ℕ → Held → Head → Collected
read_roomless s d x (reads h) = placed_roomless h (drop s.header d) x
read_roomless s d x too_short = read_page s d x too_short
read_roomless s d x unfit = read_page s d x unfit

-- a content that came for a scheme, beside the pages that it holds
abbrev pub collected_roomless : Scheme → List ℕ → Held → Collected
collected_roomless s d x = read_roomless s d x (s.read d)
