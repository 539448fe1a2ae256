-- What a page does to the pages held of its scheme.
use Rattle.std.specs.Prelude.{ℕ, ◌+◌, ◌≤◌, Bool, cond, ◌&&◌, List, [], ◌++◌, length, drop, ◌==◌, nat_le}
use Rattle.refusal.specs.declared.Refusal.{Refusal}
use Rattle.paging.specs.declared.header.Header.{Header}
use Rattle.paging.specs.Schemes.{Scheme, Head, reads, too_short, unfit}
use Rattle.paging.specs.declared.fault.PageFault.TheVariants.{Short, Unfit, OutOfTurn}
use Rattle.paging.specs.Headers.{page_refusal}

-- the pages held of one report: its key, the number of its pages, how many from page 1 on are held, and their bodies joined
pub record Held : Type 0 where
  pub key : ℕ
  pub total : ℕ
  pub count : ℕ
  pub joined : List ℕ

abbrev pub no_pages : Held
no_pages = record { key = 0; total = 0; count = 0; joined = [] }

-- what a collector holds: its pages, and the bytes in its store, which are theirs where there are any
pub record Collection : Type 0 where
  pub held : Held
  pub bytes : List ℕ

-- the room of a store bounds the bodies joined and the bytes
abbrev pub InRoom : Collection → Type 0
InRoom c = (length c.held.joined ≤ 8064) × (length c.bytes ≤ 8064)

-- what a page makes of the pages held: more pages, a whole report, or a refusal
pub data Joined : Type 0 where
  more : (number total : ℕ) → Joined
  whole : (key : ℕ) (body : List ℕ) → Joined
  refuses : Refusal → Joined

-- what a page made, and the pages held after it
pub record Collected : Type 0 where
  pub joined : Joined
  pub held : Held

-- a page out of turn is refused, and no pages are held after it
abbrev pub out_of_turn : ℕ → Collected
out_of_turn n = record { joined = refuses (page_refusal (OutOfTurn n)); held = no_pages }

-- the bodies up to this page are joined: they are the report, or more pages follow
abbrev pub joined_to : Header → List ℕ → Collected
joined_to h bodies =
    cond (h.page == h.total) (record { joined = whole h.key bodies; held = no_pages })
    (record { joined = more h.page h.total; held = record { key = h.key; total = h.total; count = h.page; joined = bodies } })

-- the same, if the store has room for them
abbrev pub kept : Header → List ℕ → Collected
kept h bodies = cond (nat_le (length bodies) 8064) (joined_to h bodies) (out_of_turn h.page)

-- the page behind those held, of the same report
abbrev pub next_page : Header → Held → Bool
next_page h x = h.page == x.count + 1 && (h.key == x.key && h.total == x.total)

-- page 1 begins a report, and the next page goes on with it
abbrev pub placed : Header → List ℕ → Held → Collected
placed h body x = cond (h.page == 1) (kept h body) (cond (next_page h x) (kept h (x.joined ++ body)) (out_of_turn h.page))

-- by what the data begins with
abbrev pub read_page : Scheme → List ℕ → Held → Head → Collected
read_page s d x (reads h) = placed h (drop s.header d) x
read_page s d x too_short = record { joined = refuses (page_refusal (Short (length d))); held = no_pages }
read_page s d x unfit = record { joined = refuses (page_refusal (Unfit s.place)); held = no_pages }

-- data that came for a scheme, beside the pages that it holds
abbrev pub collected : Scheme → List ℕ → Held → Collected
collected s d x = read_page s d x (s.read d)
