-- What a collector holds, and what a collector's answer stands for.
use Rattle.std.specs.Prelude.{◌≡◌, ℕ, List, [], Option, Some, None, Ok, Err, Result}
use Rattle.paging.specs.declared.fault.PageFault.{PageFault}
use Rattle.paging.specs.declared.header.Header.{Header}
use Rattle.joining.specs.declared.collector.Step.{Step}
use Rattle.joining.specs.declared.collector.Step.TheVariants.{More, Whole}
use Rattle.paging.specs.Headers.{page_refusal}
use Rattle.joining.specs.Joining.{Held, no_pages, Joined, Collected, more, whole, refuses}

-- the pages held, by the header of the last one; where there is none, the store's bytes are of no page
abbrev pub held_by : Option Header → List ℕ → Held
held_by None bytes = no_pages
held_by (Some h) bytes = record { key = h.key; total = h.total; count = h.page; joined = bytes }

-- what a collector answered, with the bytes in its store after it
abbrev pub joined_of : Result Step PageFault → List ℕ → Joined
joined_of (Ok (More n total)) bytes = more n total
joined_of (Ok (Whole key)) bytes = whole key bytes
joined_of (Err f) bytes = refuses (page_refusal f)

-- the same with the pages held after it, which a refusal drops
abbrev pub told_by : Result Step PageFault → List ℕ → Held → Collected
told_by (Ok s) bytes held = record { joined = joined_of (Ok s) bytes; held = held }
told_by (Err f) bytes held = record { joined = joined_of (Err f) bytes; held = no_pages }

-- a refused page leaves no bytes in the store
abbrev pub Emptied : Result Step PageFault → List ℕ → Type 0
Emptied (Ok s) bytes = Unit {0}
Emptied (Err f) bytes = bytes ≡ []
