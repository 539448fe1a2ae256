-- Each fault of the link with its number, its layer and its place.
use Rattle.std.specs.Prelude.{Ok, Err, Result}
use Rattle.refusal.specs.declared.Refusal.{Refusal}
use Rattle.packet.specs.Reads.{packet_refusal}
use Rattle.records.specs.Faults.{accepted, record_refusal}
use Rattle.fixes.specs.declared.fix.Fix.{Fix}
use Rattle.paging.specs.Headers.{page_refusal}
use Rattle.protocol.specs.Links.{short_buffer, no_such_rank}
use Rattle.link.specs.declared.fault.LinkFault.{LinkFault}
use Rattle.link.specs.declared.fault.LinkFault.TheVariants.{Buffer, Packet, Page, Record, Rank}

-- the faults of packets, pages and records keep their numbers and places
abbrev pub link_refusal : LinkFault → Refusal
link_refusal (Buffer n) = short_buffer n
link_refusal (Packet f) = packet_refusal f
link_refusal (Page f) = page_refusal f
link_refusal (Record f) = record_refusal f
link_refusal (Rank n) = no_such_rank n

-- the reading that an answer carries
abbrev pub reading_in : Result (Unit {0}) LinkFault → Refusal
reading_in (Ok u) = accepted
reading_in (Err f) = link_refusal f

-- what a look answers
abbrev pub look_of : Result Fix LinkFault → Result Fix Refusal
look_of (Ok f) = Ok f
look_of (Err f) = Err (link_refusal f)
