-- The cursor over an application file's records: what it will still give.
use Rattle.std.specs.Prelude.{ℕ, cond, not, List, length, Ok, Err, Option, Result, ◌==◌, nat_lt, slice_index}
use Rattle.std.specs.Iterator.{YieldsFirstBy}
use Rattle.records.specs.declared.fault.RecordFault.{RecordFault}
use Rattle.records.specs.declared.fault.RecordFault.TheVariants.{EndsTooSoon, WrongVersion}
use Rattle.application.specs.declared.Record.{Record}
use Rattle.application.specs.declared.cursor.Records.{Records}
use Rattle.application.specs.Applications.{RecordRead, records_from, records, answer_read}

-- what a cursor will still give
abbrev pub still : Records → List (Result RecordRead RecordFault)
still c = records_from (length c.body.now) c.body.now c.at

-- one call: the first of what was still to come is given, and the rest is still to come
abbrev pub Gave : Records → Option (Result Record RecordFault) → Records → Type 0
Gave = YieldsFirstBy answer_read still

-- a new cursor by what it will give
abbrev pub new_gives : Result Records RecordFault → Result (List (Result RecordRead RecordFault)) RecordFault
new_gives (Ok c) = Ok (still c)
new_gives (Err f) = Err f

-- what a new cursor over a body gives: all that is met behind the version and the control bytes
abbrev pub started : List ℕ → Result (List (Result RecordRead RecordFault)) RecordFault
started body =
    cond (nat_lt (length body) 4) (Err (EndsTooSoon (length body)))
    (cond (not (slice_index body 0 == 3)) (Err (WrongVersion 0)) (Ok (records body)))
