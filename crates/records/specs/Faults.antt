-- Each fault of a record with its number, its layer and its place, and what a reading is.
use Rattle.std.specs.Prelude.{List, [], ◌∷◌, Ok, Err, Result}
use Rattle.refusal.specs.declared.Refusal.{Refusal}
use Rattle.records.specs.declared.fault.RecordFault.{RecordFault}
use Rattle.records.specs.declared.fault.RecordFault.TheVariants.{EndsTooSoon, BytesLeftOver, TooManySatellites, WrongVersion, StateAboveTwo, WrongRecordLength, NoKind}

-- the refusal that a fault is
abbrev pub record_refusal : RecordFault → Refusal
record_refusal (EndsTooSoon p) = record { number = 8; layer = 3; place = p }
record_refusal (BytesLeftOver p) = record { number = 9; layer = 3; place = p }
record_refusal (TooManySatellites p) = record { number = 10; layer = 3; place = p }
record_refusal (WrongVersion p) = record { number = 11; layer = 3; place = p }
record_refusal (StateAboveTwo p) = record { number = 12; layer = 3; place = p }
record_refusal (WrongRecordLength p) = record { number = 13; layer = 3; place = p }
record_refusal NoKind = record { number = 16; layer = 3; place = 0 }

-- the reading of a record that is not refused
abbrev pub accepted : Refusal
accepted = record { number = 0; layer = 0; place = 0 }

-- the reading that an answer stands for
abbrev pub reading_of : Result (Unit {0}) RecordFault → Refusal
reading_of (Ok u) = accepted
reading_of (Err f) = record_refusal f

-- the reading of parts that are met one after the other: that of the first fault
abbrev pub first_fault : {A : Type 0} → List (Result A RecordFault) → Refusal
first_fault [] = accepted
first_fault (Ok a ∷ rest) = first_fault rest
first_fault (Err f ∷ rest) = record_refusal f
