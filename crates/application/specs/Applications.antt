-- An application file: its records one after the other, and its reading.
use Rattle.std.specs.Prelude.{◌≡◌, ℕ, zero, suc, ◌+◌, Bool, true, false, cond, not, List, [], ◌∷◌, length, take, drop, Some, None, Ok, Err, Option, Result, ◌==◌, nat_lt, slice_index}
use Rattle.std.specs.List.{prefix_len}
use Rattle.refusal.specs.declared.Refusal.{Refusal}
use Rattle.records.specs.declared.fault.RecordFault.{RecordFault}
use Rattle.records.specs.declared.fault.RecordFault.TheVariants.{EndsTooSoon, WrongVersion, StateAboveTwo, WrongRecordLength}
use Rattle.application.specs.declared.Record.{Record}
use Rattle.application.specs.declared.Record.TheVariants.{Galileo, BeiDou, Qzss, Unknown}
use Rattle.records.specs.Faults.{record_refusal, first_fault}

-- how many states a record of a known type has: Galileo 4Fh, BeiDou 50h, QZSS 5Fh
abbrev pub state_count : ℕ → Option ℕ
state_count kind = cond (kind == 79) (Some 52) (cond (kind == 80) (Some 30) (cond (kind == 95) (Some 5) None))

-- whether a record of a type may not have so many bytes
abbrev pub is_wrong_length : Option ℕ → ℕ → Bool
is_wrong_length (Some count) size = not (size == count)
is_wrong_length None size = false

-- a state is 0, 1 or 2
abbrev pub is_state : ℕ → Bool
is_state b = not (nat_lt 2 b)

-- how many bytes stand before the first that a record of a type may not have
abbrev pub lawful_front : Option ℕ → List ℕ → ℕ
lawful_front (Some count) bytes = prefix_len is_state bytes
lawful_front None bytes = length bytes

-- the type of the record that begins at a place
abbrev pub kind_at : List ℕ → ℕ → ℕ
kind_at body at = slice_index body at

-- its length
abbrev pub length_at : List ℕ → ℕ → ℕ
length_at body at = slice_index body (at + 1)

-- its bytes
abbrev pub bytes_at : List ℕ → ℕ → List ℕ
bytes_at body at = take (length_at body at) (drop (at + 2) body)

-- whether the body has all bytes of the record that begins at a place
abbrev pub is_whole : List ℕ → ℕ → Bool
is_whole body at = cond (nat_lt (length body) (at + 2)) false (not (nat_lt (length body) (at + 2 + length_at body at)))

-- how many of a record's bytes stand before the first state above 2
abbrev pub front_at : List ℕ → ℕ → ℕ
front_at body at = lawful_front (state_count (kind_at body at)) (bytes_at body at)

-- the first fault of the record that begins at a place, if it has one
abbrev pub fault_at : List ℕ → ℕ → Option RecordFault
fault_at body at =
    cond (not (is_whole body at)) (Some (EndsTooSoon (length body)))
    (cond (is_wrong_length (state_count (kind_at body at)) (length_at body at)) (Some (WrongRecordLength (at + 1)))
    (cond (nat_lt (front_at body at) (length_at body at)) (Some (StateAboveTwo (at + 2 + front_at body at))) None))

-- a record with the place of its type, and its bytes
pub data RecordRead : Type 0 where
  galileo : ℕ → List ℕ → RecordRead
  bei_dou : ℕ → List ℕ → RecordRead
  qzss : ℕ → List ℕ → RecordRead
  unknown : ℕ → ℕ → List ℕ → RecordRead

-- the record of a type
abbrev pub record_named : ℕ → ℕ → List ℕ → RecordRead
record_named kind place bytes =
    cond (kind == 79) (galileo place bytes)
    (cond (kind == 80) (bei_dou place bytes)
    (cond (kind == 95) (qzss place bytes) (unknown kind place bytes)))

-- how many states a record of its type has
abbrev pub read_count : RecordRead → Option ℕ
read_count (galileo place states) = Some 52
read_count (bei_dou place states) = Some 30
read_count (qzss place states) = Some 5
read_count (unknown kind place bytes) = None

-- the record that begins at a place
abbrev pub record_at : List ℕ → ℕ → RecordRead
record_at body at = record_named (kind_at body at) at (bytes_at body at)

-- a fault ends what is met; else the record is met, and the rest behind it
abbrev pub met_with : Option RecordFault → RecordRead → List (Result RecordRead RecordFault) → List (Result RecordRead RecordFault)
met_with (Some f) r rest = Err f ∷ []
met_with None r rest = Ok r ∷ rest

-- what is met from a place on, up to the end of the body or the first fault, where no more than n records can come
abbrev pub records_from : ℕ → List ℕ → ℕ → List (Result RecordRead RecordFault)
records_from zero body at = []
records_from (suc n) body at =
    cond (nat_lt at (length body)) (met_with (fault_at body at) (record_at body at) (records_from n body (at + 2 + length_at body at))) []

-- what is met behind the version and the control bytes; there are fewer records than bytes
abbrev pub records : List ℕ → List (Result RecordRead RecordFault)
records body = records_from (length body) body 4

-- the reading of an application file
abbrev pub application_reading : List ℕ → Refusal
application_reading body =
    cond (nat_lt (length body) 4) (record_refusal (EndsTooSoon (length body)))
    (cond (not (slice_index body 0 == 3)) (record_refusal (WrongVersion 0)) (first_fault (records body)))

-- what a record of the code says
abbrev pub record_read : Record → RecordRead
record_read (Galileo place states) = galileo place states.now
record_read (BeiDou place states) = bei_dou place states.now
record_read (Qzss place states) = qzss place states.now
record_read (Unknown kind place bytes) = unknown kind place bytes.now

-- what an answer of the code says
abbrev pub answer_read : Result Record RecordFault → Result RecordRead RecordFault
answer_read (Ok r) = Ok (record_read r)
answer_read (Err f) = Err f

-- the answer to a reading at a place (a record with no fault is whole, which the code's sums need)
abbrev pub ReadAt : List ℕ → ℕ → Result Record RecordFault → Type 0
ReadAt body at (Ok r) = (fault_at body at ≡ None) × (record_read r ≡ record_at body at) × (is_whole body at ≡ true)
ReadAt body at (Err f) = fault_at body at ≡ Some f
