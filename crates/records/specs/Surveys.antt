-- A survey: its head, its satellites one after the other, and its reading.
use Rattle.std.specs.Prelude.{◌≡◌, ℕ, zero, suc, ◌+◌, ◌<◌, ◌≤◌, Bool, true, false, cond, not, List, [], ◌∷◌, length, take, drop, ℤ, Some, None, Ok, Err, Option, Result, ◌==◌, bit_and, nat_lt, slice_index}
use Rattle.std.specs.Option.{option_map}
use Rattle.std.specs.Borrow.{Bor}
use Rattle.refusal.specs.declared.Refusal.{Refusal}
use Rattle.records.specs.declared.fault.RecordFault.{RecordFault}
use Rattle.records.specs.declared.fault.RecordFault.TheVariants.{EndsTooSoon, BytesLeftOver}
use Rattle.records.specs.declared.survey.Satellite.{Satellite}
use Rattle.records.specs.declared.survey.SurveyHead.{SurveyHead}
use Rattle.records.specs.Faults.{record_refusal, first_fault}
use Rattle.records.specs.Numbers.{be64, signed16}

-- what the head says, or that the body is too short for one
abbrev pub head_read : List ℕ → Result SurveyHead RecordFault
head_read body =
    cond (nat_lt (length body) 17) (Err (EndsTooSoon (length body)))
    (Ok (record { receive_time = be64 body 0; clock_offset = be64 body 8; count = slice_index body 16 }))

-- bit 1 of the interpretation flags: each satellite has an enhanced part
abbrev pub is_enhanced : ℕ → Bool
is_enhanced flags = not (bit_and flags 2 == 0)

-- bit 6 of a satellite's flags 1: it has an L1 part
abbrev pub has_l1 : ℕ → Bool
has_l1 flags1 = not (bit_and flags1 64 == 0)

-- bit 0 of a satellite's flags 1: it has an L2 part
abbrev pub has_l2 : ℕ → Bool
has_l2 flags1 = not (bit_and flags1 1 == 0)

-- how many bytes the L1 part has
abbrev pub l1_size : ℕ → ℕ
l1_size flags1 = cond (has_l1 flags1) 21 0

-- how many bytes the L2 part has
abbrev pub l2_size : ℕ → ℕ
l2_size flags1 = cond (has_l2 flags1) 13 0

-- how many bytes a satellite with these flags 1 has
abbrev pub satellite_size : Bool → ℕ → ℕ
satellite_size enhanced flags1 = 7 + l1_size flags1 + l2_size flags1 + cond enhanced 3 0

-- the size of the satellite that begins at a place
abbrev pub size_at : Bool → List ℕ → ℕ → ℕ
size_at enhanced body at = satellite_size enhanced (slice_index body (at + 1))

-- whether the body has all bytes of the satellite that begins at a place
abbrev pub is_whole : Bool → List ℕ → ℕ → Bool
is_whole enhanced body at = cond (nat_lt (length body) (at + 7)) false (not (nat_lt (length body) (at + size_at enhanced body at)))

-- a part of the body, if it is there
abbrev pub part_if : Bool → ℕ → ℕ → List ℕ → Option (List ℕ)
part_if present at size body = cond present (Some (take size (drop at body))) None

-- a satellite with its parts as bytes
pub record SatelliteRead : Type 0 where
  pub place : ℕ
  pub prn : ℕ
  pub flags1 : ℕ
  pub flags2 : ℕ
  pub elevation : ℤ
  pub azimuth : ℤ
  pub l1 : Option (List ℕ)
  pub l2 : Option (List ℕ)
  pub enhanced : Option (List ℕ)

-- the satellite that begins at a place
abbrev pub satellite_at : Bool → List ℕ → ℕ → SatelliteRead
satellite_at enhanced body at = record {
  place = at;
  prn = slice_index body at;
  flags1 = slice_index body (at + 1);
  flags2 = slice_index body (at + 2);
  elevation = signed16 body (at + 3);
  azimuth = signed16 body (at + 5);
  l1 = part_if (has_l1 (slice_index body (at + 1))) (at + 7) 21 body;
  l2 = part_if (has_l2 (slice_index body (at + 1))) (at + 7 + l1_size (slice_index body (at + 1))) 13 body;
  enhanced = part_if enhanced (at + 7 + l1_size (slice_index body (at + 1)) + l2_size (slice_index body (at + 1))) 3 body;
}

-- what is met from a place on, where so many satellites are to come: each in turn up to one that ends too soon, and then bytes left over
abbrev pub satellites_from : Bool → List ℕ → ℕ → ℕ → List (Result SatelliteRead RecordFault)
satellites_from enhanced body zero at = cond (nat_lt at (length body)) (Err (BytesLeftOver at) ∷ []) []
satellites_from enhanced body (suc n) at =
    cond (is_whole enhanced body at)
    (Ok (satellite_at enhanced body at) ∷ satellites_from enhanced body n (at + size_at enhanced body at))
    (Err (EndsTooSoon (length body)) ∷ [])

-- what is met behind the head of a survey
abbrev pub satellites : ℕ → List ℕ → List (Result SatelliteRead RecordFault)
satellites flags body = satellites_from (is_enhanced flags) body (slice_index body 16) 17

-- the reading of a survey with these interpretation flags
abbrev pub survey_reading : ℕ → List ℕ → Refusal
survey_reading flags body = cond (nat_lt (length body) 17) (record_refusal (EndsTooSoon (length body))) (first_fault (satellites flags body))

-- what a satellite of the code says
abbrev pub satellite_read : Satellite → SatelliteRead
satellite_read s = record {
  place = s.place;
  prn = s.prn;
  flags1 = s.flags1;
  flags2 = s.flags2;
  elevation = s.elevation;
  azimuth = s.azimuth;
  l1 = option_map (λ r. r.now) s.l1;
  l2 = option_map (λ r. r.now) s.l2;
  enhanced = option_map (λ r. r.now) s.enhanced;
}

-- what an answer of the code says
abbrev pub answer_read : Result Satellite RecordFault → Result SatelliteRead RecordFault
answer_read (Ok s) = Ok (satellite_read s)
answer_read (Err f) = Err f

-- a part that is there has so many bytes
abbrev pub HasSize : ℕ → Option (List ℕ) → Type 0
HasSize size (Some part) = length part ≡ size
HasSize size None = Unit {0}

-- each part of a satellite has all its bytes
abbrev pub PartsWhole : Result SatelliteRead RecordFault → Type 0
PartsWhole (Ok s) = HasSize 21 s.l1 × HasSize 13 s.l2 × HasSize 3 s.enhanced
PartsWhole (Err f) = Unit {0}

-- the answer to a reading of a part: the part, if it is there, and the place behind it, or that the body ends too soon
abbrev pub PartIf : Bool → List ℕ → ℕ → ℕ → Option (Option (Bor (List ℕ)) × ℕ) → Type 0
PartIf present body at size (Some p) = (option_map (λ r. r.now) p.0 ≡ part_if present at size body) × (p.1 ≡ at + cond present size 0) × (p.1 ≤ length body)
PartIf present body at size None = length body < at + cond present size 0

-- the answer to a reading at a place: the satellite and the place behind it, or that the body ends too soon
abbrev pub ReadAt : Bool → List ℕ → ℕ → Option (Satellite × ℕ) → Type 0
ReadAt enhanced body at (Some p) = (is_whole enhanced body at ≡ true) × (satellite_read p.0 ≡ satellite_at enhanced body at) × (p.1 ≡ at + size_at enhanced body at)
ReadAt enhanced body at None = is_whole enhanced body at ≡ false
