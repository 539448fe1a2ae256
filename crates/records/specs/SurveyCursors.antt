-- The cursor over a survey's satellites: what it will still give.
use Rattle.std.specs.Prelude.{◌≡◌, ℕ, cond, List, [], ◌∷◌, length, Some, None, Ok, Err, Option, Result, nat_lt}
use Rattle.records.specs.declared.fault.RecordFault.{RecordFault}
use Rattle.records.specs.declared.fault.RecordFault.TheVariants.{EndsTooSoon}
use Rattle.records.specs.declared.survey.Satellite.{Satellite}
use Rattle.records.specs.declared.survey.cursor.Satellites.{Satellites}
use Rattle.records.specs.Surveys.{SatelliteRead, satellites_from, satellites, answer_read, PartsWhole}

-- what a cursor will still give
abbrev pub still : Satellites → List (Result SatelliteRead RecordFault)
still c = satellites_from c.enhanced c.body.now c.left c.at

-- one call: the first of what was still to come is given, its parts have all their bytes, and the rest is still to come
abbrev pub Gave : Satellites → Option (Result Satellite RecordFault) → Satellites → Type 0
Gave before None after = (still before ≡ []) × (still after ≡ [])
Gave before (Some r) after = (still before ≡ answer_read r ∷ still after) × PartsWhole (answer_read r)

-- a new cursor by what it will give
abbrev pub new_gives : Result Satellites RecordFault → Result (List (Result SatelliteRead RecordFault)) RecordFault
new_gives (Ok c) = Ok (still c)
new_gives (Err f) = Err f

-- what a new cursor over a body gives: all that is met behind its head
abbrev pub started : ℕ → List ℕ → Result (List (Result SatelliteRead RecordFault)) RecordFault
started flags body = cond (nat_lt (length body) 17) (Err (EndsTooSoon (length body))) (Ok (satellites flags body))
