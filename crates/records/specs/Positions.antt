-- A position: its checks in their order, and its fields at their offsets.
use Rattle.std.specs.Prelude.{◌≡◌, ℕ, ◌+◌, ◌*◌, cond, List, length, drop, Ok, Err, Result, nat_lt, slice_index}
use Rattle.refusal.specs.declared.Refusal.{Refusal}
use Rattle.records.specs.declared.fault.RecordFault.{RecordFault}
use Rattle.records.specs.declared.fault.RecordFault.TheVariants.{EndsTooSoon, BytesLeftOver, TooManySatellites}
use Rattle.records.specs.declared.position.Position.{Position}
use Rattle.records.specs.Faults.{record_refusal, accepted}
use Rattle.records.specs.Numbers.{be32, be64}

-- how many satellites a position of at least 78 bytes has, and its size with them
abbrev pub satellites : List ℕ → ℕ
satellites body = slice_index body 77

abbrev pub size : List ℕ → ℕ
size body = 78 + 2 * satellites body

abbrev pub position_reading : List ℕ → Refusal
position_reading body =
    cond (nat_lt (length body) 78) (record_refusal (EndsTooSoon (length body)))
    (cond (nat_lt 12 (satellites body)) (record_refusal (TooManySatellites 77))
    (cond (nat_lt (length body) (size body)) (record_refusal (EndsTooSoon (length body)))
    (cond (nat_lt (size body) (length body)) (record_refusal (BytesLeftOver (size body))) accepted)))

-- the fields of a position, at their offsets in the body
pub record PositionRead (body : List ℕ) (p : Position) : Type 0 where
  pub latitude : p.latitude ≡ be64 body 0
  pub longitude : p.longitude ≡ be64 body 8
  pub altitude : p.altitude ≡ be64 body 16
  pub clock_offset : p.clock_offset ≡ be64 body 24
  pub frequency_offset : p.frequency_offset ≡ be64 body 32
  pub pdop : p.pdop ≡ be64 body 40
  pub latitude_rate : p.latitude_rate ≡ be64 body 48
  pub longitude_rate : p.longitude_rate ≡ be64 body 56
  pub altitude_rate : p.altitude_rate ≡ be64 body 64
  pub time : p.time ≡ be32 body 72
  pub flags : p.flags ≡ slice_index body 76
  pub count : p.count ≡ satellites body
  pub pairs : p.satellites.now ≡ drop 78 body

-- what is answered: the fields where the body is a position, else its refusal
abbrev pub PositionAnswer : List ℕ → Result Position RecordFault → Type 0
PositionAnswer body (Ok p) = (position_reading body ≡ accepted) × PositionRead body p
PositionAnswer body (Err f) = position_reading body ≡ record_refusal f
