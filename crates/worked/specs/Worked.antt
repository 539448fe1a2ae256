-- The worked cases: bytes, and what comes of them.
use Rattle.std.specs.Prelude.{◌≡◌, ℕ, List, [], ◌∷◌, drop, pos, neg_ℤ, Ok, Err}
use Rattle.packet.specs.Packets.{lawful, front}
use Rattle.records.specs.Faults.{accepted}
use Rattle.reading.specs.Readings.{reading}
use Rattle.application.specs.Applications.{application_reading}
use Rattle.fixes.specs.Keys.{key}
use Rattle.fixes.specs.Views.{enter}
use Rattle.paging.specs.declared.fault.PageFault.TheVariants.{Unfit}
use Rattle.paging.specs.Headers.{page_refusal, read_by}
use Rattle.paging.specs.RawDatas.{raw_data}
use Rattle.paging.specs.AppFiles.{app_file}
use Rattle.protocol.specs.Links.{Link, fresh, idle, report, refused}
use Rattle.protocol.specs.Pulls.{Pull, pull}
use Rattle.link.specs.Fixing.{fix_of}

-- a pull of the link of both schemes with a full buffer, on a line of these bytes
abbrev pub pulled : Link → List ℕ → Pull
pulled = pull raw_data app_file reading fix_of enter 8064

-- a packet of type 06h with no data, whose checksum is one too great
abbrev pub wrong_sum : List ℕ
wrong_sum = 2 ∷ 0 ∷ 6 ∷ 0 ∷ 7 ∷ 3 ∷ []

-- what comes of the first pull over it
abbrev pub first_pull : Pull
first_pull = pulled fresh wrong_sum

pub record WorkedCases : Type 0 where
  -- 02 00 2C 00 2C 03 is a lawful packet of type 2Ch with no data
  pub empty_packet : front (2 ∷ 0 ∷ 0x2C ∷ 0 ∷ 0x2C ∷ 3 ∷ []) ≡ lawful (record { status = 0; type = 0x2C; content = [] })
  -- 02 00 06 00 07 03 is refused for its checksum, at place 4
  pub sum_refused : first_pull.answer ≡ refused (record { number = 5; layer = 1; place = 4 })
  -- the next pull passes over its other bytes: the 06h is no signal, the link being out of step
  pub then_idle : (pulled first_pull.after (drop first_pull.taken wrong_sum)).answer ≡ idle 0
  -- a RAWDATA page 1 of 1 of record type 1, reply 7, with one byte: a position that ends too soon
  pub short_position : (pulled fresh (2 ∷ 0 ∷ 0x57 ∷ 5 ∷ 1 ∷ 0x11 ∷ 7 ∷ 0 ∷ 0xAA ∷ 0x1F ∷ 3 ∷ [])).answer ≡ report 0x57 67328 1 (record { number = 8; layer = 3; place = 1 })
  -- an application file of block 5 with no record
  pub empty_application : (pulled fresh (2 ∷ 0 ∷ 0x64 ∷ 7 ∷ 5 ∷ 0 ∷ 0 ∷ 3 ∷ 0 ∷ 0 ∷ 0 ∷ 0x73 ∷ 3 ∷ [])).answer ≡ report 0x64 5 4 accepted
  -- the paging byte 23h is page 2 of 3
  pub second_of_three : read_by raw_data (1 ∷ 0x23 ∷ 0 ∷ 0 ∷ []) ≡ Ok (65536, 2, 3)
  -- the paging byte 30h has no total, and 43h a page above its total
  pub no_total : read_by raw_data (1 ∷ 0x30 ∷ 0 ∷ 0 ∷ []) ≡ Err (Unfit 1)
  pub above_total : read_by raw_data (1 ∷ 0x43 ∷ 0 ∷ 0 ∷ []) ≡ Err (Unfit 1)
  -- which is refusal 7
  pub unfit_refused : page_refusal (Unfit 1) ≡ record { number = 7; layer = 2; place = 1 }
  -- the rank keys of -0, of -1 and of a NaN
  pub key_of_minus_zero : key 0x8000_0000_0000_0000 ≡ pos 0
  pub key_of_minus_one : key 0xBFF0_0000_0000_0000 ≡ neg_ℤ (pos 4607182418800017408)
  pub key_of_nan : key 0x7FF8_0000_0000_0000 ≡ pos 9223372036854775807
  -- an application file whose QZSS record has the state 3 at place 8
  pub state_of_three : application_reading (3 ∷ 0 ∷ 0 ∷ 0 ∷ 0x5F ∷ 5 ∷ 0 ∷ 1 ∷ 3 ∷ 0 ∷ 0 ∷ []) ≡ record { number = 12; layer = 3; place = 8 }
