-- A page scheme, and what it must show.
use Rattle.std.specs.Prelude.{◌≡◌, ℕ, ◌-◌, ◌*◌, ◌<◌, ◌≤◌, List, ◌++◌, length, take, Option}
use Rattle.packet.specs.Bytes.{AreBytes}
use Rattle.records.specs.declared.kind.Kind.{Kind}
use Rattle.paging.specs.declared.header.Header.{Header}

-- what a packet's data begins with
pub data Head : Type 0 where
  reads : Header → Head
  too_short : Head
  unfit : Head

-- the packet type that it claims, the size of a header, its greatest page count, the limit of its keys, the place of an unfit header, how headers are read and written, and the kind of report that a key means, if it means one
pub record Scheme : Type 0 where
  pub type : ℕ
  pub header : ℕ
  pub pages : ℕ
  pub keys : ℕ
  pub place : ℕ
  pub read : List ℕ → Head
  pub write : Header → List ℕ
  pub means : ℕ → Option Kind

-- the header's numbers are within the scheme's limits
abbrev pub Within : Scheme → Header → Type 0
Within s h = (h.key < s.keys) × (1 ≤ h.page) × (h.page ≤ h.total) × (h.total ≤ s.pages)

-- what a scheme must show
pub record Laws (s : Scheme) : Type 0 where
  -- a written header reads back as the same numbers, whatever follows it
  pub back : (h : Header) (rest : List ℕ) → Within s h → s.read (s.write h ++ rest) ≡ reads h
  -- a read header is written back as the same bytes, and its numbers are within the limits
  pub forth : (d : List ℕ) (h : Header) → AreBytes d → s.read d ≡ reads h → Within s h × (s.write h ≡ take s.header d) × (s.header ≤ length d)
  -- data is too short if it has fewer bytes than a header, and only then
  pub short : (d : List ℕ) → (length d < s.header → s.read d ≡ too_short) × (s.read d ≡ too_short → length d < s.header)
  -- a written header is bytes, as many as a header has
  pub bytes : (h : Header) → Within s h → AreBytes (s.write h) × (length (s.write h) ≡ s.header)
  -- a report of full pages fits the store
  pub fits : s.pages * (255 - s.header) ≤ 8064
  -- its least and its greatest numbers
  pub least : (1 ≤ s.header) × (1 ≤ s.pages) × (1 ≤ s.keys)
  pub most : (s.header ≤ 254) × (s.keys ≤ 4294967296) × (s.type < 256)
