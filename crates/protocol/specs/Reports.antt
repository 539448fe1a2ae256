-- The pages of a report, what is answered to them, and what a history delivered.
use Rattle.std.specs.Prelude.{◌≡◌, ℕ, zero, suc, ◌+◌, ◌<◌, ◌≤◌, cond, List, [], ◌∷◌, ◌++◌, map, length, take, drop, Some, None, Option, ◌==◌}
use Rattle.packet.specs.Bytes.{AreBytes}
use Rattle.packet.specs.Packets.{Packet}
use Rattle.records.specs.declared.kind.Kind.{Kind}
use Rattle.records.specs.declared.kind.Kind.TheVariants.{Position, Survey, Application}
use Rattle.paging.specs.Schemes.{Scheme, reads}
use Rattle.fixes.specs.declared.fix.Fix.{Fix}
use Rattle.protocol.specs.Links.{Answer, Link, Reading, Fixing, idle, signal, page, report, other, refused}
use Rattle.protocol.specs.Pulls.{Pull}
use Rattle.protocol.specs.Runs.{Given, Reached}
use Rattle.protocol.specs.Runs.Reached.{new, pulled, forgot, looked}

-- the pages of a report from page n + 1 on: lawful packets of one key and one total page, and their bodies
pub data Pages (s : Scheme) (key total : ℕ) : ℕ → List Packet → List (List ℕ) → Type 0 where
  none : Pages s key total total [] []
  next :
      {n : ℕ} {ps : List Packet} {bodies : List (List ℕ)} (p : Packet) →
      p.status < 256 → p.type ≡ s.type → AreBytes p.content → length p.content ≤ 255 → s.read p.content ≡ reads (record { key = key; page = n + 1; total = total }) →
      Pages s key total (n + 1) ps bodies → Pages s key total n (p ∷ ps) (drop s.header p.content ∷ bodies)

-- the answers to so many pages, from page n + 1 on
abbrev pub page_answers : Scheme → ℕ → ℕ → ℕ → List Given
page_answers s total n zero = []
page_answers s total n (suc k) = record { answer = page s.type (n + 1) total; written = [] } ∷ page_answers s total (n + 1) k

-- the answer to the total page
abbrev pub report_answer : Reading → Scheme → ℕ → List ℕ → Given
report_answer reading s key body = record { answer = report s.type key (length body) (reading (s.means key) key body); written = body }

-- a report delivered
pub record Delivery : Type 0 where
  pub type : ℕ
  pub key : ℕ
  pub body : List ℕ

-- what an answer delivers, with the bytes written
abbrev pub delivery : Answer → List ℕ → List Delivery
delivery (idle h) w = []
delivery (signal b) w = []
delivery (page t n l) w = []
delivery (report t k n r) w = record { type = t; key = k; body = w } ∷ []
delivery (other s t n) w = []
delivery (refused r) w = []

-- the reports among the answers, in their order
abbrev pub deliveries : List Given → List Delivery
deliveries [] = []
deliveries (g ∷ gs) = delivery g.answer g.written ++ deliveries gs

-- for each delivery of a history, how many bytes had been taken by then
abbrev pub times : (pull : ℕ → Link → List ℕ → Pull) {l : Link} {taken : List ℕ} {past : List Given} → Reached pull l taken past → List ℕ
times pull new = []
times pull (pulled {l = l} {taken = taken} r room line bytes) =
    let p : Pull = pull room l line in
    times pull r ++ map (λ _. length (taken ++ take p.taken line)) (delivery p.answer p.written)
times pull (forgot r) = times pull r
times pull (looked rank r) = times pull r

-- the scheme that a type goes to says what a key means
abbrev pub meant : Scheme → Scheme → ℕ → ℕ → Option Kind
meant a b type key = cond (type == a.type) (a.means key) (b.means key)

-- the fix of a delivered report, where it is a position that was read
abbrev pub fix_if_read : Reading → Fixing → Option Kind → ℕ → List ℕ → List Fix
fix_if_read reading fix_of (Some Position) key body = cond ((reading (Some Position) key body).number == 0) (fix_of key body ∷ []) []
fix_if_read reading fix_of (Some Survey) key body = []
fix_if_read reading fix_of (Some Application) key body = []
fix_if_read reading fix_of None key body = []

-- the fixes of all positions delivered and read, in the order of their delivery
abbrev pub fixes : Scheme → Scheme → Reading → Fixing → List Delivery → List Fix
fixes a b reading fix_of [] = []
fixes a b reading fix_of (d ∷ ds) = fix_if_read reading fix_of (meant a b d.type d.key) d.key d.body ++ fixes a b reading fix_of ds
