-- How the cursor over a survey's satellites goes on.
use Rattle.std.proofs.Common.{◌≡◌, ℕ, zero, suc, ◌+◌, ◌-◌, ◌≤◌, Bool, true, false, Some, List, ◌∷◌, length, get_or, Ok, sym, refl, subst, arith, length-drop, length-take}
use Rattle.std.proofs.lemmas.Bool.{cond-true}
use Rattle.std.proofs.lemmas.Bool.Decides.{nat_tests}
use Rattle.records.specs.declared.survey.Satellite.{Satellite}
use Rattle.records.specs.declared.survey.cursor.Satellites.{Satellites}
use Rattle.records.specs.Surveys.{satellites, satellites_from, satellite_read, is_whole, satellite_at, size_at, ReadAt, has_l1, has_l2, l1_size, l2_size, part_if, HasSize, PartsWhole}
use Rattle.records.specs.SurveyCursors.{still, new_gives, started}

from_whole : (e : Bool) (body : List ℕ) (n at : ℕ) → (n ≡ 0 → ⊥) → is_whole e body at ≡ true
    → satellites_from e body n at ≡ Ok (satellite_at e body at) ∷ satellites_from e body (n - 1) (at + size_at e body at)
from_whole e body zero at h w = absurd (h refl)
from_whole e body (suc n) at h w =
    grind (arith, nat_tests)

part_sized : (present : Bool) (at size : ℕ) (body : List ℕ) → (present ≡ true → at + size ≤ length body) → HasSize size (part_if present at size body)
part_sized true at size body h = simp (length-take, length-drop) (omega (arith, h refl))
part_sized false at size body h = tt

-- a satellite that the body has whole has whole parts
parts_whole : (e : Bool) (body : List ℕ) (at : ℕ) → is_whole e body at ≡ true → PartsWhole (Ok (satellite_at e body at))
parts_whole e body at whole =
    let flags1 = get_or body (at + 1) 0 in
    let room : at + size_at e body at ≤ length body = grind (arith, nat_tests) in (
      part_sized (has_l1 flags1) (at + 7) 21 body (λ h. omega (arith, cond-true {A = ℕ} (has_l1 flags1) 21 0 h)),
      part_sized (has_l2 flags1) (at + 7 + l1_size flags1) 13 body (λ h. omega (arith, cond-true {A = ℕ} (has_l2 flags1) 13 0 h)),
      part_sized e (at + 7 + l1_size flags1 + l2_size flags1) 3 body (λ h. omega (arith, cond-true {A = ℕ} e 3 0 h)),
    )

-- the cursor goes on by one
pub went_on : (e : Bool) (body : List ℕ) (left at : ℕ) (s : Satellite) (behind : ℕ) → (left ≡ 0 → ⊥) → ReadAt e body at (Some (s, behind))
    → (satellites_from e body left at ≡ Ok (satellite_read s) ∷ satellites_from e body (left - 1) behind) × PartsWhole (Ok (satellite_read s))
went_on e body left at s behind h r = (rw (r.1, r.2) (from_whole e body left at h r.0), subst (λ v. PartsWhole (Ok v)) (sym r.1) (parts_whole e body at r.0))

-- a new cursor gives all that is met behind the head
pub new_still : (c : Satellites) (flags : ℕ) (body : List ℕ) → new_gives (Ok c) ≡ started flags body → still c ≡ satellites flags body
new_still c flags body h = grind (arith, nat_tests)
