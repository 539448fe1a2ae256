-- A refusal as it is printed.
use Rattle.std.specs.Prelude.{ℕ, List, ◌∷◌, ◌++◌, decimal}
use Rattle.refusal.specs.declared.Refusal.{Refusal}

-- its number, its layer and its place in decimal, with a slash (byte 47) between them
abbrev pub refusal_text : Refusal → List ℕ
refusal_text r = decimal r.number ++ (47 ∷ decimal r.layer) ++ (47 ∷ decimal r.place)
