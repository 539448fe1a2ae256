-- The kind of report that a key means, as it is printed.
use Rattle.std.specs.Prelude.{ℕ, List, Some, None, Option, codes}
use Rattle.records.specs.declared.kind.Kind.{Kind}
use Rattle.records.specs.declared.kind.Kind.TheVariants.{Position, Survey, Application}

abbrev pub kind_text : Option Kind → List ℕ
kind_text (Some Position) = codes "position"
kind_text (Some Survey) = codes "survey"
kind_text (Some Application) = codes "application"
kind_text None = codes "none"
