-- The reading of a report by its kind.
use Rattle.std.specs.Prelude.{List, ℕ, ◌%◌, Some, None, Option}
use Rattle.refusal.specs.declared.Refusal.{Refusal}
use Rattle.records.specs.declared.kind.Kind.{Kind}
use Rattle.records.specs.declared.kind.Kind.TheVariants.{Position, Survey, Application}
use Rattle.records.specs.declared.fault.RecordFault.TheVariants.{NoKind}
use Rattle.records.specs.Faults.{record_refusal}
use Rattle.records.specs.Positions.{position_reading}
use Rattle.records.specs.Surveys.{survey_reading}
use Rattle.application.specs.Applications.{application_reading}

-- from the kind, the key and the body of a report; the lowest byte of a survey's key is its interpretation flags
abbrev pub reading : Option Kind → ℕ → List ℕ → Refusal
reading (Some Position) key body = position_reading body
reading (Some Survey) key body = survey_reading (key % 256) body
reading (Some Application) key body = application_reading body
reading None key body = record_refusal NoKind
