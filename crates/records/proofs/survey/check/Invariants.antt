use Rattle.std.proofs.Common.{◌≡◌}
use Rattle.records.specs.Faults.{first_fault}
use Rattle.records.specs.Surveys.{survey_reading}
use Rattle.records.specs.SurveyCursors.{still}
use Rattle.records.proofs.survey.check.Given as goal

abbrev pub invariant-loop-found : goal.invariant-loop-found
invariant-loop-found l = first_fault (still l.found-iterator) ≡ survey_reading l.flags l.body
