use Rattle.std.proofs.Common.{◌≡◌}
use Rattle.records.specs.Faults.{first_fault}
use Rattle.application.specs.Applications.{application_reading}
use Rattle.application.specs.Cursors.{still}
use Rattle.application.proofs.check.Given as goal

abbrev pub invariant-loop-found : goal.invariant-loop-found
invariant-loop-found l = first_fault (still l.found-iterator) ≡ application_reading l.body
