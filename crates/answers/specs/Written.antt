-- How many bytes a pull wrote to the start of its buffer, by its answer.
use Rattle.std.specs.Prelude.{ℕ}
use Rattle.link.specs.declared.answer.Answer.{Answer}
use Rattle.link.specs.declared.answer.Answer.TheVariants.{Idle, Signal, Page, Report, Other, Refused}

abbrev pub written_count : Answer → ℕ
written_count (Idle held) = 0
written_count (Signal byte) = 0
written_count (Page type number total) = 0
written_count (Report type key len reading) = len
written_count (Other status type len) = len
written_count (Refused fault) = 0
