use Rattle.std.proofs.Common.{◌≡◌, ◌+◌, length, drop}
use Rattle.link.specs.Views.{state_of}
use Rattle.answers.proofs.capture_log.log.Given as goal

abbrev pub invariant-loop-text : goal.invariant-loop-text
invariant-loop-text l = length l.buffer ≡ 8064

-- the bytes held and those that still wait
abbrev pub decreases-loop-text : goal.decreases-loop-text
decreases-loop-text l = length (state_of l.link).held + length (drop l.line.at l.line.bytes.now)
