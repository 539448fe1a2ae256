use Rattle.std.proofs.Common.{◌≤◌, length, drop, arith}
use Rattle.reading.specs.Readings.{reading}
use Rattle.fixes.specs.Views.{enter}
use Rattle.paging.specs.RawDatas.{raw_data}
use Rattle.paging.specs.AppFiles.{app_file}
use Rattle.link.specs.Fixing.{fix_of}
use Rattle.link.specs.Views.{state_of}
use Rattle.link.proofs.Progress.{progress}
use Rattle.link.proofs.Running.{idle_only}
use Rattle.answers.proofs.capture_log.log.Goals as goal

pub loop-text-smaller : goal.loop-text-smaller
loop-text-smaller c =
    let room : 8064 ≤ length c.loop-text.buffer = omega arith in
    progress raw_data app_file reading fix_of enter (state_of c.loop-text.link) (drop c.loop-text.line.at c.loop-text.line.bytes.now) c.loop-text.buffer room _ c.pull-answer.ensures
    (λ m i. c.in_default.not-Idle m (idle_only c.pull-answer.result m i))
