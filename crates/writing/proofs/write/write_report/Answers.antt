use Rattle.std.proofs.Common.{arith}
use Rattle.std.proofs.lemmas.Grind.{common_steps}
use Rattle.writing.proofs.Cutting.{length_written}
use Rattle.writing.proofs.write.write_report.Goals as goal

pub returns-then-out-size-clause-answer : goal.returns-then-out-size-clause-answer
returns-then-out-size-clause-answer g c =
    grind (arith, common_steps, length_written g.S.Scheme.model g.met.S.Scheme.lawful c.args.key c.args.report.now)

pub write_pages-requires-clause-room : goal.write_pages-requires-clause-room
write_pages-requires-clause-room g c =
    grind (arith, common_steps, length_written g.S.Scheme.model g.met.S.Scheme.lawful c.args.key c.args.report.now)
