use Rattle.std.proofs.Common.{arith}
use Rattle.std.proofs.lemmas.Grind.{common_steps}
use Rattle.writing.proofs.Cutting.{pages_are, some_body}
use Rattle.writing.proofs.write.page_count.Goals as goal

pub returns : goal.returns
returns g c = grind (arith, common_steps, pages_are, some_body g.S.Scheme.model g.met.S.Scheme.lawful)
