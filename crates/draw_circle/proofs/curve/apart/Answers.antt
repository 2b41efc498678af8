use Rattle.std.proofs.lemmas.Grind.{common_steps}
use Rattle.std.proofs.lemmas.Bool.Decides.{nat_tests}
use Rattle.std.proofs.Common.{arith}
use Rattle.draw_circle.specs.Links.{apart_of}
use Rattle.draw_circle.proofs.curve.apart.Goals as goal

pub returns-clause-value : goal.returns-clause-value
unfolding apart_of
returns-clause-value c = grind (arith, common_steps, nat_tests)
