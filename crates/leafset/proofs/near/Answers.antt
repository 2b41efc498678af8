use Rattle.model.specs.Sets.{of_bits}
use Rattle.leafset_nearest.specs.Span.{span_to}
use Rattle.leafset.proofs.Limits.{limit_near}
use Rattle.leafset.proofs.near.Goals as goal

pub returns : goal.returns
returns c = record {
  members =
      let a = c.args in
      limit_near a.many (of_bits a.set) (span_to a.way a.from.0 a.keys.now)
      c.limit-limit.result c.limit-limit.ensures.limit (of_bits c.below.result) c.below.ensures.members;
}
