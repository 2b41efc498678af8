use mathlib.Core.Path.{◌≡◌, ap₂, ◌∙◌}
use mathlib.Core.Bool.{◌&&◌}
use lib.ListN.{length}
use Rattle.std.proofs.Common.{rules}
use Rattle.model.specs.Words.{between, in_range}
use Rattle.valid_nodes.proofs.Gather.{two}
use Rattle.call_open.proofs.in_range.Goals as goal

pub returns : goal.returns
unfolding in_range
returns c = record {
  value =
      let few : c.contains.result ≡ between 1 64 (length c.args.keys.now) = search rules in
      ap₂ ◌&&◌ c.sides_fit.ensures.value few ∙ two _ _;
}
