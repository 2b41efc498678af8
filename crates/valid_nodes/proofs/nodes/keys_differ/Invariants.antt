use mathlib.Core.Path.{◌≡◌}
use Prim.Native.Nat.{◌≤◌}
use mathlib.Core.Bool.{true}
use lib.ListN.{length}
use Rattle.model.specs.Sets.{all}
use Rattle.valid_nodes.specs.Hashes.{is_new}
use Rattle.valid_nodes.proofs.NodeTests.{Hashed}
use Rattle.valid_nodes.proofs.nodes.keys_differ.Given as goal

abbrev pub invariant-loop-x : goal.invariant-loop-x
invariant-loop-x l = (l.x ≤ l.n) × (length l.met ≡ 512) × (true ≡ all l.x (is_new l.words)) × Hashed l.met l.words l.x
