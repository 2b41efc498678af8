use mathlib.Core.Path.{◌≡◌}
use mathlib.Core.Bool.{not}
use lib.Dec.{eqb}
use lib.ListN.{length}
use Rattle.std.specs.Slice.Iter.{chunks_exact_rest, chunks_exact_size}
use Rattle.model.specs.Sets.{all}
use Rattle.model.specs.Fields.{bits}
use Rattle.valid_nodes.specs.Nodes.{key_at}
use Rattle.valid_nodes.proofs.Chunks.{Left}
use Rattle.valid_nodes.proofs.nodes.key_is_new.Given as goal

abbrev pub invariant-loop-node : goal.invariant-loop-node
invariant-loop-node l =
    Left l.words 1 l.x (length l.yielded) (chunks_exact_rest l.node-iterator)
    × (chunks_exact_size l.node-iterator ≡ 2)
    × (l.ok ≡ all (length l.yielded) (λ k. not (eqb (bits 0 24 (key_at l.words k)) (bits 0 24 (key_at l.words l.x)))))
