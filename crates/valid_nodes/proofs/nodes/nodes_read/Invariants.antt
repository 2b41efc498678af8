use mathlib.Core.Path.{◌≡◌}
use Prim.Native.Nat.{◌/◌, ◌^◌}
use lib.Dec.{eqb}
use lib.ListN.{length}
use Rattle.std.specs.Slice.Iter.{chunks_exact_rest, chunks_exact_size}
use Rattle.model.specs.Words.{key_word, clock_word}
use Rattle.model.specs.Sets.{all}
use Rattle.model.specs.Fields.{bits, flag}
use Rattle.valid_nodes.specs.Nodes.{key_at, clock_at}
use Rattle.valid_nodes.proofs.Chunks.{Left}
use Rattle.valid_nodes.proofs.nodes.nodes_read.Given as goal

abbrev pub invariant-loop-node : goal.invariant-loop-node
invariant-loop-node l =
    Left l.words 1 l.n (length l.yielded) (chunks_exact_rest l.node-iterator)
    × (chunks_exact_size l.node-iterator ≡ 2)
    × (eqb (l.keys / 2 ^ 25) 0 ≡ all (length l.yielded) (λ i. eqb (key_at l.words i) (key_word (bits 0 24 (key_at l.words i)) (flag 24 (key_at l.words i)))))
    × (eqb (l.clocks / 2 ^ 24) 0 ≡ all (length l.yielded) (λ i. eqb (clock_at l.words i) (clock_word (bits 0 24 (clock_at l.words i)))))
