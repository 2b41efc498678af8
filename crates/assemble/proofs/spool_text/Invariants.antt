use mathlib.Core.Path.{◌≡◌}
use Prim.Native.Nat.{◌+◌, ◌*◌, ◌≤◌}
use lib.ListN.{length}
use Rattle.text_reader.specs.Bounds.{ReaderBounded}
use Rattle.text_assemble.specs.Chunks.{KeysBounded}
use Rattle.assemble.proofs.spool_text.Given as goal

abbrev pub invariant-loop : goal.invariant-loop
invariant-loop g l =
    ReaderBounded l.reader × KeysBounded l.keys × (length l.bytes ≡ 1024) × (length l.out ≡ 266240) × (l.reader.line ≤ 1 + 1024 * l.counter)
    × (l.counter ≤ 0x1000_0000_0000)
