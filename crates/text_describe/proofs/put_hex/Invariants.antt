use Prim.Native.Nat.{◌+◌, ◌*◌, ◌≤◌}
use lib.ListN.{drop}
use Rattle.text_form.specs.Describe.{hex_bytes}
use Rattle.text_describe.proofs.Pieces.{PutBefore}
use Rattle.text_describe.proofs.put_hex.Given as goal

abbrev pub invariant-loop-byte : goal.invariant-loop-byte
invariant-loop-byte l = (l.end ≤ l.at + 2 * l.byte-index)
    × PutBefore l.initial.out l.out l.at l.end (hex_bytes l.bytes) (hex_bytes (drop l.byte-index l.bytes))
