use Prim.Native.Nat.{◌+◌, ◌*◌, ◌≤◌}
use lib.ListN.{length, drop}
use Rattle.text_form.specs.Describe.{keys_text}
use Rattle.text_describe.proofs.Pieces.{PutBefore}
use Rattle.text_describe.proofs.opening.put_keys.Given as goal

abbrev pub invariant-loop-s : goal.invariant-loop-s
invariant-loop-s l = (l.s ≤ length l.keys) × (l.end ≤ l.at + 26 * l.s)
    × PutBefore l.initial.out l.out l.at l.end (keys_text 0 l.keys) (keys_text l.s (drop l.s l.keys))
