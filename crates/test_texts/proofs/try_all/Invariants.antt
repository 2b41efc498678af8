use Rattle.std.proofs.Common.{◌≡◌, ◌≤◌, length}
use Rattle.text_assemble.specs.Chunks.{KeysBounded}
use Rattle.test_texts.proofs.try_all.Given as goal

abbrev pub invariant-loop-number : goal.invariant-loop-number
invariant-loop-number g l =
    (l.number ≤ 10000) × (l.same ≤ l.number)
    × (length l.script ≡ 16384) × (length l.text ≡ 20000) × KeysBounded l.keys × (length l.out ≡ 266240)
