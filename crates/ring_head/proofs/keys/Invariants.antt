use Rattle.std.proofs.Common.{◌≡◌, ◌<◌, ◌≤◌, length, ℕ, get_or}
use Rattle.model.specs.Leafset.{key}
use Rattle.model.specs.Words.{decode_table}
use Rattle.ring_head.proofs.keys.Given as goal

abbrev pub invariant-loop-x : goal.invariant-loop-x
invariant-loop-x l = (l.x ≤ l.n) × (length l.key-items ≡ l.n) × ((k : ℕ) → k < l.x → get_or l.key-items k 0 ≡ key (decode_table l.words) k)
