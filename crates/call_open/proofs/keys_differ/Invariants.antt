-- No key before place x stands before itself.
use Rattle.std.proofs.Common.{◌≡◌, ℕ, ◌<◌, get_or}
use Rattle.call_open.proofs.keys_differ.Given as goal

abbrev pub invariant-loop-x : goal.invariant-loop-x
invariant-loop-x l = (i : ℕ) → i < l.x → (y : ℕ) → y < i → get_or l.keys y 0 ≡ get_or l.keys i 0 → ⊥
