use mathlib.Core.Path.{◌≡◌}
use mathlib.Core.List.{List}
use Prim.Native.Nat.{ℕ, ◌+◌, ◌≤◌}
use Rattle.model.specs.Leafset.{Table, size}
use Rattle.model.specs.Sets.{all}
use Rattle.valid_messages.specs.Parts.{first_reads, Halves}
use Rattle.valid_messages.proofs.halves_fit.Given as goal

abbrev pub invariant-loop-k : goal.invariant-loop-k
invariant-loop-k l =
    (l.k ≤ l.count) × ((ws : List ℕ) (base : ℕ) (t : Table) (from : ℕ) → size t ≡ l.n → Halves ws base from l.lows l.highs l.count
    → l.ok ≡ all l.k (λ i. first_reads ws base t (from + i)))
