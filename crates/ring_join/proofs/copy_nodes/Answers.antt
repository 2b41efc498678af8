-- A span of the second's words.
use mathlib.Core.Path.{◌≡◌, ap, subst}
use Prim.Native.Nat.{ℕ, ◌+◌, ◌-◌, ◌*◌}
use native.Mathlib.Omega.{arith}
use lib.ListN.{get_or}
use mathlib.Core.List.{List}
use Rattle.model.specs.Words.{node_place}
use Rattle.ring_ranges.specs.Spans.{Patched}
use Rattle.ring_ranges.proofs.Patches.{patched_as}
use Rattle.ring_join.proofs.copy_nodes.Goals as goal

copied : {ws ws' : List ℕ} (second : List ℕ) (n k : ℕ)
    → Patched ws ws' (1 + 2 * n) (1 + 2 * n + 2 * k) (λ i. get_or second (1 + (i - (1 + 2 * n))) 0)
    → Patched ws ws' (node_place n) (node_place (n + k)) (λ i. get_or second (i - 2 * n) 0)
copied {ws} {ws'} second n k p =
    let end : 1 + 2 * n + 2 * k ≡ node_place (n + k) = omega arith in
    subst (λ (to : ℕ). Patched ws ws' (node_place n) to (λ i. get_or second (i - 2 * n) 0)) end
    (patched_as p (λ i h l. let e : 1 + (i - (1 + 2 * n)) ≡ i - 2 * n = omega arith in ap (λ (j : ℕ). get_or second j 0) e))

pub returns : goal.returns
returns c = record { value = copied c.args.second.now c.args.n c.args.k c.copy_span.ensures.value }
