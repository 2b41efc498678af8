use Rattle.std.proofs.Common.{◌≡◌, ◌≤◌, ltb, get_or}
use Rattle.model.specs.Sets.{count}
use Rattle.draw_places.proofs.rank.Given as goal

abbrev pub invariant-loop-other : goal.invariant-loop-other
invariant-loop-other l = (l.rank ≤ l.other-index) × (l.rank ≡ count l.other-index (λ z. ltb (get_or l.keys z 0) l.key))
