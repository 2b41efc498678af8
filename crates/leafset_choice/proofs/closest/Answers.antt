use mathlib.Core.Path.{subst₂}
use Prim.Native.Nat.{ℕ, ◌<◌, ◌≤◌}
use Rattle.leafset_choice.proofs.Spare.{others_low, closest_nobody, closest_found, closest_none}
use Rattle.leafset_choice.proofs.closest.Goals as goal

pub nearest-requires : goal.nearest-requires
nearest-requires c = record { members = others_low c.args.sides c.requires.table.0 _ _ _ c.leafset.ensures.value c.without-others.ensures.members }

pub returns-in_err-y : goal.returns-in_err-y
returns-in_err-y c = record {
  value =
      rw c.from_residual.ensures
      (closest_nobody c.args.sides c.requires.table.0 _ _ _ c.leafset.ensures.value c.without-others.ensures.members c.in_err-y.ensures.nearest);
  member = rw c.from_residual.ensures tt;
}

pub bounds-keys-index-2 : goal.bounds-keys-index-2
bounds-keys-index-2 c =
    rw c.index-2.ensures.value
    (others_low c.args.sides c.requires.table.0 _ _ _ c.leafset.ensures.value c.without-others.ensures.members _ c.in_ok-y.ensures.nearest.member)

pub returns-then-is_nearer : goal.returns-then-is_nearer
returns-then-is_nearer c = record {
  value =
      closest_found c.args.sides c.requires.table.0 _ _ _ c.leafset.ensures.value c.without-others.ensures.members
      (rw c.index.ensures.value at c.in_ok-y.ensures.nearest)
      (subst₂ (λ (m n : ℕ). m < n) (rw (c.index.ensures.value, c.index-2.ensures.value) at c.distance.ensures.value)
      (rw (c.index.ensures.value, c.index-3.ensures.value) at c.distance-2.ensures.value)
      c.if-is_nearer.true);
  member = others_low c.args.sides c.requires.table.0 _ _ _ c.leafset.ensures.value c.without-others.ensures.members _ c.in_ok-y.ensures.nearest.member;
}

pub returns-else-is_nearer : goal.returns-else-is_nearer
returns-else-is_nearer c = record {
  value =
      closest_none c.args.sides c.requires.table.0 _ _ _ c.leafset.ensures.value c.without-others.ensures.members
      (rw c.index.ensures.value at c.in_ok-y.ensures.nearest)
      (subst₂ (λ (m n : ℕ). m ≤ n) (rw (c.index.ensures.value, c.index-3.ensures.value) at c.distance-2.ensures.value)
      (rw (c.index.ensures.value, c.index-2.ensures.value) at c.distance.ensures.value)
      c.if-is_nearer.false);
  member = tt;
}
