use mathlib.Core.Path.{◌≡◌, sym}
use Prim.Native.Nat.{ℕ}
use lib.ListN.{length, replicate, length-replicate}
use Rattle.test_drawings.proofs.run.Goals as goal

long : (n : ℕ) → length {A = ℕ} (replicate n 0) ≡ n
long n = length-replicate n 0

pub slice_bounds-compare-end : goal.slice_bounds-compare-end
slice_bounds-compare-end g c = sym (long 1740000)

pub slice_bounds-compare-end-2 : goal.slice_bounds-compare-end-2
slice_bounds-compare-end-2 g c = sym (long 1740000)

pub compare-requires : goal.compare-requires
compare-requires g c = record { lengths = (long 1740000, long 1740000) }
