use mathlib.Core.Path.{◌≡◌, sym}
use Prim.Native.Nat.{ℕ}
use lib.ListN.{length, replicate, length-replicate}
use Rattle.show.proofs.main.Goals as goal

long : (n : ℕ) → length {A = ℕ} (replicate n 0) ≡ n
long n = length-replicate n 0

pub slice_bounds-run-end : goal.slice_bounds-run-end
slice_bounds-run-end c = sym (long 1740000)

pub run-requires : goal.run-requires
run-requires c = record { room = long 1740000 }
