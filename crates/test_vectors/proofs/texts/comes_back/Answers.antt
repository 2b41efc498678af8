use mathlib.Core.Path.{◌≡◌}
use Prim.Native.Nat.{ℕ}
use native.Mathlib.Omega.{arith}
use lib.ListN.{length, replicate, length-replicate, length-take}
use Rattle.test_trip.proofs.Steps.{no_keys}
use Rattle.test_vectors.proofs.texts.comes_back.Goals as goal

long : (n : ℕ) → length {A = ℕ} (replicate n 0) ≡ n
long n = length-replicate n 0

pub comes_back-requires : goal.comes_back-requires
comes_back-requires g c = record { buffers = (simp length-take (omega arith), long 20000, no_keys, long 266240) }
