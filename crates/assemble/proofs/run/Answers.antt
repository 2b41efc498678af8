use mathlib.Core.Path.{◌≡◌, refl}
use Prim.Native.Nat.{ℕ, zero, suc}
use native.Mathlib.Omega.{arith}
use lib.ListN.{get_or, replicate, length-replicate}
use Rattle.text_assemble.specs.Chunks.{KeysBounded}
use Rattle.assemble.proofs.run.Goals as goal

zeros : (n i : ℕ) → get_or {A = ℕ} (replicate n 0) i 0 ≡ 0
zeros zero i = refl
zeros (suc n) zero = refl
zeros (suc n) (suc i) = zeros n i

no_keys : KeysBounded (replicate 64 0)
no_keys = record { long = length-replicate {A = ℕ} 64 0; each = λ i. omega (arith, zeros 64 i) }

pub spool_text-requires : goal.spool_text-requires
spool_text-requires g c = record { ready = (no_keys, length-replicate {A = ℕ} 1024 0, length-replicate {A = ℕ} 266240 0) }
