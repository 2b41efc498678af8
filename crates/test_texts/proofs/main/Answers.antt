use Rattle.std.proofs.Common.{◌≡◌, ℕ, length, replicate}
use lib.ListN.{length-replicate}
use Rattle.test_trip.proofs.Steps.{no_keys}
use Rattle.test_texts.proofs.main.Goals as goal

long : (n : ℕ) → length {A = ℕ} (replicate n 0) ≡ n
long n = length-replicate n 0

pub try_all-requires : goal.try_all-requires
try_all-requires c = record { buffers = (long 16384, long 20000, no_keys, long 266240) }
