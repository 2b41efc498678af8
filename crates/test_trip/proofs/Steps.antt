-- The steps of a trip.
use mathlib.Core.Path.{◌≡◌, refl}
use mathlib.Core.List.{List}
use Prim.Native.Nat.{ℕ, zero, suc, ◌+◌, ◌≤◌}
use native.Mathlib.Omega.{arith}
use lib.ListN.{length, get_or, replicate, length-replicate}
use Rattle.text_form.specs.declared.Reader.{Reader}
use Rattle.text_form.specs.Assemble.{start}
use Rattle.text_reader.specs.Bounds.{ReaderBounded}
use Rattle.text_assemble.specs.Chunks.{KeysBounded}
use Rattle.text_reader.proofs.Bounded.{start_bounded}
use Rattle.test_trip.specs.Trips.{Ready}

pub ready_within : {j k : ℕ} {r : Reader} {ks out : List ℕ} → Ready j r ks out → j ≤ k → Ready k r ks out
ready_within r h = record { reader = r.reader; keys = r.keys; lines = omega (arith, r.lines); room = r.room }

pub ready_now : (n : ℕ) {k : ℕ} {r : Reader} {ks out : List ℕ} → Ready k r ks out → Ready (r.line + n) r ks out
ready_now n r = record { reader = r.reader; keys = r.keys; lines = omega arith; room = r.room }

pub ready_after : {k : ℕ} {q r : Reader} {ks out : List ℕ} → q ≡ r → ReaderBounded r → r.line ≤ k → KeysBounded ks
    → length out ≡ 266240 → Ready k q ks out
ready_after e h l ks room = record { reader = rw e h; keys = ks; lines = rw e l; room = room }

pub ready_first : {r : Reader} {ks out : List ℕ} → r ≡ start → KeysBounded ks → length out ≡ 266240 → Ready 1 r ks out
unfolding start
ready_first e ks room = rw e record { reader = start_bounded; keys = ks; lines = omega arith; room = room }

-- no keys yet
zeros : (n i : ℕ) → get_or {A = ℕ} (replicate n 0) i 0 ≡ 0
zeros zero zero = refl
zeros zero (suc i) = refl
zeros (suc n) zero = refl
zeros (suc n) (suc i) = zeros n i

pub no_keys : KeysBounded (replicate 64 0)
no_keys = record { long = length-replicate {A = ℕ} 64 0; each = λ i. omega (arith, zeros 64 i) }
