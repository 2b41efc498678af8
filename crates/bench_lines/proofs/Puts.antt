-- Bytes put one after the other.
use mathlib.Core.Path.{◌≡◌, refl, sym, ap, ◌∙◌}
use mathlib.Core.List.{List, [], ◌++◌, append_assoc, append-nil}
use Prim.Native.Nat.{ℕ, ◌+◌, ◌≤◌}
use native.Mathlib.Omega.{arith}
use lib.ListN.{length, take, length-append, length-take}
use Rattle.bench_lines.specs.Put.{Put}

pub put_none : (l : List ℕ) (at : ℕ) → Put l l at at []
put_none l at = record { written = sym (append-nil (take at l)); ends = omega arith; long = refl }

pub put_more : {e m x b c : List ℕ} {at mid end : ℕ} → Put e m at mid b → Put m x mid end c → Put e x at end (b ++ c)
put_more {e} {m} {x} {b} {c} {at} p q =
    record {
      written = q.written ∙ ap (λ (l : List ℕ). l ++ c) p.written ∙ append_assoc (take at e) b c;
      ends = omega (arith, length-append b c);
      long = q.long ∙ p.long;
    }

-- what is put from the start on is within the buffer
pub put_within : {e x b : List ℕ} {end : ℕ} → Put e x 0 end b → end ≤ length x
put_within {x = x} {end = end} p = omega (arith, p.ends, simp length-take at (ap length p.written))

pub put_as : {e x b c : List ℕ} {at end : ℕ} → Put e x at end b → b ≡ c → Put e x at end c
put_as {e} {x} {b} {c} {at} p q =
    record { written = p.written ∙ ap (λ (l : List ℕ). take at e ++ l) q; ends = p.ends ∙ ap (λ (l : List ℕ). at + length l) q; long = p.long }
