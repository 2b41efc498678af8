-- Arrays of 64, filled from below.
use mathlib.Core.Path.{◌≡◌, refl, ap, ◌∙◌}
use mathlib.Core.List.{List}
use Prim.Native.Nat.{ℕ, zero, suc, ◌+◌, ◌<◌, ◌≤◌}
use native.Mathlib.Omega.{arith}
use native.Mathlib.Decide.{dec_lt}
use lib.ListN.{length, get_or, set, length-set, replicate}
use lib.Seq.{get_or-set_same, get_or-set_other}

-- f k at each k below z, and d from there on
pub record Filled {A : Type 0} (value : A → ℕ) (l : List A) (d : A) (f : ℕ → ℕ) (z : ℕ) : Type 0 where
  pub long : length l ≡ 64
  pub low : (k : ℕ) → k < z → value (get_or l k d) ≡ f k
  pub rest : (k : ℕ) → z ≤ k → get_or l k d ≡ d

pub fill_none : {A : Type 0} (value : A → ℕ) (d : A) (f : ℕ → ℕ) → Filled value (replicate 64 d) d f 0
fill_none {A} value d f = record { long = refl; low = λ k h. absurd (omega arith); rest = λ k h. same 64 k }
  where
    same : (n k : ℕ) → get_or (replicate n d) k d ≡ d
    same zero k = refl
    same (suc n) zero = refl
    same (suc n) (suc k) = same n k

module _ {A : Type 0} (value : A → ℕ) (l : List A) (d : A) (f : ℕ → ℕ) (z : ℕ) (e : Filled value l d f z) where
  pub fill_more : (v : A) → z < 64 → value v ≡ f z → Filled value (set l z v) d f (z + 1)
  fill_more v h p =
      record {
        long = length-set l z v ∙ e.long;
        low = λ k g. elim (dec_lt k z) [ yes y ↦ ap value (get_or-set_other l z k v d (omega arith)) ∙ e.low k y | no y ↦ here k (omega arith) ];
        rest = λ k g. get_or-set_other l z k v d (omega arith) ∙ e.rest k (omega arith);
      }
    where
      here : (k : ℕ) → k ≡ z → value (get_or (set l z v) k d) ≡ f k
      here k q = rw q (ap value (get_or-set_same l z v d (omega (arith, e.long))) ∙ p)
