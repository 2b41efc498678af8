-- Nodes in the order of their keys, key 0 last: the successor of a node that does not pass zero comes later. So a type 11 that goes on rises in rank.
use mathlib.Core.Path.{◌≡◌, refl, sym}
use Prim.Native.Nat.{ℕ, ◌≤◌, ◌<◌}
use native.Mathlib.Nat.{le_refl}
use native.Mathlib.Omega.{arith}
use mathlib.Core.Bool.{Bool, true, false, ◌&&◌}
use lib.Dec.{eqb, ltb}
use borrow.Author.Tests.{eqb-true, eqb-false, ltb-true, ltb-false, lt-ltb, le-ltb}
use Rattle.std.specs.Prelude.{if◌then◌else◌}
use Rattle.model.specs.Key.{clockwise}
use Rattle.model.specs.Sets.{Set, count, some}
use Rattle.model.specs.Leafset.{Table, size, key, successor, passes_zero}
use Rattle.model.specs.WellFormed.{WellFormedTable, Other}
use Rattle.model.proofs.Laws.{clash, is_false, if_law, count_le, count_more}
use Rattle.model.proofs.LeafsetSize.{same_key}
use Rattle.model.proofs.Choices.{successor_held}

-- key 0 counts as the last

abbrev last_key : ℕ → ℕ
last_key k = if eqb k 0 then 16777216 else k

-- whoever does not pass zero on the way from a to c goes up
goes_up : (a c : ℕ) → a < 16777216 → c < 16777216 → ¬ (a ≡ c) → clockwise a c ≤ clockwise a 0 → last_key a < last_key c
goes_up a c ha hc d h =
    if_law (λ (v : ℕ). v < last_key c) (eqb a 0) 16777216 a
    (λ e. let z : a ≡ 0 = eqb-true a 0 e in absurd (zero_case a c z hc d h))
    (λ e. if_law (λ (v : ℕ). a < v) (eqb c 0) 16777216 c (λ q. ha)
    (λ q. up_case a c ha hc (eqb-false a 0 e) (eqb-false c 0 q) d h))
  where
    zero_case : (a c : ℕ) → a ≡ 0 → c < 16777216 → ¬ (a ≡ c) → clockwise a c ≤ clockwise a 0 → ⊥
    zero_case a c z hc d h = omega arith

    up_case : (a c : ℕ) → a < 16777216 → c < 16777216 → ¬ (a ≡ 0) → ¬ (c ≡ 0) → ¬ (a ≡ c) → clockwise a c ≤ clockwise a 0 → a < c
    up_case a c ha hc n k d h = omega arith

module _ (t : Table) where
  -- how many nodes come before y
  pub rank : ℕ → ℕ
  rank y = count (size t) (λ z. ltb (last_key (key t z)) (last_key (key t y)))

  pub rank_low : (y : ℕ) → y < size t → rank y < size t
  unfolding rank
  rank_low y h =
      let m = count_more (λ z. ltb (last_key (key t z)) (last_key (key t y))) (λ z. true) (size t) (λ i l e. refl) y h
      (le-ltb (last_key (key t y)) (last_key (key t y)) (le_refl (last_key (key t y)))) refl in
      let l = count_le (size t) (λ z. true) in
      omega arith

  rank_rises : (x y : ℕ) → x < size t → last_key (key t x) < last_key (key t y) → rank x < rank y
  unfolding rank
  rank_rises x y h l =
      count_more (λ z. ltb (last_key (key t z)) (last_key (key t x))) (λ z. ltb (last_key (key t z)) (last_key (key t y))) (size t)
      (λ i k e. let q = ltb-true (last_key (key t i)) (last_key (key t x)) e in lt-ltb (last_key (key t i)) (last_key (key t y)) (omega arith))
      x h (le-ltb (last_key (key t x)) (last_key (key t x)) (le_refl (last_key (key t x)))) (lt-ltb (last_key (key t x)) (last_key (key t y)) l)

  -- the successor of a node that does not pass zero has a higher rank
  pub next_rank :
      WellFormedTable t → (x : ℕ) (S : Set) → ((z : ℕ) → S z ≡ true → Other (size t) x z) → x < size t → some (size t) S ≡ true → passes_zero t x S ≡ false
      → rank x < rank (successor t x S)
  unfolding passes_zero
  next_rank g x S others low any no-pass =
      let y : ℕ = successor t x S in
      let o : Other (size t) x y = others y (successor_held t x S any) in
      let below : clockwise (key t x) (key t y) ≤ clockwise (key t x) 0 =
      ltb-false (clockwise (key t x) 0) (clockwise (key t x) (key t y))
      (is_false (ltb (clockwise (key t x) 0) (clockwise (key t x) (key t y))) (λ q. clash (both any q) no-pass)) in
      let hx = g.key_high x low in
      let hy = g.key_high y o.low in
      rank_rises x y low (goes_up (key t x) (key t y) (omega arith) (omega arith) (λ i. o.differs (sym (one_key x y low o.low i))) below)
    where
      both : {a c : Bool} → a ≡ true → c ≡ true → (a && c) ≡ true
      both p q = rw (p, q)

      one_key : (a c : ℕ) → a < size t → c < size t → key t a ≡ key t c → a ≡ c
      one_key a c ha hc i = same_key t g a c ha hc i
